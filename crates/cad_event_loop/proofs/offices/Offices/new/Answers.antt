use Rattle.std.proofs.Common.{ℕ, ◌+◌, None, ap, ◌∙◌, refl}
use Rattle.std.proofs.lemmas.List.{length_push}
use Rattle.cad_event_loop.proofs.SeatLemmas.{free_more}
use Rattle.cad_event_loop.proofs.offices.Offices.new.Goals as goal

pub loop-at-init : goal.loop-at-init
loop-at-init g c = rw c.new-seats.ensures.items (refl, λ d. refl)

pub loop-at-preserved : goal.loop-at-preserved
loop-at-preserved g c =
    let held = c.loop-at.invariant in
    rw c.in_ok-push.ensures.items (length_push c.loop-at.seats.items None ∙ ap (λ (n : ℕ). n + 1) held.0, free_more c.loop-at.seats.items held.1)

pub returns : goal.returns
returns g c = c.loop-at.invariant.1
