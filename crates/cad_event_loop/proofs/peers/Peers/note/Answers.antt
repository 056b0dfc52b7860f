use Rattle.std.proofs.Common.{ℕ, ◌+◌, List, [], ◌∷◌, ◌++◌, length-append, ap, ◌∙◌}
use Rattle.cad_network.specs.Deeds.{Deed, woke}
use Rattle.cad_network.specs.lemmas.DeedLemmas.{Adds-trans}
use Rattle.cad_event_loop.proofs.GoesLemmas.{same-trans, told_then, told_office_then, woken_more}
use Rattle.cad_event_loop.specs.inner.Standing.{flag_at}
use Rattle.cad_event_loop.proofs.peers.Peers.note.Goals as goal

pub loop-preserved : goal.loop-preserved
loop-preserved g c =
    let told = c.loop.invariant.0 in
    let many = c.loop.invariant.1 in
    let one = c.in-Some.ensures.done in (
      (
        told.0 ++ woke c.in-Some.place ∷ [],
        Adds-trans _ _ _ told.0 _ told.1 one,
        (told.2.0 ++ c.in-Some.place ∷ [], ap (λ (l : List Deed). l ++ woke c.in-Some.place ∷ []) told.2.1 ∙ woken_more told.2.0 c.in-Some.place, ((λ d. told_then d told.2.0 c.in-Some.place c.args.self.now.clients c.loop.self.clients c.mark.new.self.clients (told.2.2.0 d) (c.mark.ensures.woken d)), (λ k. told_office_then k told.2.0 c.in-Some.place (flag_at c.args.self.now.ready k) (flag_at c.loop.self.ready k) (flag_at c.mark.new.self.ready k) (told.2.2.1 k) (c.mark.ensures.offices k)), c.mark.ensures.line ∙ told.2.2.2)),
      ),
      (
        many.0 ++ woke c.in-Some.place ∷ [],
        Adds-trans _ _ _ many.0 _ many.1 one,
        length-append many.0 (woke c.in-Some.place ∷ []) ∙ ap (λ (n : ℕ). n + 1) many.2,
      ),
      same-trans _ _ _ c.loop.invariant.2 c.mark.ensures.held,
    )
