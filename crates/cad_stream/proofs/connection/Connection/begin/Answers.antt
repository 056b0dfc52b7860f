use Rattle.std.proofs.Common.{rules, ◌≡◌, ℕ, drop, Some, ap, sym, refl, ◌∙◌}
use Rattle.std.proofs.lemmas.Result.{err_from_is_err_and}
use Rattle.cad_stream.proofs.FeedLemmas.{replies_fed, holds_more, fails_fed}
use Rattle.cad_stream.specs.Beginning.{told_all}
use Rattle.cad_stream.specs.Begins.{owed, owed_by, left_begun}
use Rattle.std.specs.Prelude.{option_map}
use Rattle.cad_stream.specs.Feeding.{bytes_left}
use Rattle.cad_stream.proofs.connection.Connection.begin.Goals.{in-None, in-Some}
use Rattle.cad_stream.proofs.connection.Connection.begin.Goals as goal

pub returns-then-not-settles : goal.returns-then-not-settles
returns-then-not-settles g c =
    let waiting = (rw (c.deref.ensures.value, c.deref-2.ensures.value) at c.may_settle-settles.ensures.stays) c.if-not-settles.true c.args.self.waits in
    holds_more g.R.Responder (owed g.R.WorkingResponder.owes) (owed_by g.R.WorkingResponder.owes) left_begun g.met.R.Responder.remains_here c.args.self.held.items c.args.piece.items _ _ (ap (told_all g.R.WorkingResponder.owes) c.new.ensures.items) (ap Some c.in_ok-all.ensures) waiting

pub returns-in_err-begun : goal.returns-in_err-begun
returns-in_err-begun g c =
    let failed = err_from_is_err_and c.from_residual-in_err-begun.result c.from_residual-in_err-begun.ensures.1 in
    let fault : failed.0 ≡ c.in_err-begun.field-0.0 = failed.2 in
    rw (failed.1, fault) (fails_fed g.R.Responder (owed g.R.WorkingResponder.owes) (owed_by g.R.WorkingResponder.owes) left_begun c.args.self.held.items c.args.piece.items _ _ _ _ (c.deref-3.ensures.value ∙ c.in_ok-all.ensures) c.in_err-begun.ensures)

pub returns : goal.returns
returns g c =
    let settles = sym (rw (c.deref.ensures.value, c.deref-2.ensures.value) at c.may_settle-settles.ensures.exact) ∙ c.if-not-settles.false in
    let left : bytes_left c.match-begun.connection ≡ option_map (λ (used : ℕ). drop used c.deref-3.result.now) c.in_ok-begun.begun.used =
    elim c.match-begun.branch [ in-None w ↦ rw (w.connection-is, w.in-None.is) refl | in-Some w ↦ search rules ] in
    replies_fed g.R.Responder (owed g.R.WorkingResponder.owes) (owed_by g.R.WorkingResponder.owes) left_begun c.args.self.held.items c.args.piece.items c.deref-3.result.now _ _ c.in_ok-begun.begun _ (c.deref-3.ensures.value ∙ c.in_ok-all.ensures) settles refl left c.in_ok-begun.ensures
