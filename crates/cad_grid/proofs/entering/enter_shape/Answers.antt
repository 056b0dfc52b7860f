use Rattle.cad_grid.proofs.Tallies.{hits_push}
use Rattle.cad_grid.proofs.entering.enter_shape.Goals as goal

pub returns-in_ok-push-in-Some-clause-wide : goal.returns-in_ok-push-in-Some-clause-wide
returns-in_ok-push-in-Some-clause-wide c = λ v. rw (c.in-Some.is, ← c.if-is_wide.ensures, c.in_ok-push-in-Some.ensures.items) (hits_push v c.args.wide.now.items c.args.position)
