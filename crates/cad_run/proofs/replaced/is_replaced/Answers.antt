use Rattle.std.proofs.Common.{None, Some, ap, subst}
use Rattle.cad_feature.specs.Features.{identifier_of}
use Rattle.cad_layer.specs.Identifiers.{IsTheOne}
use Rattle.cad_run.proofs.StandingLemmas.{not_replaced, replaced}
use Rattle.cad_run.proofs.replaced.is_replaced.Goals as goal

pub returns-in-None : goal.returns-in-None
returns-in-None c = not_replaced c.args.feature.now c.args.changes.now (subst (λ wanted. IsTheOne wanted c.args.changes.now None) (ap identifier_of c.feature.view_is) c.in-None.ensures)

pub returns-in-Some : goal.returns-in-Some
returns-in-Some c = replaced c.args.feature.now c.args.changes.now c.in-Some.field-0.now (subst (λ wanted. IsTheOne wanted c.args.changes.now (Some c.in-Some.field-0.now)) (ap identifier_of c.feature.view_is) c.in-Some.ensures)
