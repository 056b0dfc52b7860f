use Rattle.std.proofs.Common.{Some, subst, sym}
use Rattle.cad_feature.specs.Features.{Item, identifier_of}
use Rattle.cad_run.specs.inner.Ends.{IsEnd}
use Rattle.cad_run.proofs.EndLemmas.{last_is_end}
use Rattle.cad_run.proofs.segment_end.last_feature.Goals as goal

pub returns : goal.returns
returns c =
    subst (λ (x : Item). IsEnd (Some (identifier_of x)) c.args.features.now) (sym c.last.view_is)
    (last_is_end c.args.features.now c.in_ok-last._others.now c.in_ok-last.last.now c.in_ok-last.ensures.cases.0 c.requires)
