use Rattle.std.proofs.Common.{subst}
use Rattle.std.specs.Prelude.{option_map}
use Rattle.cad_run.specs.inner.Ends.{IsEnd}
use Rattle.cad_run.specs.Slices.{identifier}
use Rattle.cad_run.proofs.EndLemmas.{later_end_is, one_named}
use Rattle.cad_run.proofs.segment_end.later_end.Goals as goal

pub returns : goal.returns
returns c = λ xs ys up end other.
    later_end_is (option_map identifier c.args.one) (identifier c.in-Some.last) (identifier c.later_of.result) c.later_of.ensures.later
    (one_named c.args.one c.in-Some.last c.later_of.result c.later_of.ensures.one) xs ys up end
    (subst (λ o. IsEnd (option_map identifier o) ys) c.in-Some.is other)
