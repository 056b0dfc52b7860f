use Rattle.std.proofs.Common.{◌∙◌, sym}
use Rattle.cad_range.specs.Ranges.{lies_in_if_any}
use Rattle.cql_rewrite.specs.Meets.{Written, meets}
use Rattle.cql_rewrite.proofs.Least.{count_alike}
use Rattle.cql_rewrite.proofs.between.literal_between.Goals as goal

pub returns-in-Property-Constant-Constant-clause-counted : goal.returns-in-Property-Constant-Constant-clause-counted
returns-in-Property-Constant-Constant-clause-counted c = λ t.
    c.range_or_never.ensures.costs t
    ∙ sym (count_alike (λ (x : Written). meets x.item c.range_or_never.result) (λ (x : Written). lies_in_if_any x.item c.between_wholes.result) t (λ x. c.range_or_never.ensures.stands x.item))
