use Rattle.std.proofs.Common.{◌∙◌, false}
use Rattle.cad_feature.specs.Features.{datum_at}
use Rattle.cad_feature.specs.Limits.{scalar_datum}
use Rattle.cad_range.specs.Ranges.{compared as order_of}
use Rattle.cql_rewrite.proofs.Forms.{meets_Range}
use Rattle.cql_rewrite.proofs.Least.{counted_Constant}
use Rattle.cql_rewrite.proofs.Turns.{ranged}
use Rattle.cql_rewrite.proofs.comparison.exact_form.Goals as goal

pub returns-in-Decided-clause-counted : goal.returns-in-Decided-clause-counted
returns-in-Decided-clause-counted c = λ t. counted_Constant t _

pub returns-in-Never-clause-counted : goal.returns-in-Never-clause-counted
returns-in-Never-clause-counted c = λ t. counted_Constant t false

pub returns-in-Some-clause-stands : goal.returns-in-Some-clause-stands
returns-in-Some-clause-stands c = λ x s h.
    let k = c.in-Compared in
    let says = c.in_ok-range-in-Compared.ensures.says x in
    meets_Range x c.in-Some.range
    ∙ (rw c.in-Some.is at says)
    ∙ ranged c.args.side k.by c.sided.result (order_of (datum_at x k.property) (scalar_datum k.scalar)) s c.sided.ensures.fails (rw k.is at h)
