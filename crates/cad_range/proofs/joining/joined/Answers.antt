use Rattle.std.proofs.Common.{◌∙◌}
use Rattle.cad_feature.specs.Features.{datum_at}
use Rattle.cad_range.proofs.OrderLemmas.{joins, none_above, none_under}
use Rattle.cad_range.proofs.joining.joined.Goals as goal

pub returns : goal.returns
returns c = λ x.
    let first = c.args.first in
    let second = c.args.second in
    c.range_between.ensures x
    ∙ rw (c.chosen.ensures, c.chosen-2.ensures, ← c.requires) (joins c.in_ok-low.low c.in_ok-high.high first.low first.high second.low second.high c.in_ok-low.ensures c.in_ok-high.ensures (datum_at x first.property))

pub returns-in_err-low : goal.returns-in_err-low
returns-in_err-low c = λ x.
    let first = c.args.first in
    let second = c.args.second in
    let d = datum_at x first.property in
    rw (c.from_residual.ensures, ← c.requires) (none_above first.low first.high second.low second.high d (c.in_err-low.ensures d))

pub returns-in_err-high : goal.returns-in_err-high
returns-in_err-high c = λ x.
    let first = c.args.first in
    let second = c.args.second in
    let d = datum_at x first.property in
    rw (c.from_residual-in_err-high.ensures, ← c.requires) (none_under first.low first.high second.low second.high d (c.in_err-high.ensures d))
