use Rattle.std.proofs.Common.{FitsSigned, w64, rules, to_z-of_z}
use Rattle.std.proofs.lemmas.Result.{err_from_is_err_and}
use Rattle.cql_types.proofs.LiteralLemmas.{x_wrong, y_wrong, position_read}
use Rattle.cql_types.proofs.literal.read_position.Goals as goal

pub returns-in_err-x : goal.returns-in_err-x
returns-in_err-x c =
    let p = err_from_is_err_and c.from_residual.result c.from_residual.ensures.1 in
    rw (p.1, p.2) (x_wrong c.args.corner.now c.in_err-x.field-0.0 c.in_err-x.ensures)

pub returns-in_err-y : goal.returns-in_err-y
returns-in_err-y c =
    let p = err_from_is_err_and c.from_residual-in_err-y.result c.from_residual-in_err-y.ensures.1 in
    rw (p.1, p.2) (y_wrong c.args.corner.now c.in_err-y.field-0.0 c.in_ok-x.ensures c.in_err-y.ensures)

pub returns : goal.returns
returns c =
    let x : FitsSigned w64 c.in_ok-x.x = search rules in
    let y : FitsSigned w64 c.in_ok-y.y = search rules in
    rw (to_z-of_z x, to_z-of_z y) (position_read c.args.corner.now c.in_ok-x.ensures c.in_ok-y.ensures)
