use Rattle.std.proofs.lemmas.Result.{err_from_is_err_and}
use Rattle.cad_schema.specs.Schema.{schema_of}
use Rattle.cql_tree.specs.Syntax.{none, leaf, day_leaf, date_op}
use Rattle.cql_types.proofs.Judging.{node_judged, last_part, fault_here}
use Rattle.cql_types.proofs.checking.judge_date.Goals as goal

pub returns-in_err-part : goal.returns-in_err-part
returns-in_err-part c =
    let p = err_from_is_err_and c.from_residual.result c.from_residual.ensures.1 in
    rw (p.1, p.2) (fault_here (schema_of c.args.collection) (date_op c.args.place) (leaf c.args.text_place (day_leaf _)) none c.in_err-part.field-0.0 c.in_err-part.ensures)

pub returns : goal.returns
returns c = node_judged (date_op c.args.place) _ (last_part c.in_ok-part.ensures) c.date.ensures
