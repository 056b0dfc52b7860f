use Rattle.std.proofs.lemmas.Result.{err_from_is_err_and}
use Rattle.cad_schema.specs.Schema.{schema_of}
use Rattle.cql_tree.specs.Views.{syntax_of}
use Rattle.cql_types.proofs.Verdict.{whole_faults, whole_wrong, whole_answer, match_ok, match_err, match_condition, match_fault}
use Rattle.cql_types.proofs.checking.check_tree.Goals as goal

pub returns-clause-condition : goal.returns-clause-condition
returns-clause-condition c =
    match_condition (schema_of c.args.collection) (syntax_of c.args.tree.now.root) c.one.result _
    (whole_answer c.one.result c.in_ok-judged.ensures c.one.ensures.ok c.one.ensures.err)

pub returns-clause-filter : goal.returns-clause-filter
returns-clause-filter c =
    match_ok c.one.result _ _ (whole_answer c.one.result c.in_ok-judged.ensures c.one.ensures.ok c.one.ensures.err)

pub returns-clause-fault : goal.returns-clause-fault
returns-clause-fault c =
    match_fault (schema_of c.args.collection) (syntax_of c.args.tree.now.root) c.one.result _
    (whole_answer c.one.result c.in_ok-judged.ensures c.one.ensures.ok c.one.ensures.err)

pub returns-clause-least : goal.returns-clause-least
returns-clause-least c =
    match_err c.one.result _ _ (whole_answer c.one.result c.in_ok-judged.ensures c.one.ensures.ok c.one.ensures.err)

pub returns-in_err-judged-clause-fault : goal.returns-in_err-judged-clause-fault
returns-in_err-judged-clause-fault c =
    let p = err_from_is_err_and c.from_residual.result c.from_residual.ensures.1 in
    rw (p.1, p.2) (whole_wrong (schema_of c.args.collection) (syntax_of c.args.tree.now.root) c.in_err-judged.field-0.0 c.in_err-judged.ensures)

pub returns-in_err-judged-clause-least : goal.returns-in_err-judged-clause-least
returns-in_err-judged-clause-least c =
    let p = err_from_is_err_and c.from_residual.result c.from_residual.ensures.1 in
    rw (p.1, p.2) (whole_faults (schema_of c.args.collection) (syntax_of c.args.tree.now.root) c.in_err-judged.field-0.0 c.args.tree.now.ordered c.in_err-judged.ensures)
