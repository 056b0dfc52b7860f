use Rattle.cad_schema.specs.Schema.{schema_of}
use Rattle.cql_tree.specs.Views.{syntax_of}
use Rattle.cql_types.proofs.Verdict.{accepted, refused}
use Rattle.cql_types.proofs.checking.check.Goals as goal

pub returns-clause-accepted : goal.returns-clause-accepted
returns-clause-accepted c =
    accepted c.fault_or_condition.ensures (schema_of c.args.collection) (syntax_of c.args.tree.now.root) c.check_tree.result c.check_tree.ensures.fault

pub returns-clause-refused : goal.returns-clause-refused
returns-clause-refused c =
    refused c.fault_or_condition.ensures c.one_least_fault.ensures (schema_of c.args.collection) (syntax_of c.args.tree.now.root) c.check_tree.result
    c.check_tree.ensures.condition c.check_tree.ensures.least c.args.tree.now.ordered
