use Rattle.cad_schema.specs.Schema.{schema_of}
use Rattle.cql_filter.proofs.Verdict.{accepted, refused}
use Rattle.cql_filter.proofs.reading.read.Goals as goal

pub returns-clause-accepted : goal.returns-clause-accepted
returns-clause-accepted c =
    accepted c.fault_or_filter.ensures (schema_of c.args.collection) c.args.text.now c.read_filter.result c.read_filter.ensures

pub returns-clause-refused : goal.returns-clause-refused
returns-clause-refused c =
    refused c.fault_or_filter.ensures c.one_first_fault.ensures (schema_of c.args.collection) c.args.text.now c.read_filter.result
    c.read_filter.ensures
