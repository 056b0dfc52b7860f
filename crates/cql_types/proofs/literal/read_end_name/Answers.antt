use Rattle.std.proofs.Common.{◌∙◌, sym, ap}
use Rattle.cad_schema.specs.Schema.{schema_of}
use Rattle.cql_types.specs.Kinds.{kind_of_name}
use Rattle.cql_types.specs.Contract.{leaf_first}
use Rattle.cql_types.proofs.EndLemmas.{name_read}
use Rattle.cql_types.proofs.literal.read_end_name.Goals as goal

pub returns-in-None : goal.returns-in-None
returns-in-None c = rw c.at.ensures (leaf_first (ap kind_of_name (sym c.find_property.ensures ∙ c.in-None.is)))

pub returns-in-Some : goal.returns-in-Some
returns-in-Some c = rw c.end_of_property.ensures (name_read (schema_of c.args.collection) c.args.place c.args.name.now c.in-Some.property c.in-Some.kind (sym c.find_property.ensures ∙ c.in-Some.is))
