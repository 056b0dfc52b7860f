use Rattle.cad_schema.specs.Schema.{schema_of}
use Rattle.cad_json.proofs.PropertyLemmas.{schema_apart, value_named-at}
use Rattle.cad_json.proofs.laws.values_stand_under_their_names.Goals as goal

pub returns : goal.returns
returns c collection x i p v here there = value_named-at (schema_of collection) x.values i p v (schema_apart collection) here there
