use Rattle.cad_schema.specs.Schema.{schema_of}
use Rattle.cad_json.proofs.PropertyLemmas.{schema_apart, get_member-properties}
use Rattle.cad_json.proofs.laws.properties_hold_the_values.Goals as goal

pub returns : goal.returns
returns c collection x name = get_member-properties name (schema_of collection) x.values (schema_apart collection)
