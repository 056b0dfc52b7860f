use Rattle.cad_schema.specs.Schema.{schema_of}
use Rattle.cad_json.proofs.PropertyLemmas.{schema_apart, get_member-at}
use Rattle.cad_json.proofs.laws.every_property_is_written.Goals as goal

pub returns : goal.returns
returns c collection x i p fit here is = get_member-at (schema_of collection) x.values i p (schema_apart collection) fit.fits here is
