use Rattle.std.proofs.Common.{refl, zero-add}
use Rattle.cad_schema.specs.lemmas.NameLemmas.{each_passes}
use Rattle.cad_schema.specs.Schema.{schema_of}
use Rattle.cad_schema.proofs.PropertyLemmas.{are_distinct, stands_from}
use Rattle.cad_schema.proofs.laws.each_property_has_its_own_name.Goals as goal

pub returns : goal.returns
returns c = λ place name kind stands.
    let distinct = each_passes (λ collection. are_distinct (schema_of collection)) refl c.args.collection in
    let found = stands_from 0 (schema_of c.args.collection) place name kind distinct stands in
    rw zero-add at found
