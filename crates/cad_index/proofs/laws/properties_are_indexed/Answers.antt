use Rattle.cad_schema.specs.Schema.{schema_of}
use Rattle.cad_index.proofs.Schemas.{index_is}
use Rattle.cad_index.proofs.laws.properties_are_indexed.Goals as goal

pub returns : goal.returns
returns c = λ collection xs place property e. index_is (schema_of collection) xs place property e
