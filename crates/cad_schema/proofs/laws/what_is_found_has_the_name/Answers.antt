use Rattle.std.proofs.Common.{◌≡◌, arith}
use Rattle.cad_schema.specs.Schema.{schema_of}
use Rattle.cad_schema.proofs.PropertyLemmas.{found_from}
use Rattle.cad_schema.proofs.laws.what_is_found_has_the_name.Goals as goal

pub returns : goal.returns
returns c = λ name place kind found.
    let stands = found_from 0 (schema_of c.args.collection) name place kind found in
    let same : place ≡ stands.0 = omega (arith, stands.1) in
    rw same stands.2
