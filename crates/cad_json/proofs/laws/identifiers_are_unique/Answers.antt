use Rattle.cad_json.proofs.IdentifierLemmas.{identifier_unique}
use Rattle.cad_json.proofs.laws.identifiers_are_unique.Goals as goal

pub returns : goal.returns
returns c = identifier_unique
