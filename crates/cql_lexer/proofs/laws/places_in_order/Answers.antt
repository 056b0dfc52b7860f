use Rattle.cql_lexer.proofs.Spellings.{places_in_order}
use Rattle.cql_lexer.proofs.laws.places_in_order.Goals as goal

pub returns : goal.returns
returns c = places_in_order
