use Rattle.cql_lexer.proofs.Spellings.{tokens_at_places}
use Rattle.cql_lexer.proofs.laws.tokens_at_places.Goals as goal

pub returns : goal.returns
returns c = tokens_at_places
