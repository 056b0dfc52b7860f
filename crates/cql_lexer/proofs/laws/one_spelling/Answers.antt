use Rattle.cql_lexer.proofs.Spellings.{one_spelling}
use Rattle.cql_lexer.proofs.laws.one_spelling.Goals as goal

pub returns : goal.returns
returns c = one_spelling
