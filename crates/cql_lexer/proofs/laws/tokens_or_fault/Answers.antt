use Rattle.cql_lexer.proofs.Decided.{tokens_or_fault}
use Rattle.cql_lexer.proofs.laws.tokens_or_fault.Goals as goal

pub returns : goal.returns
returns c = tokens_or_fault
