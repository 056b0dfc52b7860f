use Rattle.cql_lexer.proofs.Ends.{fault_or_tokens}
use Rattle.cql_lexer.proofs.laws.fault_or_tokens.Goals as goal

pub returns : goal.returns
returns c = fault_or_tokens
