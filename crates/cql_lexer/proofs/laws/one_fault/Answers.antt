use Rattle.cql_lexer.proofs.Ends.{one_fault}
use Rattle.cql_lexer.proofs.laws.one_fault.Goals as goal

pub returns : goal.returns
returns c = one_fault
