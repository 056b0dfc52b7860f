use Rattle.cql_parser.proofs.Depth.{shallow, deep_none}
use Rattle.cql_parser.proofs.laws.open_parentheses_are_counted.Goals as goal

pub returns : goal.returns
returns c = λ tokens. (shallow tokens, deep_none tokens)
