use Rattle.cql_parser.specs.Machine.{as_primary}
use Rattle.cql_parser.proofs.literal.parse_digits.Goals as goal

pub returns-clause-parses : goal.returns-clause-parses
returns-clause-parses c = λ k. rw c.in_ok-tree.ensures (c.in_ok-number.ensures.takes (as_primary k))
