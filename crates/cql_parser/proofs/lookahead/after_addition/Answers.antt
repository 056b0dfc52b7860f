use Rattle.cql_parser.specs.Grammar.{plus_adds, minus_adds}
use Rattle.cql_parser.proofs.lookahead.after_addition.Goals as goal

pub returns-in-Plus-clause-adds : goal.returns-in-Plus-clause-adds
returns-in-Plus-clause-adds c = plus_adds

pub returns-in-Minus-clause-adds : goal.returns-in-Minus-clause-adds
returns-in-Minus-clause-adds c = minus_adds
