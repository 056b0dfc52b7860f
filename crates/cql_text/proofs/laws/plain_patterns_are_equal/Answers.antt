use Rattle.cql_text.proofs.PlainLemmas.{plain_equal}
use Rattle.cql_text.proofs.laws.plain_patterns_are_equal.Goals as goal

pub returns : goal.returns
returns c = plain_equal
