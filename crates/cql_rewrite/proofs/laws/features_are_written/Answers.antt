use Rattle.cql_rewrite.proofs.WrittenLemmas.{written}
use Rattle.cql_rewrite.proofs.laws.features_are_written.Goals as goal

pub returns : goal.returns
returns c = λ x. written c.args.collection x
