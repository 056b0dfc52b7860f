use Rattle.cql_text.proofs.EndLemmas.{never}
use Rattle.cql_text.proofs.pattern.begins_otherwise.Goals as goal

pub returns-in_default-clause-told : goal.returns-in_default-clause-told
returns-in_default-clause-told c = never (λ m. c.in_default.ensures.part m.0 m.1)
