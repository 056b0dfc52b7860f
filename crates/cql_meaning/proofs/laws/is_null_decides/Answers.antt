use Rattle.std.proofs.Common.{ap, sym, not, ◌∙◌}
use Rattle.cql_meaning.specs.lemmas.NodeLemmas.{sides_IsNull}
use Rattle.cql_meaning.proofs.laws.is_null_decides.Goals as goal

pub returns : goal.returns
returns c = λ a x. ap (λ s. s.no) (sides_IsNull x a) ∙ sym (ap (λ s. not s.yes) (sides_IsNull x a))
