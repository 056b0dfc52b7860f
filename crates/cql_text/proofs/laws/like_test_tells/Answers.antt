use Rattle.std.proofs.Common.{refl}
use Rattle.cql_text.proofs.LikenessLemmas.{tells}
use Rattle.cql_text.specs.Patterns.{like_test}
use Rattle.cql_text.proofs.laws.like_test_tells.Goals as goal

pub returns : goal.returns
returns c = λ pattern text. tells pattern text (like_test pattern text) refl
