use Rattle.cql_meaning.specs.lemmas.NodeLemmas.{sides_InWhole, sides_InText, sides_InDay, sides_InFlag, sides_CompareWhole, sides_CompareText, sides_CompareDay, sides_CompareFlag}
use Rattle.cql_lexer.specs.declared.token.Comparison.TheVariants.{Equal}
use Rattle.cql_meaning.proofs.PartLemmas.{some_equal}
use Rattle.cql_meaning.proofs.laws.in_is_some_equal.Goals as goal

pub returns : goal.returns
returns c = (
  λ a items fs x is. some_equal x _ _ items.items fs (λ b. sides_CompareWhole x Equal a b) is (sides_InWhole x a items),
  λ a items fs x is. some_equal x _ _ items.items fs (λ b. sides_CompareText x Equal a b) is (sides_InText x a items),
  λ a items fs x is. some_equal x _ _ items.items fs (λ b. sides_CompareDay x Equal a b) is (sides_InDay x a items),
  λ a items fs x is. some_equal x _ _ items.items fs (λ b. sides_CompareFlag x Equal a b) is (sides_InFlag x a items),
)
