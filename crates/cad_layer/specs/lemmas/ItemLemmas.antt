-- Features are ordered totally by their identifiers.
use Rattle.std.proofs.Common.{◌≡◌, ◌∙◌, List, ◌∷◌, Ordering, ap, subst, sym}
use Rattle.std.specs.Cmp.{IsTotalOrder}
use Rattle.std.proofs.lemmas.Cmp.{on_total}
use Rattle.cad_versions.specs.lemmas.OrderLemmas.{identifiers_total}
use Rattle.cad_feature.specs.Features.{identifier_of, by_identifier, Item}
use Rattle.std.specs.List.Sorted.{IsStrictlySortedBy}

pub items_total : IsTotalOrder by_identifier
items_total = on_total identifier_of identifiers_total

-- the rest of a list that ascends ascends
pub rest_rises : {X : Type 0} (cmp : X → X → Ordering) (x : X) (xs ys : List X) → ys ≡ x ∷ xs → IsStrictlySortedBy cmp ys → IsStrictlySortedBy cmp xs
unfolding IsStrictlySortedBy
rest_rises cmp x xs ys e up = (subst (IsStrictlySortedBy cmp) e up).1

-- the same front, for a feature that equals it
pub front_as : (xs rest : List Item) (x y : Item) → xs ≡ x ∷ rest → y ≡ x → xs ≡ y ∷ rest
front_as xs rest x y e same = e ∙ ap (λ z. z ∷ rest) (sym same)
