-- The front of features and of the changes to them.
use Rattle.std.proofs.Common.{◌≡◌, ◌∙◌, true, false, not, List, [], ◌∷◌, Bor, sym, refl, subst, true≢false, Option, Ordering, Less, Equal, Greater, is_eq, is_gt}
use Rattle.std.specs.Prelude.{if◌then◌else◌}
use Rattle.std.specs.List.Sorted.{IsStrictlySortedBy}
use Rattle.cad_feature.specs.Features.{Item, by_identifier}
use Rattle.cad_layer.specs.lemmas.ItemLemmas.{items_total}
use Rattle.cad_layer.specs.lemmas.MergeLemmas.{change_first, change_before, change_in_place, change_behind}
use Rattle.cad_layer.specs.Walks.{all_in, IsInOrder}
use Rattle.cad_run.specs.Peeked.{stands_first, without}
pub use Rattle.cad_run.specs.lemmas.TakenLemmas.{IsTaken, nothing_rises, taken_rises, without_rises}

-- ---- a change that stands first

pub first_change : (bases changes : List Item) (c : Item) (cs : List Item) → changes ≡ c ∷ cs → true ≡ stands_first c bases → IsInOrder bases changes → all_in bases changes ≡ c ∷ all_in (without c bases) cs
first_change [] changes c cs is h up = rw is (change_first by_identifier items_total [] c cs tt (subst (IsStrictlySortedBy by_identifier) is up.1))
first_change (b ∷ bs) changes c cs is h up = rw is (go (by_identifier c b) refl h)
  where
    go : (o : Ordering) → by_identifier c b ≡ o → true ≡ not (is_gt o) → all_in (b ∷ bs) (c ∷ cs) ≡ c ∷ all_in (if is_eq o then bs else (b ∷ bs)) cs
    go Less e h = change_before by_identifier items_total b bs c cs e up.0 (subst (IsStrictlySortedBy by_identifier) is up.1)
    go Equal e h = change_in_place by_identifier items_total b bs c cs e (subst (IsStrictlySortedBy by_identifier) is up.1)
    go Greater e h = absurd (true≢false h)

-- ---- the first of the base

-- a change that stands behind the first leaves it there
stays : (c : Item) (bases : List Item) → false ≡ stands_first c bases → without c bases ≡ bases
stays c [] h = absurd (true≢false (sym h))
stays c (b ∷ bs) h = go (by_identifier c b) h
  where
    go : (o : Ordering) → false ≡ not (is_gt o) → (if is_eq o then bs else (b ∷ bs)) ≡ b ∷ bs
    go Less h = absurd (true≢false (sym h))
    go Equal h = absurd (true≢false (sym h))
    go Greater h = refl

pub taken_behind : (found : Option (Bor Item)) (c : Item) (bases kept rest : List Item) → false ≡ stands_first c bases → kept ≡ without c bases → IsTaken found kept rest → IsTaken found bases rest
taken_behind found c bases kept rest h is taken = subst (λ xs. IsTaken found xs rest) (is ∙ stays c bases h) taken

pub behind_is : (x : Item) (rest changes : List Item) (c : Item) (cs : List Item) → changes ≡ c ∷ cs → false ≡ stands_first c (x ∷ rest) → IsInOrder (x ∷ rest) changes → all_in (x ∷ rest) changes ≡ x ∷ all_in rest changes
behind_is x rest changes c cs is h up = rw is (go (by_identifier c x) refl h)
  where
    go : (o : Ordering) → by_identifier c x ≡ o → false ≡ not (is_gt o) → all_in (x ∷ rest) (c ∷ cs) ≡ x ∷ all_in rest (c ∷ cs)
    go Less e h = absurd (true≢false (sym h))
    go Equal e h = absurd (true≢false (sym h))
    go Greater e h = change_behind by_identifier items_total x rest c cs e (subst (IsStrictlySortedBy by_identifier) is up.1)
