-- The rows that features replace, one feature after the other.
use Rattle.std.proofs.Common.{◌≡◌, zero, suc, Bool, true, false, cond, ◌||◌, List, [], ◌∷◌, ◌++◌, Option, Some, None, refl, sym, ap, ap₂, ◌∙◌, arith, Ordering, Less, Equal, Greater, is_eq, true≢false}
use Rattle.std.specs.List.{AllByRecursion}
use Rattle.std.specs.List.Sorted.{IsStrictlySortedBy}
use Rattle.std.specs.Ordering.{ordering_reverse}
use Rattle.std.proofs.lemmas.List.Elements.{All-from_recursion}
use Rattle.cad_versions.specs.lemmas.ListLemmas.{all_weaker}
use Rattle.cad_feature.specs.Features.{Item, identifier_of, by_identifier}
use Rattle.cad_layer.specs.Identifiers.{IsTheOne}
use Rattle.cad_layer.specs.lemmas.ItemLemmas.{items_total}
use Rattle.cad_layer.specs.lemmas.SearchLemmas.{equal_is, is_equal, unique}
use Rattle.cad_history.specs.inner.Ending.{has_version, listed, replaced_by}

module _ (t : Item) (ts : List Item) (rises : AllByRecursion (λ u. by_identifier t u ≡ Less) ts) where
  no_equal : (o : Ordering) → o ≡ Less → o ≡ Equal → ⊥
  no_equal o less equal = true≢false (sym (ap is_eq equal) ∙ ap is_eq less)

  -- none of these rows is of its version
  none_one : (zs : List Item) → AllByRecursion (λ z. by_identifier t z ≡ Less) zs → IsTheOne (identifier_of t) zs None
  none_one zs all = All-from_recursion (λ z. ¬ (identifier_of z ≡ identifier_of t)) zs
      (all_weaker (λ z. by_identifier t z ≡ Less) (λ z. ¬ (identifier_of z ≡ identifier_of t)) (λ z less same. no_equal (by_identifier t z) less (is_equal (identifier_of t) (identifier_of z) (sym same))) zs all)

  no_match : (zs : List Item) → AllByRecursion (λ z. by_identifier t z ≡ Less) zs → replaced_by (t ∷ ts) zs ≡ replaced_by ts zs
  no_match [] all = refl
  no_match (z ∷ zs) all = ap₂ (λ b ys. cond b (z ∷ ys) ys) (ap (λ o. is_eq o || has_version z ts) all.0) (no_match zs all.1)

  -- a row that is not after the feature is of the version of none of the later ones
  no_later : (x : Item) (o : Ordering) → by_identifier t x ≡ o → (o ≡ Less → ⊥) → has_version x ts ≡ false
  no_later x o e low = go ts rises
    where
      above : (u : Item) → by_identifier t u ≡ Less → is_eq (by_identifier u x) ≡ false
      above u less = cases o e low
        where
          over : by_identifier x u ≡ Less → is_eq (by_identifier u x) ≡ false
          over k = ap is_eq (items_total.antisymm u x ∙ ap ordering_reverse k)

          cases : (o : Ordering) → by_identifier t x ≡ o → (o ≡ Less → ⊥) → is_eq (by_identifier u x) ≡ false
          cases Less k h = absurd (h refl)
          cases Equal k h = over (sym (items_total.congr t x u k) ∙ less)
          cases Greater k h = over (items_total.trans x t u (items_total.antisymm x t ∙ ap ordering_reverse k) less)

      go : (us : List Item) → AllByRecursion (λ u. by_identifier t u ≡ Less) us → has_version x us ≡ false
      go [] all = refl
      go (u ∷ us) all = ap₂ ◌||◌ (above u all.0) (go us all.1)

  not_here : (x : Item) (xs : List Item) (o : Option Item) → by_identifier t x ≡ Greater → IsTheOne (identifier_of t) (x ∷ xs) o → IsTheOne (identifier_of t) xs o
  not_here x xs None e one = λ k d h. one (suc k) d (omega (arith, h))
  not_here x xs (Some y) e ((zero, h, at), is) = absurd (not_equal (sym (is_equal (identifier_of t) (identifier_of x) (sym is ∙ sym (ap identifier_of at))) ∙ e))
    where
      not_equal : Equal ≡ Greater → ⊥
      not_equal k = true≢false (ap is_eq k)
  not_here x xs (Some y) e ((suc i, h, at), is) = ((i, omega (arith, h), at), is)

  -- the row of its version is the first that it and the later ones replace
  pub first_replaced : (newest : List Item) (found : Option Item) → IsStrictlySortedBy by_identifier newest → IsTheOne (identifier_of t) newest found
      → replaced_by (t ∷ ts) newest ≡ listed found ++ replaced_by ts newest
  unfolding IsStrictlySortedBy
  first_replaced [] None up one = refl
  first_replaced [] (Some y) up ((i, h, at), is) = absurd (omega (arith, h))
  first_replaced (x ∷ xs) found up one = go (by_identifier t x) refl (first_replaced xs found up.1)
    where
      go : (o : Ordering) → by_identifier t x ≡ o → (IsTheOne (identifier_of t) xs found → replaced_by (t ∷ ts) xs ≡ listed found ++ replaced_by ts xs)
          → replaced_by (t ∷ ts) (x ∷ xs) ≡ listed found ++ replaced_by ts (x ∷ xs)
      go Less e more =
          let all : AllByRecursion (λ z. by_identifier t z ≡ Less) (x ∷ xs) = (e, all_weaker (λ z. by_identifier x z ≡ Less) (λ z. by_identifier t z ≡ Less) (λ z k. items_total.trans t x z e k) xs up.0) in
          no_match (x ∷ xs) all ∙ ap (λ o. listed o ++ replaced_by ts (x ∷ xs)) (unique (identifier_of t) (x ∷ xs) None found up (none_one (x ∷ xs) all) one)
      go Equal e more =
          let all = all_weaker (λ z. by_identifier x z ≡ Less) (λ z. by_identifier t z ≡ Less) (λ z k. items_total.congr t x z e ∙ k) xs up.0 in
          let it : IsTheOne (identifier_of t) (x ∷ xs) (Some x) = ((zero, omega arith, refl), sym (equal_is (identifier_of t) (identifier_of x) e)) in
          ap (λ o. cond (is_eq o || has_version x ts) (x ∷ replaced_by (t ∷ ts) xs) (replaced_by (t ∷ ts) xs)) e
          ∙ ap (λ ys. x ∷ ys) (no_match xs all)
          ∙ ap (λ b. x ∷ cond b (x ∷ replaced_by ts xs) (replaced_by ts xs)) (sym (no_later x Equal e (λ k. no_equal Equal k refl)))
          ∙ ap (λ o. listed o ++ replaced_by ts (x ∷ xs)) (unique (identifier_of t) (x ∷ xs) (Some x) found up it one)
      go Greater e more =
          let none = no_later x Greater e (λ k. true≢false (sym (ap is_eq_or_less k))) in
          ap (λ b. cond b (x ∷ replaced_by (t ∷ ts) xs) (replaced_by (t ∷ ts) xs)) (ap₂ ◌||◌ (ap is_eq e) none)
          ∙ more (not_here x xs found e one)
          ∙ ap (λ b. listed found ++ cond b (x ∷ replaced_by ts xs) (replaced_by ts xs)) (sym none)
        where
          is_eq_or_less : Ordering → Bool
          is_eq_or_less Less = true
          is_eq_or_less Equal = true
          is_eq_or_less Greater = false
