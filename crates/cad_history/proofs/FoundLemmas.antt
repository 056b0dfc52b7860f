-- Rows that a search by identifier finds.
use Rattle.std.proofs.Common.{◌≡◌, ℕ, zero, suc, ℤ, Bool, true, false, cond, ◌||◌, List, [], ◌∷◌, filter, Contains, Option, Some, None, unwrap_or, refl, sym, ap, ap₂, ◌∙◌, subst, arith, Equal, is_eq, true≢false, get_or, Bor}
use Rattle.std.specs.List.{AllByRecursion}
use Rattle.std.specs.List.Sorted.{IsStrictlySortedBy}
use Rattle.std.specs.Option.{is_some, option_copied}
use Rattle.std.proofs.lemmas.List.{get_or_default}
use Rattle.std.proofs.lemmas.List.Elements.{All-from_recursion, recursion_from_All, All-filter}
use Rattle.std.proofs.lemmas.List.Kept.{IsStrictlySortedBy-filter}
use Rattle.cad_feature.specs.Features.{Item, identifier_of, by_identifier}
use Rattle.cad_index.specs.Layers.{LayerFeatures}
use Rattle.cad_layer.specs.Identifiers.{IsTheOne}
use Rattle.cad_layer.specs.Walks.{all_in}
use Rattle.cad_layer.specs.lemmas.ItemLemmas.{items_total}
use Rattle.cad_layer.specs.lemmas.LookupLemmas.{apart, base_one, changed_one}
use Rattle.cad_layer.specs.lemmas.MergeLemmas.{merged_merged}
use Rattle.cad_layer.specs.lemmas.SearchLemmas.{is_equal, unique}
use Rattle.cad_history.specs.inner.Ending.{has_version}
use Rattle.cad_history.specs.Rows.{AllAscend, rows_at, is_shown_at, earlier_at}
use Rattle.cad_history.specs.inner.Found.{shown, later_or}
use Rattle.cad_history.specs.lemmas.ApartLemmas.{none}
use Rattle.cad_history.specs.lemmas.RowLemmas.{earlier_ascends}
use Rattle.cad_history.specs.lemmas.ShownLemmas.{kept_with}

-- ---- a row of a version

there : (x y : Item) (ys : List Item) → Contains ys y → by_identifier y x ≡ Equal → has_version x ys ≡ true
there x y [] (i, h, at) e = absurd (omega (arith, h))
there x y (z ∷ zs) (zero, h, at) e = ap (λ o. is_eq o || has_version x zs) (ap (λ w. by_identifier w x) at ∙ e)
there x y (z ∷ zs) (suc i, h, at) e = ap (λ b. is_eq (by_identifier z x) || b) (there x y zs (i, omega (arith, h), at) e) ∙ either (is_eq (by_identifier z x))
  where
    either : (b : Bool) → (b || true) ≡ true
    either true = refl
    either false = refl

pub has_one : (x : Item) (ys : List Item) (found : Option Item) → IsTheOne (identifier_of x) ys found → has_version x ys ≡ is_some found
has_one x ys None one = go ys (recursion_from_All (λ y. ¬ (identifier_of y ≡ identifier_of x)) ys one)
  where
    go : (zs : List Item) → AllByRecursion (λ y. ¬ (identifier_of y ≡ identifier_of x)) zs → has_version x zs ≡ false
    go [] all = refl
    go (z ∷ zs) all = ap₂ ◌||◌ (apart (identifier_of x) x z refl all.0) (go zs all.1)
has_one x ys (Some y) one = there x y ys one.0 (is_equal (identifier_of y) (identifier_of x) one.1)

-- ---- a filter

module _ (wanted : ℤ × ℤ) (xs : List Item) (up : IsStrictlySortedBy by_identifier xs) (p : Item → Bool) where
  kept_has : (x : Item) (ys : List Item) → p x ≡ true → Contains ys x → Contains (filter p ys) x
  kept_has x [] e (i, h, at) = absurd (omega (arith, h))
  kept_has x (y ∷ ys) e (zero, h, at) = subst (λ b. Contains (cond b (y ∷ filter p ys) (filter p ys)) x) (sym (ap p at ∙ e)) (zero, omega arith, at)
  kept_has x (y ∷ ys) e (suc i, h, at) = go (p y) (kept_has x ys e (i, omega (arith, h), at))
    where
      go : (b : Bool) → Contains (filter p ys) x → Contains (cond b (y ∷ filter p ys) (filter p ys)) x
      go true (k, j, is) = (suc k, omega (arith, j), is)
      go false has = has

  only : (x : Item) → IsTheOne wanted xs (Some x) → AllByRecursion (λ y. identifier_of y ≡ wanted → y ≡ x) xs
  only x one = recursion_from_All (λ y. identifier_of y ≡ wanted → y ≡ x) xs
      (λ k d h e. ap (λ o. unwrap_or o x) (unique wanted xs (Some (get_or xs k d)) (Some x) up ((k, h, get_or_default xs k (get_or xs k d) d h), e) one))

  dropped : (x : Item) → p x ≡ false → IsTheOne wanted xs (Some x) → IsTheOne wanted (filter p xs) None
  dropped x e one = All-from_recursion (λ y. ¬ (identifier_of y ≡ wanted)) (filter p xs)
      (kept_with (λ y. identifier_of y ≡ wanted → y ≡ x) (λ y. ¬ (identifier_of y ≡ wanted)) p (λ y same k is. true≢false (sym k ∙ ap p (same is) ∙ e)) xs (only x one))

pub shown_one : (wanted : ℤ × ℤ) (r : ℕ) (xs : List Item) (found : Option Item) → IsStrictlySortedBy by_identifier xs → IsTheOne wanted xs found → IsTheOne wanted (rows_at r xs) (shown r found)
shown_one wanted r xs None up one = All-filter (is_shown_at r) (λ y. ¬ (identifier_of y ≡ wanted)) xs one
shown_one wanted r xs (Some x) up one = go (is_shown_at r x) refl
  where
    go : (b : Bool) → is_shown_at r x ≡ b → IsTheOne wanted (rows_at r xs) (cond b (Some x) None)
    go true e = (kept_has wanted xs up (is_shown_at r) x xs e one.0, one.1)
    go false e = dropped wanted xs up (is_shown_at r) x e one

-- ---- one list behind the other

pub later_one : (wanted : ℤ × ℤ) (earlier later : List Item) (found next : Option Item) → IsStrictlySortedBy by_identifier later → IsTheOne wanted earlier found → IsTheOne wanted later next
    → IsTheOne wanted (all_in earlier later) (later_or next found)
later_one wanted earlier later found None up one other = base_one wanted earlier later found other one
later_one wanted earlier later found (Some x) up one other = changed_one wanted earlier later x up other

module _ (wanted : ℤ × ℤ) (r : ℕ) (layers : List LayerFeatures) where
  -- what was found of the lists before these
  abbrev pub IsFoundBefore : Option Item → List LayerFeatures → Type 0
  IsFoundBefore found rest = (before : List Item) × IsTheOne wanted before found × (earlier_at r layers ≡ all_in before (earlier_at r rest)) × AllAscend rest

  pub nothing_before : AllAscend layers → IsFoundBefore None layers
  nothing_before all = ([], (λ k d h. absurd (omega (arith, h))), sym (none by_identifier items_total (earlier_at r layers) (earlier_ascends r layers all)), all)

  pub row_more : (rest : List LayerFeatures) (layer : LayerFeatures) (behind : List LayerFeatures) → rest ≡ layer ∷ behind → (found next more : Option Item) → more ≡ later_or next found
      → IsTheOne wanted (rows_at r layer.features) next → IsFoundBefore found rest → IsFoundBefore more behind
  row_more rest layer behind is found next more e row (before, one, whole, all) =
      let ascend : AllAscend (layer ∷ behind) = subst AllAscend is all in (
        all_in before (rows_at r layer.features),
        subst (IsTheOne wanted (all_in before (rows_at r layer.features))) (sym e) (later_one wanted before (rows_at r layer.features) found next (IsStrictlySortedBy-filter by_identifier (is_shown_at r) layer.features ascend.0) one row),
        whole ∙ ap (λ ls. all_in before (earlier_at r ls)) is ∙ merged_merged by_identifier items_total before (rows_at r layer.features) (earlier_at r behind),
        ascend.1,
      )

  pub all_before : (rest : List LayerFeatures) (found : Option Item) → rest ≡ [] → IsFoundBefore found rest → IsTheOne wanted (earlier_at r layers) found
  all_before rest found is (before, one, whole, all) = subst (λ xs. IsTheOne wanted xs found) (sym (whole ∙ ap (λ ls. all_in before (earlier_at r ls)) is)) one

pub newest_found : (wanted : ℤ × ℤ) (earlier later : List Item) (found : Option (Bor Item)) → IsStrictlySortedBy by_identifier later → true ≡ is_some found → IsTheOne wanted later (option_copied found)
    → IsTheOne wanted (all_in earlier later) (option_copied found)
newest_found wanted earlier later None up some one = absurd (true≢false some)
newest_found wanted earlier later (Some x) up some one = changed_one wanted earlier later x.now up one

pub earlier_found : (wanted : ℤ × ℤ) (earlier later : List Item) (found : Option (Bor Item)) (other : Option Item) → false ≡ is_some found → IsTheOne wanted later (option_copied found) → IsTheOne wanted earlier other
    → IsTheOne wanted (all_in earlier later) other
earlier_found wanted earlier later None other none one rest = base_one wanted earlier later other one rest
earlier_found wanted earlier later (Some x) other none one rest = absurd (true≢false (sym none))

-- whether something is lent, or what is lent
pub same_some : {X : Type 0} (found : Option (Bor X)) → is_some found ≡ is_some (option_copied found)
same_some None = refl
same_some (Some x) = refl
