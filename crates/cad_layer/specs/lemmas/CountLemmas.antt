-- How many of a base with changes pass a test: those of the base and of the changes, minus those that are replaced.
use Rattle.std.proofs.Common.{◌≡◌, ℕ, zero, suc, ◌+◌, Bool, true, false, cond, if◌then◌else◌, List, [], ◌∷◌, ◌++◌, refl, sym, ap, ◌∙◌, arith, Ordering, Less, Equal, Greater, is_eq}
use Rattle.std.specs.List.{AllByRecursion, count_by}
use Rattle.std.specs.List.Sorted.{IsStrictlySortedBy}
use Rattle.std.specs.Cmp.{IsTotalOrder}
use Rattle.std.specs.Ordering.{ordering_reverse}
use Rattle.std.proofs.lemmas.List.Recursion.{is_count_by}
use Rattle.cad_versions.specs.lemmas.ListLemmas.{all_weaker}
use Rattle.cad_lookup.specs.Ways.{how_many}
use Rattle.cad_layer.specs.Merging.{put, put_at, merged}
use Rattle.cad_layer.specs.lemmas.MergeLemmas.{filter_merged, merged_ascends}
use Rattle.cad_layer.specs.inner.Replaced.{twins, replaced_in}

module _ {X : Type 0} (p : X → Bool) where
  -- each is counted separately
  one : (x : X) (xs : List X) → how_many p (x ∷ xs) ≡ how_many p (x ∷ []) + how_many p xs
  one x xs = go (p x) (how_many p xs)
    where
      go : (b : Bool) (n : ℕ) → (if b then (suc n) else n) ≡ (if b then (suc zero) else zero) + n
      go true n = omega arith
      go false n = omega arith

  pub both : (xs ys : List X) → how_many p (xs ++ ys) ≡ how_many p xs + how_many p ys
  both [] ys = omega arith
  both (x ∷ xs) ys = omega (arith, one x (xs ++ ys), one x xs, both xs ys)

  -- std's definition for it
  pub counted_by : (xs : List X) → how_many p xs ≡ count_by p xs
  counted_by = is_count_by (how_many p) p refl (λ x xs. go (p x) (how_many p xs))
    where
      go : (b : Bool) (n : ℕ) → (if b then (suc n) else n) ≡ cond b (1 + n) n
      go true n = omega arith
      go false n = refl

-- ---- what is replaced by one

module _ {X : Type 0} (cmp : X → X → Ordering) (total : IsTotalOrder cmp) where
  pub no_twins : (c : X) (ys : List X) → AllByRecursion (λ y. cmp c y ≡ Less) ys → twins cmp c ys ≡ []
  no_twins c [] all = refl
  no_twins c (y ∷ ys) all = ap (λ o. cond (is_eq o) (y ∷ twins cmp c ys) (twins cmp c ys)) all.0 ∙ no_twins c ys all.1

  pub twins_at : (c y : X) (ys : List X) (o : Ordering) → cmp c y ≡ o → twins cmp c (y ∷ ys) ≡ cond (is_eq o) (y ∷ twins cmp c ys) (twins cmp c ys)
  twins_at c y ys o e = ap (λ o. cond (is_eq o) (y ∷ twins cmp c ys) (twins cmp c ys)) e

  alike : (c x y : X) → cmp x y ≡ Equal → is_eq (cmp c x) ≡ is_eq (cmp c y)
  alike c x y e = ap is_eq (total.antisymm c x ∙ ap ordering_reverse (total.congr x y c e) ∙ sym (total.antisymm c y))

  -- the changes after it replace none of them
  twins_left : (c : X) (base cs : List X) → IsStrictlySortedBy cmp base → AllByRecursion (λ d. cmp c d ≡ Less) cs → twins cmp c (merged cmp base cs) ≡ twins cmp c base
  twins_left c base cs up all =
      filter_merged cmp total (λ b. is_eq (cmp c b)) (alike c) base cs up ∙ ap (merged cmp (twins cmp c base)) (no_twins c cs all)

-- ---- what is counted

module _ {X : Type 0} (p : X → Bool) (cmp : X → X → Ordering) (total : IsTotalOrder cmp) where
  put_counted : (c : X) (ys : List X) → IsStrictlySortedBy cmp ys → how_many p (put cmp c ys) + how_many p (twins cmp c ys) ≡ how_many p ys + how_many p (c ∷ [])
  unfolding IsStrictlySortedBy
  put_counted c [] up = omega arith
  put_counted c (y ∷ ys) up = go (cmp c y) refl (put_counted c ys up.1)
    where
      go : (o : Ordering) → cmp c y ≡ o → how_many p (put cmp c ys) + how_many p (twins cmp c ys) ≡ how_many p ys + how_many p (c ∷ [])
          → how_many p (put_at o c y ys (put cmp c ys)) + how_many p (twins cmp c (y ∷ ys)) ≡ how_many p (y ∷ ys) + how_many p (c ∷ [])
      go Less e more =
          let none = ap (how_many p) (no_twins cmp total c (y ∷ ys) (e, all_weaker (λ z. cmp y z ≡ Less) (λ z. cmp c z ≡ Less) (λ z k. total.trans c y z e k) ys up.0)) in
          omega (arith, one p c (y ∷ ys), none)
      go Equal e more =
          let none = ap (how_many p) (no_twins cmp total c ys (all_weaker (λ z. cmp y z ≡ Less) (λ z. cmp c z ≡ Less) (λ z k. total.congr c y z e ∙ k) ys up.0)) in
          omega (arith, one p c ys, one p y ys, ap (how_many p) (twins_at cmp total c y ys Equal e), one p y (twins cmp c ys), none)
      go Greater e more = omega (arith, one p y (put cmp c ys), one p y ys, ap (how_many p) (twins_at cmp total c y ys Greater e), more)

  -- each of the list, minus what is replaced, with each of the changes
  pub merged_counted : (base cs : List X) → IsStrictlySortedBy cmp base → IsStrictlySortedBy cmp cs → how_many p (merged cmp base cs) + how_many p (replaced_in cmp base cs) ≡ how_many p base + how_many p cs
  unfolding IsStrictlySortedBy
  merged_counted base [] up rising = refl
  merged_counted base (c ∷ cs) up rising =
      let at_front = put_counted c (merged cmp base cs) (merged_ascends cmp total base cs up) in
      let same = ap (how_many p) (twins_left cmp total c base cs up rising.0) in
      omega (arith, at_front, same, both p (twins cmp c base) (replaced_in cmp base cs), one p c cs, merged_counted base cs up rising.1)
