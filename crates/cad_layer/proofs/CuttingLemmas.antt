-- Features cut where an object starts.
use Rattle.std.proofs.Common.{◌≡◌, ◌∙◌, ℕ, zero, suc, ◌<◌, ◌≤◌, Bool, true, false, not, List, [], ◌∷◌, ◌++◌, length, filter, take, drop, get_or, refl, sym, ap, subst, arith, true≢false, ⊎_elim}
use Rattle.std.specs.List.{AllByRecursion}
use Rattle.std.specs.List.Sorted.{IsStrictlySortedBy, IsPartitionedBy, IsPartitionPoint}
use Rattle.std.proofs.lemmas.Bool.{cases_lt, not-true, not-false}
use Rattle.std.proofs.lemmas.Bool.Decides.{nat_tests}
use Rattle.std.proofs.lemmas.List.Elements.{All-from_recursion}
use Rattle.cad_versions.specs.lemmas.ListLemmas.{all_filtered, all_weaker}
use Rattle.cad_versions.specs.Objects.{object_number}
use Rattle.cad_schema.specs.declared.collection.Collection.{Collection}
use Rattle.cad_feature.specs.Features.{Item, by_identifier}
use Rattle.cad_layer.specs.lemmas.AfterLemmas.{filter_cut}
use Rattle.cad_layer.specs.Segments.{AreApart, AreSegments, SegmentFeatures, is_from, joined}
use Rattle.cad_layer.specs.lemmas.SegmentLemmas.{below_kept, kept_pass}
use Rattle.cad_layer.proofs.RunLemmas.{numbers_rise}

filter_front : {X : Type 0} (p : X → Bool) (xs : List X) (k : ℕ) → ((i : ℕ) (d : X) → i < k → i < length xs → p (get_or xs i d) ≡ true) → ((i : ℕ) (d : X) → k ≤ i → i < length xs → p (get_or xs i d) ≡ false) → filter p xs ≡ take k xs
filter_front p [] zero low high = refl
filter_front p [] (suc k) low high = refl
filter_front p (x ∷ xs) zero low high = rw (high 0 x (omega arith) (omega arith)) (filter_front p xs zero (λ i d below h. absurd (omega (arith, below))) (λ i d above h. high (suc i) d (omega arith) (omega (arith, h))))
filter_front p (x ∷ xs) (suc k) low high =
    rw (low 0 x (omega arith) (omega arith)) (ap (λ ys. x ∷ ys) (filter_front p xs k (λ i d below h. low (suc i) d (omega (arith, below)) (omega (arith, h))) (λ i d above h. high (suc i) d (omega (arith, above)) (omega (arith, h)))))

module _ (k : ℕ) where
  abbrev pub is_below : Item → Bool
  is_below x = not (is_from k x)

  both_from : (xs ys : List Item) → AllByRecursion (λ x. is_from k x ≡ true) xs → AllByRecursion (λ x. is_from k x ≡ true) ys → AllByRecursion (λ x. is_from k x ≡ true) (xs ++ ys)
  both_from [] ys all more = more
  both_from (x ∷ xs) ys all more = (all.0, both_from xs ys all.1 more)

  module _ (xs : List Item) where
    below_too : (x y : Item) → object_number x.object ≤ object_number y.object → is_from k y ≡ false → is_from k x ≡ false
    below_too x y le h = grind (arith, nat_tests)

    pub below_parted : IsStrictlySortedBy by_identifier xs → IsPartitionedBy is_below xs
    below_parted up i j d le h stands = ap not (below_too (get_or xs i d) (get_or xs j d) (numbers_rise xs up i j d le h) (not-true (is_from k (get_or xs j d)) stands))

    module _ (at : ℕ) (split : IsPartitionPoint (λ x. is_below x ≡ true) (λ x. is_below x ≡ false) xs at) where
      pub cut_behind : drop at xs ≡ filter (is_from k) xs
      cut_behind = sym (filter_cut (is_from k) xs at (λ i d below h. not-true (is_from k (get_or xs i d)) (split.0 i d (omega arith) below)) (λ i d above h. not-false (is_from k (get_or xs i d)) (split.1 i d above h)))

      pub cut_before : take at xs ≡ filter is_below xs
      cut_before = sym (filter_front is_below xs at (λ i d below h. split.0 i d (omega arith) below) (λ i d above h. split.1 i d above h))

-- what is left in front of segments, as one more
abbrev pub ending : Collection → List Item → SegmentFeatures
ending collection xs = record { start = 0; collection = collection; features = xs }

module _ (collection : Collection) (xs front tail : List Item) (segments : List SegmentFeatures) (start i at : ℕ) (x : Item) (starts_at : start ≡ object_number x.object) (is : x ≡ get_or xs i x) (within : i < length xs) where
  abbrev cut_segment : SegmentFeatures
  cut_segment = record { start = start; collection = collection; features = tail }

  module _ (split : IsPartitionPoint (λ y. is_below start y ≡ true) (λ y. is_below start y ≡ false) xs at) where
    starts : is_from start x ≡ true
    starts = grind (arith, nat_tests)

    -- the feature at which it is cut is cut off
    pub cut_within : at ≤ i
    cut_within = ⊎_elim (λ early. absurd (true≢false (sym (split.0 i x (omega arith) early) ∙ ap not (subst (λ y. is_from start y ≡ true) is starts)))) (λ le. le) (cases_lt i at)

    pub cut_tail : tail ≡ drop at xs → AllByRecursion (λ y. is_from start y ≡ true) tail
    cut_tail t = subst (AllByRecursion (λ y. is_from start y ≡ true)) (sym (t ∙ cut_behind start xs at split)) (kept_pass (is_from start) xs)

    behind : (ss : List SegmentFeatures) → AreApart (ending collection xs) ss → AllByRecursion (λ y. is_from start y ≡ true) (joined ss)
    behind [] apart = tt
    behind (s ∷ ss) apart =
        let before : is_from s.start x ≡ false = subst (λ y. is_from s.start y ≡ false) (sym is) (All-from_recursion (λ y. is_from s.start y ≡ false) xs apart.0 i x within) in
        all_weaker (λ y. is_from s.start y ≡ true) (λ y. is_from start y ≡ true) (λ y h. later s.start y before h) (joined (s ∷ ss)) apart.1
      where
        later : (k : ℕ) (y : Item) → is_from k x ≡ false → is_from k y ≡ true → is_from start y ≡ true
        later k y low high = grind (arith, nat_tests)

    -- what is left ends before it
    pub cut_ends : front ≡ take at xs → tail ≡ drop at xs → AreApart (ending collection xs) segments → AreApart (ending collection front) (cut_segment ∷ segments)
    cut_ends f t apart = (
      subst (AllByRecursion (λ y. is_from start y ≡ false)) (sym (f ∙ cut_before start xs at split)) (below_kept start xs),
      both_from start tail (joined segments) (cut_tail t) (behind segments apart),
    )

    -- and it before the others
    pub cut_apart : tail ≡ drop at xs → AreApart (ending collection xs) segments → AreSegments segments → AreSegments (cut_segment ∷ segments)
    cut_apart t apart all = (go segments apart, all)
      where
        go : (ss : List SegmentFeatures) → AreApart (ending collection xs) ss → AreApart cut_segment ss
        go [] apart = tt
        go (s ∷ ss) apart = (subst (AllByRecursion (λ y. is_from s.start y ≡ false)) (sym (t ∙ cut_behind start xs at split)) (all_filtered (λ y. is_from s.start y ≡ false) (is_from start) xs apart.0), apart.1)
