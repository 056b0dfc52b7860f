-- What is left in segments, of which the first is opened.
use Rattle.std.proofs.Common.{◌≡◌, ◌∙◌, ℕ, ℤ, ◌<◌, ◌^◌, Bool, true, false, cond, Ordering, Less, Equal, Greater, is_gt, List, [], ◌∷◌, ◌++◌, filter, length, refl, ap, ap₂, sym, subst, arith, Option, Some, None, Result, Ok, Err, Bor, true≢false}
use Rattle.std.specs.Prelude.{IfOk, IfErr, option_map}
use Rattle.std.specs.List.{AllByRecursion}
use Rattle.std.specs.List.Sorted.{IsStrictlySortedBy}
use Rattle.std.specs.Ordering.{ordering_reverse}
use Rattle.std.proofs.lemmas.List.Kept.{IsStrictlySortedBy-filter}
use Rattle.std.proofs.lemmas.List.Elements.{filter-append}
use Rattle.cad_versions.specs.Identifiers.{identifier_cmp}
use Rattle.cad_versions.specs.lemmas.ListLemmas.{filter_fewer}
use Rattle.cad_versions.specs.lemmas.OrderLemmas.{identifiers_total}
use Rattle.cad_versions.specs.declared.object_id.ObjectId.{ObjectId}
use Rattle.cad_feature.specs.Features.{Item, by_identifier, identifier_of}
use Rattle.cad_extents.specs.declared.extents.Extents.{Extents}
use Rattle.cad_extents.specs.Extents.{IsWithin}
use Rattle.cad_layer.specs.Segments.{SegmentFeatures, joined}
use Rattle.cad_layer.specs.Identifiers.{comes_after}
use Rattle.cad_layer.specs.lemmas.SearchLemmas.{equal_is}
use Rattle.cad_run.specs.declared.segment_candidates.SegmentCandidates.{SegmentCandidates}
use Rattle.cad_run.specs.declared.sought.Sought.{Sought}
use Rattle.cad_run.specs.SegmentLeft.{opened_left, unopened_ahead, unopened_left}
use Rattle.cad_run.specs.Slices.{identifier, is_later, later}
use Rattle.cad_run.specs.Sought.{is_sought}
use Rattle.cad_run.specs.lemmas.TakenLemmas.{IsTaken, taken_rises, turned}
use Rattle.cad_run.proofs.LeftLemmas.{all_later}
pub use Rattle.cad_run.specs.lemmas.TakenLemmas.{few_later, fewer_left}

module _ (test : Item → Bool) where
  none_wanted : (extents : Extents) (xs : List Item) → AllByRecursion (IsWithin extents) xs → ((x : Item) → IsWithin extents x → test x ≡ false) → filter test xs ≡ []
  none_wanted extents [] all fails = refl
  none_wanted extents (x ∷ xs) all fails = rw (fails x all.0) (none_wanted extents xs all.1 fails)

  -- a segment that has no candidates
  pub nothing_opened : (extents : Extents) (xs : List Item) (last : Option (ℤ × ℤ)) → AllByRecursion (IsWithin extents) xs → ((x : Item) → IsWithin extents x → test x ≡ false) → [] ≡ later last (filter test xs)
  nothing_opened extents xs last within fails = sym (ap (later last) (none_wanted extents xs within fails))

  pub few_wanted : (xs left : List Item) (count : ℕ) → count ≡ length xs → count < 2 ^ 64 → left ≡ filter test xs → length left < 2 ^ 64
  few_wanted xs left count counted small is = omega (arith, counted, small, ap length is, filter_fewer test xs)

  pub ascending_wanted : (xs left : List Item) → IsStrictlySortedBy by_identifier xs → left ≡ filter test xs → IsStrictlySortedBy by_identifier left
  ascending_wanted xs left up is = subst (IsStrictlySortedBy by_identifier) (sym is) (IsStrictlySortedBy-filter by_identifier test xs up)

-- ---- the next segment

module _ (sought : Sought) (after : Option (ObjectId × ℕ)) where
  abbrev named : Option (ℤ × ℤ)
  named = option_map identifier after

  pub segment_opened : (opened : Option SegmentCandidates) (segment : SegmentFeatures) (segments behind : List SegmentFeatures) → segments ≡ segment ∷ behind
      → opened_left opened ≡ later named (filter (is_sought sought) segment.features) → opened_left opened ++ unopened_left sought after behind ≡ unopened_left sought after segments
  segment_opened opened segment segments behind are is =
      ap (λ xs. xs ++ unopened_left sought after behind) is
      ∙ sym (filter-append (is_later named) (filter (is_sought sought) segment.features) (filter (is_sought sought) (joined behind)))
      ∙ ap (later named) (sym (filter-append (is_sought sought) segment.features (joined behind)))
      ∙ ap (unopened_left sought after) (sym are)

  -- ---- after a search

  pub segments_sought : (last : ℤ × ℤ) (next : ObjectId × ℕ) (opened closer : Option SegmentCandidates) (segments rest : List SegmentFeatures)
      → ((xs : List Item) → later (Some (identifier next)) xs ≡ later (Some last) (later named xs))
      → later (Some last) (joined rest) ≡ later (Some last) (joined segments) → opened_left closer ≡ later (Some last) (opened_left opened)
      → opened_left closer ++ unopened_left sought (Some next) rest ≡ later (Some last) (opened_left opened ++ unopened_left sought after segments)
  segments_sought last next opened closer segments rest both same is =
      let l = is_later (Some last) in
      let test = is_sought sought in
      ap₂ (λ xs ys. xs ++ ys) is
      (both (filter test (joined rest))
      ∙ turned l (is_later named) (filter test (joined rest))
      ∙ ap (later named) (turned l test (joined rest) ∙ ap (filter test) same ∙ sym (turned l test (joined segments)))
      ∙ sym (turned l (is_later named) (filter test (joined segments))))
      ∙ sym (filter-append l (opened_left opened) (unopened_left sought after segments))

  -- the features ahead
  pub ahead_sought : (last : ℤ × ℤ) (next : ObjectId × ℕ) (opened closer : Option SegmentCandidates) (segments rest : List SegmentFeatures)
      → ((xs : List Item) → later (Some (identifier next)) xs ≡ later (Some last) (later named xs))
      → later (Some last) (joined rest) ≡ later (Some last) (joined segments) → opened_left closer ≡ later (Some last) (opened_left opened)
      → opened_left closer ++ unopened_ahead (Some next) rest ≡ later (Some last) (opened_left opened ++ unopened_ahead after segments)
  ahead_sought last next opened closer segments rest both same is =
      let l = is_later (Some last) in
      ap₂ (λ xs ys. xs ++ ys) is
      (both (joined rest)
      ∙ turned l (is_later named) (joined rest)
      ∙ ap (later named) same
      ∙ sym (turned l (is_later named) (joined segments)))
      ∙ sym (filter-append l (opened_left opened) (unopened_ahead after segments))

-- ---- after the first is taken, or an error

module _ {E : Type 0} where
  pub left_rises : (result : Result (Option (Bor Item)) E) (old new : List Item) → IfOk result (λ found. IsTaken found old new) → IfErr result (λ error. new ≡ old) → IsStrictlySortedBy by_identifier old → IsStrictlySortedBy by_identifier new
  left_rises (Ok found) old new taken same up = taken_rises found old new taken up
  left_rises (Err error) old new taken same up = subst (IsStrictlySortedBy by_identifier) (sym same) up

  pub left_few : (result : Result (Option (Bor Item)) E) (old new : List Item) → IfOk result (λ found. IsTaken found old new) → IfErr result (λ error. new ≡ old) → length old < 2 ^ 64 → length new < 2 ^ 64
  left_few (Ok found) old new taken same few = fewer_left found old new taken few
  left_few (Err error) old new taken same few = omega (arith, ap length same, few)

-- ---- the later one of two

module _ (p q : Item → Bool) (stronger : (x : Item) → p x ≡ true → q x ≡ true) where
  stronger_alone : (xs : List Item) → filter q (filter p xs) ≡ filter p xs
  stronger_alone [] = refl
  stronger_alone (x ∷ xs) = here (p x) refl (stronger_alone xs)
    where
      here : (b : Bool) → p x ≡ b → filter q (filter p xs) ≡ filter p xs → filter q (cond b (x ∷ filter p xs) (filter p xs)) ≡ cond b (x ∷ filter p xs) (filter p xs)
      here true e rest = rw (stronger x e) (ap (λ ys. x ∷ ys) rest)
      here false e rest = rest

less_is : (a b : ℤ × ℤ) → is_gt (identifier_cmp a b) ≡ true → identifier_cmp b a ≡ Less
less_is a b e = go (identifier_cmp a b) refl e
  where
    go : (o : Ordering) → identifier_cmp a b ≡ o → is_gt o ≡ true → identifier_cmp b a ≡ Less
    go Less is t = absurd (true≢false (sym t))
    go Equal is t = absurd (true≢false (sym t))
    go Greater is t = identifiers_total.antisymm b a ∙ ap ordering_reverse is

gt_is : (a b : ℤ × ℤ) → identifier_cmp a b ≡ Less → is_gt (identifier_cmp b a) ≡ true
gt_is a b e = ap is_gt (identifiers_total.antisymm b a ∙ ap ordering_reverse e)

-- what comes after the later one comes after the other
after_both : (a l : ℤ × ℤ) → is_gt (identifier_cmp a l) ≡ true → (x : Item) → comes_after a x ≡ true → comes_after l x ≡ true
after_both a l later x h = gt_is l (identifier_of x) (identifiers_total.trans l a (identifier_of x) (less_is a l later) (less_is (identifier_of x) a h))

after_first : (a l : ℤ × ℤ) → is_gt (identifier_cmp a l) ≡ false → (x : Item) → comes_after l x ≡ true → comes_after a x ≡ true
after_first a l isnt x h = go (identifier_cmp a l) refl
  where
    go : (o : Ordering) → identifier_cmp a l ≡ o → comes_after a x ≡ true
    go Less e = gt_is a (identifier_of x) (identifiers_total.trans a l (identifier_of x) e (less_is (identifier_of x) l h))
    go Equal e = subst (λ i. comes_after i x ≡ true) (sym (equal_is a l e)) h
    go Greater e = absurd (true≢false (sym (ap is_gt e) ∙ isnt))

pub later_named : (a l : ℤ × ℤ) → is_gt (identifier_cmp a l) ≡ true → (xs : List Item) → later (Some a) xs ≡ later (Some l) (later (Some a) xs)
later_named a l h xs = sym (stronger_alone (is_later (Some a)) (is_later (Some l)) (after_both a l h) xs)

pub no_later_named : (a l : ℤ × ℤ) → is_gt (identifier_cmp a l) ≡ false → (xs : List Item) → later (Some l) xs ≡ later (Some l) (later (Some a) xs)
no_later_named a l h xs =
    sym (stronger_alone (is_later (Some l)) (is_later (Some a)) (after_first a l h) xs) ∙ turned (is_later (Some a)) (is_later (Some l)) xs

pub none_named : (l : ℤ × ℤ) (xs : List Item) → later (Some l) xs ≡ later (Some l) (later None xs)
none_named l xs = ap (later (Some l)) (all_later xs)
