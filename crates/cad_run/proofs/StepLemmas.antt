-- A step through the candidates of segments.
use Rattle.std.proofs.Common.{◌≡◌, ◌∙◌, ℕ, ℤ, ◌<◌, ◌^◌, Bool, true, false, cond, List, [], ◌∷◌, ◌++◌, length, length-append, filter, ap, sym, subst, refl, arith, Option, Some, None, Less, Equal, Greater, Result, Ok, Err}
use Rattle.std.specs.Prelude.{IfErr, IfOk, option_map}
use Rattle.std.specs.List.{AllByRecursion}
use Rattle.std.specs.List.Sorted.{IsStrictlySortedBy}
use Rattle.std.specs.Ordering.{is_eq}
use Rattle.std.proofs.lemmas.List.Elements.{filter-append}
use Rattle.cad_versions.specs.declared.object_id.ObjectId.{ObjectId}
use Rattle.cad_versions.specs.lemmas.ListLemmas.{filter_fewer}
use Rattle.cad_feature.specs.Features.{Item, by_identifier, identifier_of}
use Rattle.cad_layer.specs.Identifiers.{compared}
use Rattle.cad_layer.specs.Segments.{SegmentFeatures, joined}
use Rattle.cad_layer.specs.lemmas.ItemLemmas.{rest_rises}
use Rattle.cad_layer.specs.lemmas.SearchLemmas.{equal_is}
use Rattle.cad_run.specs.declared.segment_candidates.SegmentCandidates.{SegmentCandidates}
use Rattle.cad_run.specs.declared.sought.Sought.{Sought}
use Rattle.cad_run.specs.declared.stepped_source.Step.{Step}
use Rattle.cad_run.specs.declared.stepped_source.Step.TheVariants.{Found, Passed, Over}
use Rattle.cad_run.specs.inner.Ends.{IsEnd, is_named}
use Rattle.cad_run.specs.SegmentLeft.{opened_left, unopened_ahead, unopened_left}
use Rattle.cad_run.specs.Slices.{identifier, is_later, later}
use Rattle.cad_run.specs.Sought.{is_sought}
use Rattle.cad_run.specs.Steps.{AreAmong, GoesOn, GoesOnTo, IsStep}
use Rattle.cad_run.specs.lemmas.TakenLemmas.{turned}
use Rattle.cad_run.specs.lemmas.AheadLemmas.{come_after, few_among, first_goes_on}
use Rattle.cad_run.proofs.SourceLemmas.{segment_opened}

-- ---- lists, one after the other

pub tail_rises : (xs ys : List Item) → IsStrictlySortedBy by_identifier (xs ++ ys) → IsStrictlySortedBy by_identifier ys
unfolding IsStrictlySortedBy
tail_rises [] ys up = up
tail_rises (x ∷ xs) ys up = tail_rises xs ys up.1

-- in place of a list that is empty, another
pub closed_rises : (old new rest : List Item) → old ≡ [] → new ≡ [] → IsStrictlySortedBy by_identifier (old ++ rest) → IsStrictlySortedBy by_identifier (new ++ rest)
closed_rises old new rest none nothing up = subst (λ (xs : List Item). IsStrictlySortedBy by_identifier (xs ++ rest)) (none ∙ sym nothing) up

all_kept : (p : Item → Bool) (P : Item → Type 0) (xs ys : List Item) → AllByRecursion P (xs ++ ys) → AllByRecursion P (filter p xs ++ ys)
all_kept p P [] ys all = all
all_kept p P (x ∷ xs) ys all = go (p x) (all_kept p P xs ys all.1)
  where
    go : (b : Bool) → AllByRecursion P (filter p xs ++ ys) → AllByRecursion P (cond b (x ∷ filter p xs) (filter p xs) ++ ys)
    go true rest = (all.0, rest)
    go false rest = rest

-- without those of the first list that do not pass
pub kept_rises : (p : Item → Bool) (xs ys : List Item) → IsStrictlySortedBy by_identifier (xs ++ ys) → IsStrictlySortedBy by_identifier (filter p xs ++ ys)
unfolding IsStrictlySortedBy
kept_rises p [] ys up = up
kept_rises p (x ∷ xs) ys up = go (p x) (kept_rises p xs ys up.1)
  where
    go : (b : Bool) → IsStrictlySortedBy by_identifier (filter p xs ++ ys) → IsStrictlySortedBy by_identifier (cond b (x ∷ filter p xs) (filter p xs) ++ ys)
    go true rest = (all_kept p (λ y. by_identifier x y ≡ Less) xs ys up.0, rest)
    go false rest = rest

front_among : (xs zs ys : List Item) → AreAmong zs xs → AreAmong (zs ++ ys) (xs ++ ys)
front_among xs zs ys among test =
    omega (
      arith,
      ap length (filter-append test zs ys),
      ap length (filter-append test xs ys),
      length-append (filter test zs) (filter test ys),
      length-append (filter test xs) (filter test ys),
      among test,
    )

-- ---- what is left after a step

module _ {E : Type 0} where
  pub step_rises : (result : Result Step E) (old new : List Item) → IfOk result (λ step. IsStep old step new) → IfErr result (λ error. new ≡ old) → IsStrictlySortedBy by_identifier old → IsStrictlySortedBy by_identifier new
  step_rises (Ok (Found x)) old new is same up = rest_rises by_identifier x.now new old is up
  step_rises (Ok (Passed last)) old new is same up = subst (IsStrictlySortedBy by_identifier) (sym is.0) up
  step_rises (Ok Over) old new is same up = subst (IsStrictlySortedBy by_identifier) (is.0 ∙ sym is.1) up
  step_rises (Err error) old new is same up = subst (IsStrictlySortedBy by_identifier) (sym same) up

  pub step_few : (result : Result Step E) (old new : List Item) → IfOk result (λ step. IsStep old step new) → IfErr result (λ error. new ≡ old) → length old < 2 ^ 64 → length new < 2 ^ 64
  step_few (Ok (Found x)) old new is same few = omega (arith, ap length is, few)
  step_few (Ok (Passed last)) old new is same few = omega (arith, ap length is.0, few)
  step_few (Ok Over) old new is same few = omega (arith, ap length is.1)
  step_few (Err error) old new is same few = omega (arith, ap length same, few)

  -- the same after a list that is equal
  pub step_over : (result : Result Step E) (old mid new : List Item) → mid ≡ old → IfOk result (λ step. IsStep mid step new) → IfOk result (λ step. IsStep old step new)
  step_over result old mid new same is = subst (λ xs. IfOk result (λ step. IsStep xs step new)) same is

  pub onward_over : (result : Result Step E) (old mid new : List Item) → mid ≡ old → IfOk result (λ step. GoesOn mid step new) → IfOk result (λ step. GoesOn old step new)
  onward_over result old mid new same is = subst (λ xs. IfOk result (λ step. GoesOn xs step new)) same is

-- ---- behind a last feature

behind_named : (last : ℤ × ℤ) (xs ys : List Item) → 0 < length (filter (is_named last) xs) → IsStrictlySortedBy by_identifier (xs ++ ys) → ys ≡ later (Some last) ys
unfolding IsStrictlySortedBy
behind_named last [] ys some up = absurd (omega (arith, some))
behind_named last (x ∷ xs) ys some up = go (compared last x) refl some (λ rest. behind_named last xs ys rest up.1)
  where
    back : (zs : List Item) → AllByRecursion (λ y. by_identifier x y ≡ Less) (zs ++ ys) → AllByRecursion (λ y. by_identifier x y ≡ Less) ys
    back [] all = all
    back (z ∷ zs) all = back zs all.1

    go : (o : _) → compared last x ≡ o → 0 < length (cond (is_eq o) (x ∷ filter (is_named last) xs) (filter (is_named last) xs))
        → (0 < length (filter (is_named last) xs) → ys ≡ later (Some last) ys) → ys ≡ later (Some last) ys
    go Less e here rest = rest here
    go Equal e here rest = subst (λ l. ys ≡ later (Some l) ys) (equal_is (identifier_of x) last e) (come_after x ys (back xs up.0))
    go Greater e here rest = rest here

-- what ends there is passed
pub end_goes_on : (last : ℤ × ℤ) (xs ys old new : List Item) → old ≡ xs ++ ys → new ≡ ys → IsEnd (Some last) xs → IsStrictlySortedBy by_identifier old → GoesOnTo last old new
end_goes_on last xs ys old new old_is new_is end up =
    let behind = behind_named last xs ys end.0 (subst (IsStrictlySortedBy by_identifier) old_is up) in
    let passed : later (Some last) old ≡ ys = ap (later (Some last)) old_is ∙ filter-append (is_later (Some last)) xs ys ∙ ap (λ zs. zs ++ later (Some last) ys) end.1 ∙ sym behind in
    record {
      among = λ test.
          omega (
            arith,
            ap (λ zs. length (filter test zs)) old_is,
            ap (λ zs. length (filter test zs)) new_is,
            ap length (filter-append test xs ys),
            length-append (filter test xs) (filter test ys),
          );
      behind = new_is ∙ behind ∙ ap (later (Some last)) (sym new_is);
      passed = omega (arith, ap length passed, ap length old_is, length-append xs ys, end.0, filter_fewer (is_named last) xs);
    }

-- ---- the next segment

module _ (sought : Sought) (after : Option (ObjectId × ℕ)) (segment : SegmentFeatures) (segments behind : List SegmentFeatures) (are : segments ≡ segment ∷ behind) where
  abbrev named : Option (ℤ × ℤ)
  named = option_map identifier after

  abbrev here : List Item
  here = later named segment.features

  abbrev rest : List Item
  rest = unopened_ahead after behind

  ahead_is : unopened_ahead after segments ≡ here ++ rest
  ahead_is = ap (unopened_ahead after) are ∙ filter-append (is_later named) segment.features (joined behind)

  -- no feature of the segment comes after the named one
  pub nothing_left : (opened : Option SegmentCandidates) → here ≡ [] → opened_left opened ++ unopened_left sought after behind ≡ opened_left opened ++ unopened_left sought after segments
  nothing_left opened none =
      let nothing : [] ≡ later named (filter (is_sought sought) segment.features) = sym (turned (is_later named) (is_sought sought) segment.features ∙ ap (filter (is_sought sought)) none) in
      ap (λ xs. opened_left opened ++ xs) (segment_opened sought after None segment segments behind are nothing)

  pub nothing_ahead : (opened : Option SegmentCandidates) → here ≡ [] → opened_left opened ++ unopened_ahead after behind ≡ opened_left opened ++ unopened_ahead after segments
  nothing_ahead opened none = ap (λ xs. opened_left opened ++ xs) (sym (ahead_is ∙ ap (λ xs. xs ++ rest) none))

  module _ (closed opened left : Option SegmentCandidates) (none : opened_left closed ≡ []) (is : opened_left opened ≡ later named (filter (is_sought sought) segment.features)) where
    -- what was left, and what was ahead
    old_left : (old : List Item) → opened_left closed ++ unopened_left sought after segments ≡ old → opened_left opened ++ unopened_left sought after behind ≡ old
    old_left old was = segment_opened sought after opened segment segments behind are is ∙ ap (λ xs. xs ++ unopened_left sought after segments) (sym none) ∙ was

    old_ahead : (old : List Item) → opened_left closed ++ unopened_ahead after segments ≡ old → old ≡ here ++ rest
    old_ahead old was = sym was ∙ ap (λ xs. xs ++ unopened_ahead after segments) none ∙ ahead_is

    kept_is : opened_left opened ≡ filter (is_sought sought) here
    kept_is = is ∙ turned (is_later named) (is_sought sought) segment.features

    pub mid_rises : (old : List Item) → opened_left closed ++ unopened_ahead after segments ≡ old → IsStrictlySortedBy by_identifier old → IsStrictlySortedBy by_identifier (opened_left opened ++ rest)
    mid_rises old was up =
        subst (λ (xs : List Item). IsStrictlySortedBy by_identifier (xs ++ rest)) (sym kept_is)
        (kept_rises (is_sought sought) here rest (subst (IsStrictlySortedBy by_identifier) (old_ahead old was) up))

    mid_among : (old : List Item) → opened_left closed ++ unopened_ahead after segments ≡ old → AreAmong (opened_left opened ++ rest) old
    mid_among old was =
        subst (AreAmong (opened_left opened ++ rest)) (sym (old_ahead old was))
        (subst (λ (xs : List Item). AreAmong (xs ++ rest) (here ++ rest)) (sym kept_is) (front_among here (filter (is_sought sought) here) rest (few_among (is_sought sought) here)))

    -- its first candidate is found
    module _ (x : Item) (first : opened_left opened ≡ x ∷ opened_left left) where
      pub found_left : (old : List Item) → opened_left closed ++ unopened_left sought after segments ≡ old → old ≡ x ∷ (opened_left left ++ unopened_left sought after behind)
      found_left old was = sym (old_left old was) ∙ ap (λ xs. xs ++ unopened_left sought after behind) first

      pub found_rises : (old : List Item) → opened_left closed ++ unopened_ahead after segments ≡ old → IsStrictlySortedBy by_identifier old → IsStrictlySortedBy by_identifier (opened_left left ++ rest)
      found_rises old was up = rest_rises by_identifier x (opened_left left ++ rest) (opened_left opened ++ rest) (ap (λ xs. xs ++ rest) first) (mid_rises old was up)

      pub found_on : (old : List Item) → opened_left closed ++ unopened_ahead after segments ≡ old → IsStrictlySortedBy by_identifier old → GoesOnTo (identifier_of x) old (opened_left left ++ rest)
      found_on old was up = first_goes_on x old (opened_left opened ++ rest) (opened_left left ++ rest) (ap (λ xs. xs ++ rest) first) (mid_rises old was up) (mid_among old was)

    -- it has none
    module _ (last : ℤ × ℤ) (end : IsEnd (Some last) here) (nothing : opened_left opened ≡ []) (closes : opened_left left ≡ []) where
      pub passed_same : (old : List Item) → opened_left closed ++ unopened_left sought after segments ≡ old → opened_left left ++ unopened_left sought after behind ≡ old
      passed_same old was = ap (λ xs. xs ++ unopened_left sought after behind) (closes ∙ sym nothing) ∙ old_left old was

      pub passed_rises : (old : List Item) → opened_left closed ++ unopened_ahead after segments ≡ old → IsStrictlySortedBy by_identifier old → IsStrictlySortedBy by_identifier (opened_left left ++ rest)
      passed_rises old was up =
          subst (λ (xs : List Item). IsStrictlySortedBy by_identifier (xs ++ rest)) (sym closes)
          (tail_rises here rest (subst (IsStrictlySortedBy by_identifier) (old_ahead old was) up))

      pub passed_on : (old : List Item) → opened_left closed ++ unopened_ahead after segments ≡ old → IsStrictlySortedBy by_identifier old → GoesOnTo last old (opened_left left ++ rest)
      passed_on old was up = end_goes_on last here rest old (opened_left left ++ rest) (old_ahead old was) (ap (λ xs. xs ++ rest) closes) end up

      pub passed_later : (old all : List Item) → opened_left closed ++ unopened_left sought after segments ≡ old → opened_left closed ++ unopened_ahead after segments ≡ all → IsStrictlySortedBy by_identifier all → old ≡ later (Some last) old
      passed_later old all was was_ahead up =
          let behind_it = behind_named last here rest end.0 (subst (IsStrictlySortedBy by_identifier) (old_ahead all was_ahead) up) in
          let test = is_sought sought in
          let rest_is : old ≡ filter test rest = sym (passed_same old was) ∙ ap (λ xs. xs ++ unopened_left sought after behind) closes ∙ turned (is_later named) test (joined behind) in
          rest_is ∙ ap (filter test) behind_it ∙ turned test (is_later (Some last)) rest ∙ ap (later (Some last)) (sym rest_is)
