-- Where a search is after a step.
use Rattle.std.proofs.Common.{◌∷◌, ◌≡◌, ◌∙◌, ◌+◌, ◌≤◌, ◌<◌, ◌^◌, ℕ, ℤ, Bool, List, length, arith, ap, sym, subst, Some, Result, Ok, Err, option_map}
use Rattle.std.specs.Prelude.{IfOk, OnOk}
use Rattle.std.specs.List.Sorted.{IsStrictlySortedBy}
use Rattle.cad_feature.specs.Features.{Item, identifier_of, by_identifier}
use Rattle.cad_layer.specs.lemmas.ItemLemmas.{rest_rises}
use Rattle.cad_run.specs.declared.search.Progress.{Progress}
use Rattle.cad_run.specs.declared.search.Progress.TheVariants.{Part, Whole}
use Rattle.cad_run.specs.declared.search.Search.{Search}
use Rattle.cad_run.specs.Owed.{owed, owes, page_in, remaining, Advances, IfPart, IsPlaced, Keeps}
use Rattle.cad_run.specs.Slices.{identifier, is_later, later}
use Rattle.cad_run.specs.Steps.{AreAmong, GoesOnTo}
use Rattle.cad_run.specs.lemmas.AheadLemmas.{among_through, behind_first, both_among, fewer_among, kept_among}

module _ (old new : Search) (last : ℤ × ℤ) (left rest : List Item) (after : (xs : List Item) → later (option_map identifier new.after) xs ≡ later (Some last) (later (option_map identifier old.after) xs)) where
  pub placed : rest ≡ later (Some last) left → IsPlaced old new left rest
  placed is all e = is ∙ ap (later (Some last)) e ∙ sym (after all)

  pub passed_place : rest ≡ left → left ≡ later (Some last) left → IsPlaced old new left rest
  passed_place same is = placed (same ∙ is)

  -- fewer features remain
  pub advanced : GoesOnTo last left rest → Advances old new 1 left rest
  advanced on all among =
      let passes = is_later (Some last) in (
        subst (AreAmong rest) (sym (after all)) (kept_among passes rest (remaining old all) on.behind (among_through rest left (remaining old all) on.among among)),
        omega (arith, ap length (after all), fewer_among passes left (remaining old all) among on.passed),
      )

-- behind the first feature
pub found_place : {E : Type 0} (result : Result Progress E) (old new : Search) (x : Item) (left rest : List Item) → IsStrictlySortedBy by_identifier left → left ≡ x ∷ rest
    → OnOk result ((xs : List Item) → later (option_map identifier new.after) xs ≡ later (Some (identifier_of x)) (later (option_map identifier old.after) xs))
    → IfOk result (λ progress. IfPart progress (IsPlaced old new left rest))
found_place (Ok Part) old new x left rest up is after =
    placed old new (identifier_of x) left rest after (behind_first x rest (subst (IsStrictlySortedBy by_identifier) is up) ∙ ap (later (Some (identifier_of x))) (sym is))
found_place (Ok (Whole more)) old new x left rest up is after = tt
found_place (Err error) old new x left rest up is after = tt

pub found_advanced : {E : Type 0} (result : Result Progress E) (old new : Search) (x : Item) (ahead rest : List Item) → GoesOnTo (identifier_of x) ahead rest
    → OnOk result ((xs : List Item) → later (option_map identifier new.after) xs ≡ later (Some (identifier_of x)) (later (option_map identifier old.after) xs))
    → IfOk result (λ progress. IfPart progress (Advances old new 1 ahead rest))
found_advanced (Ok Part) old new x ahead rest on after = advanced old new (identifier_of x) ahead rest after on
found_advanced (Ok (Whole more)) old new x ahead rest on after = tt
found_advanced (Err error) old new x ahead rest on after = tt

pub found_rises : {E : Type 0} (result : Result Progress E) (x : Item) (left rest : List Item) → IsStrictlySortedBy by_identifier left → left ≡ x ∷ rest → OnOk result (IsStrictlySortedBy by_identifier rest)
found_rises (Ok progress) x left rest up is = rest_rises by_identifier x rest left is up
found_rises (Err error) x left rest up is = tt

-- ---- a whole piece

module _ (passes : Item → Bool) (old new : Search) (all left rest : List Item) where
  -- what is owed of what is left is what is owed of all
  pub piece_owes : {E : Type 0} (result : Result Progress E) → left ≡ later (option_map identifier old.after) all
      → IfOk result (λ progress. Keeps (owed passes old left) progress (owed passes new rest) (page_in new))
      → IfOk result (λ progress. IfPart progress (IsPlaced old new left rest))
      → IfOk result (λ progress. Keeps (owes passes all old) progress (owes passes all new) (page_in new))
  piece_owes (Ok Part) is keeps place = ap (owed passes new) (sym (place all is)) ∙ keeps ∙ ap (owed passes old) is
  piece_owes (Ok (Whole more)) is keeps place = keeps ∙ ap (owed passes old) is
  piece_owes (Err error) is keeps place = tt

module _ (old new : Search) (all left rest : List Item) where
  pub piece_few : {E : Type 0} (result : Result Progress E) → left ≡ later (option_map identifier old.after) all
      → old.examined + length (later (option_map identifier old.after) all) < 2 ^ 64
      → OnOk result (new.examined + length rest ≤ old.examined + length left)
      → IfOk result (λ progress. IfPart progress (IsPlaced old new left rest))
      → IfOk result (λ progress. IfPart progress (new.examined + length (later (option_map identifier new.after) all) < 2 ^ 64))
  piece_few (Ok Part) is few fewer place = omega (arith, ap length is, ap length (place all is), few, fewer)
  piece_few (Ok (Whole more)) is few fewer place = tt
  piece_few (Err error) is few fewer place = tt

-- with the features ahead, as the source was opened
module _ (old new : Search) (count : ℕ) (ahead sought rest : List Item) where
  pub piece_smaller : {E : Type 0} (result : Result Progress E) → sought ≡ later (option_map identifier old.after) ahead
      → IfOk result (λ progress. IfPart progress (Advances old new count sought rest))
      → IfOk result (λ progress. IfPart progress ((all : List Item) → AreAmong ahead all → length (remaining new all) + count ≤ length (remaining old all)))
  piece_smaller (Ok Part) is advances = λ all among.
      (advances all (subst (λ (xs : List Item). AreAmong xs (remaining old all)) (sym is) (both_among (is_later (option_map identifier old.after)) ahead all among))).1
  piece_smaller (Ok (Whole more)) is advances = tt
  piece_smaller (Err error) is advances = tt

-- so many steps and one more
pub advances_on : (first old new : Search) (count : ℕ) (all left rest : List Item) → Advances first old count all left → Advances old new 1 left rest → Advances first new (count + 1) all rest
advances_on first old new count all left rest before one xs among =
    let was = before xs among in
    let now = one xs was.0 in
    (now.0, omega (arith, was.1, now.1))

-- two steps with one test
pub owed_on : (passes same : Item → Bool) → passes ≡ same → (old mid new : Search) (all left rest : List Item)
    → owed passes new rest ≡ owed passes mid left → owed same mid left ≡ owed same old all → owed same new rest ≡ owed same old all
owed_on passes same is old mid new all left rest now was = subst (λ (p : Item → Bool). owed p new rest ≡ owed p mid left) is now ∙ was
