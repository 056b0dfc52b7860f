-- A piece with a test that agrees with another on all features.
use Rattle.std.proofs.Common.{◌≡◌, ◌∙◌, ℕ, ◌+◌, ◌-◌, ◌≤◌, Bool, List, ap, sym, length, take, refl, ◌++◌, option_map, Result, Ok, Err}
use Rattle.std.specs.Prelude.{IfOk, map, nat_lt}
use Rattle.std.specs.List.{All}
use Rattle.std.proofs.lemmas.List.Elements.{All-filter}
use Rattle.cad_feature.specs.Features.{Item, identifier_of}
use Rattle.cad_run.specs.Slices.{identifier, is_later, later}
use Rattle.cad_run.specs.declared.search.Progress.{Progress}
use Rattle.cad_run.specs.declared.search.Progress.TheVariants.{Part, Whole}
use Rattle.cad_run.specs.declared.search.Search.{Search}
use Rattle.cad_run.specs.Owed.{Owed, owes, found_in, remaining, IfPart, Keeps}
use Rattle.cad_run.specs.Steps.{AreAmong}
use Rattle.cad_answer.proofs.AnswerLemmas.{kept_alike, same_examined}

same_owed : (a b : Owed) → a.rows ≡ b.rows → a.more ≡ b.more → a.examined ≡ b.examined → a ≡ b
same_owed a b rows more examined = rw (rows, more, examined) refl

module _ (p q : Item → Bool) (all : List Item) (agree : All (λ x. p x ≡ q x) all) where
  owed_alike : (search : Search) → owes p all search ≡ owes q all search
  owed_alike search =
      let last = option_map identifier search.after in
      let left = All-filter (is_later last) (λ x. p x ≡ q x) all agree in
      let kept = kept_alike p q (later last all) left in
      let wanted = search.limit - length search.found.items in
      same_owed _ _
      (ap (λ (xs : List Item). found_in search ++ map identifier_of (take wanted xs)) kept)
      (ap (λ (xs : List Item). nat_lt wanted (length xs)) kept)
      (ap (λ (n : ℕ). search.examined + n) (same_examined p q (later last all) left wanted))

  -- what a piece keeps by the one test, it keeps by the other
  pub keeps_alike : {E : Type 0} (result : Result Progress E) (old new : Search) (page : Bool → Owed) → IfOk result (λ progress. Keeps (owes p all old) progress (owes p all new) page)
      → IfOk result (λ progress. Keeps (owes q all old) progress (owes q all new) page)
  keeps_alike (Ok Part) old new page keeps = sym (owed_alike new) ∙ keeps ∙ owed_alike old
  keeps_alike (Ok (Whole more)) old new page keeps = keeps ∙ owed_alike old
  keeps_alike (Err error) old new page keeps = tt

-- with the features ahead among those of the collection
pub smaller_told : {E : Type 0} (result : Result Progress E) (old new : Search) (count : ℕ) (ahead xs : List Item) → AreAmong ahead xs
    → IfOk result (λ progress. IfPart progress ((all : List Item) → AreAmong ahead all → length (remaining new all) + count ≤ length (remaining old all)))
    → IfOk result (λ progress. IfPart progress (length (remaining new xs) + count ≤ length (remaining old xs)))
smaller_told (Ok Part) old new count ahead xs among smaller = smaller xs among
smaller_told (Ok (Whole more)) old new count ahead xs among smaller = tt
smaller_told (Err error) old new count ahead xs among smaller = tt
