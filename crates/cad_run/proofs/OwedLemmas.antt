-- What a search owes, feature by feature.
use Rattle.std.proofs.Common.{◌≡◌, ◌∙◌, ℕ, zero, suc, ◌+◌, ◌-◌, ℤ, Bool, true, false, List, [], ◌∷◌, ◌++◌, length, filter, take, ap, sym, refl, arith, append_assoc, append-nil, Option, option_map}
use Rattle.std.specs.Prelude.{map, nat_lt}
use Rattle.std.proofs.lemmas.Bool.Decides.{nat_tests}
use Rattle.cad_feature.specs.Features.{Item, identifier_of}
use Rattle.cad_run.specs.Owed.{Owed, owed_by, page_after}
use Rattle.cad_run.specs.Slices.{identifier, is_later, later}
use Rattle.cad_versions.specs.declared.object_id.ObjectId.{ObjectId}
use Rattle.cad_versions.specs.lemmas.ListLemmas.{filters_turn}

pub same_owed : (a b : Owed) → a.rows ≡ b.rows → a.more ≡ b.more → a.examined ≡ b.examined → a ≡ b
same_owed a b rows more examined = rw (rows, more, examined) refl

more_suc : (n m : ℕ) → nat_lt n m ≡ nat_lt (suc n) (suc m)
more_suc n m = grind (arith, nat_tests)

more_some : (m : ℕ) → true ≡ nat_lt 0 (suc m)
more_some m = grind (arith, nat_tests)

more_none : (n : ℕ) → false ≡ nat_lt n 0
more_none n = grind (arith, nat_tests)

module _ (passes : Item → Bool) (found : List (ℤ × ℤ)) (x : Item) (xs : List Item) where
  -- it does not pass
  pub owed-skip : (wanted examined : ℕ) → passes x ≡ false → owed_by passes found wanted (examined + 1) xs ≡ owed_by passes found wanted examined (x ∷ xs)
  owed-skip zero examined fails = rw fails (same_owed _ _ refl refl (omega arith))
  owed-skip (suc wanted) examined fails = rw fails (same_owed _ _ refl refl (omega arith))

  -- it passes, and is wanted
  pub owed-take : (wanted examined : ℕ) → passes x ≡ true → owed_by passes (found ++ identifier_of x ∷ []) wanted (examined + 1) xs ≡ owed_by passes found (suc wanted) examined (x ∷ xs)
  owed-take wanted examined passed =
      rw passed (same_owed _ _ (append_assoc found (identifier_of x ∷ []) (map identifier_of (take wanted (filter passes xs)))) (more_suc wanted (length (filter passes xs))) (omega arith))

  -- it passes, and as many as are wanted were found
  pub owed-full : (examined : ℕ) → passes x ≡ true → record { rows = found; more = true; examined = examined + 1 } ≡ owed_by passes found 0 examined (x ∷ xs)
  owed-full examined passed = rw passed (same_owed _ _ (sym (append-nil found)) (more_some (length (filter passes xs))) (omega arith))

-- none is left
pub owed-over : (passes : Item → Bool) (found : List (ℤ × ℤ)) (wanted examined : ℕ) → record { rows = found; more = false; examined = examined } ≡ owed_by passes found wanted examined []
owed-over passes found zero examined = same_owed _ _ (sym (append-nil found)) (more_none 0) (omega arith)
owed-over passes found (suc wanted) examined = same_owed _ _ (sym (append-nil found)) (more_none (suc wanted)) (omega arith)

-- what a search owes that was not begun
pub first_owes : (passes : Item → Bool) (all : List Item) (last : Option (ℤ × ℤ)) (limit : ℕ) → owed_by passes [] limit 0 (later last all) ≡ page_after passes last limit all
first_owes passes all last limit =
    let turned = filters_turn passes (is_later last) all in
    same_owed _ _ (ap (λ (xs : List Item). map identifier_of (take limit xs)) turned) (ap (λ (xs : List Item). nat_lt limit (length xs)) turned) (omega arith)

pub first_search : (passes : Item → Bool) (all : List Item) (found : List (ObjectId × ℕ)) (after : Option (ObjectId × ℕ)) (limit : ℕ) → found ≡ []
    → owed_by passes (map identifier found) (limit - length found) 0 (later (option_map identifier after) all) ≡ page_after passes (option_map identifier after) limit all
first_search passes all found after limit nothing =
    let wanted : limit - 0 ≡ limit = omega arith in
    rw nothing (ap (λ (n : ℕ). owed_by passes [] n 0 (later (option_map identifier after) all)) wanted ∙ first_owes passes all (option_map identifier after) limit)
