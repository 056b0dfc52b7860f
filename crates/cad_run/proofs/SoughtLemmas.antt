-- What is sought among the rows of a revision, or among all.
use Rattle.std.proofs.Common.{◌≡◌, ◌∙◌, ℕ, Bool, true, false, List, [], ◌∷◌, filter, refl, sym, ap, Option, Some, None}
use Rattle.std.specs.Prelude.{◌&&◌}
use Rattle.std.specs.List.{range_with_len}
use Rattle.cad_feature.specs.Features.{Item}
use Rattle.cad_index.specs.Moments.{is_shown_at, rows_at}
use Rattle.cad_index.specs.lemmas.MomentLemmas.{filters_joined}
use Rattle.cad_lookup.specs.declared.plan.Plan.{Plan}
use Rattle.cad_lookup.specs.Candidates.{is_candidate, candidates}
use Rattle.cad_positions.specs.AllRows.{most, rows_of}
use Rattle.cad_run.specs.Positions.{items_at}
use Rattle.cad_run.specs.Sought.{is_in_time}
use Rattle.cad_run.specs.lemmas.TakenLemmas.{turned}

never : (b : Bool) → (b && false) ≡ false
never true = refl
never false = refl

every : (xs : List Item) → filter (λ x. true) xs ≡ xs
every [] = refl
every (x ∷ xs) = ap (λ ys. x ∷ ys) (every xs)

none_left : (f : ℕ → Bool) → ((k : ℕ) → f k ≡ false) → (ks : List ℕ) → filter f ks ≡ []
none_left f never_in [] = refl
none_left f never_in (k ∷ ks) = rw (never_in k) (none_left f never_in ks)

-- no position is left
pub no_rows : (xs : List Item) (f : ℕ → Bool) → ((k : ℕ) → f k ≡ false) → filter (is_in_time None) (items_at xs (rows_of f)) ≡ []
no_rows xs f never_in = every (items_at xs (rows_of f)) ∙ ap (items_at xs) (none_left f never_in (range_with_len 0 most))

module _ (plan : Plan) where
  abbrev pub sought : Option ℕ → Item → Bool
  sought revision x = is_in_time revision x && is_candidate plan x

  -- no candidate is sought
  pub unsought : (revision : Option ℕ) (x : Item) → is_candidate plan x ≡ false → sought revision x ≡ false
  unsought revision x h = ap (λ b. is_in_time revision x && b) h ∙ never (is_in_time revision x)

  -- all candidates
  pub sought_of_all : (revision : Option ℕ) (xs : List Item) → revision ≡ None → filter (is_in_time None) (candidates plan xs) ≡ filter (sought revision) xs
  sought_of_all revision xs is = every (candidates plan xs) ∙ ap (λ r. filter (sought r) xs) (sym is)

  module _ (r : ℕ) (xs : List Item) where
    pub sought_at : filter (sought (Some r)) xs ≡ rows_at r (candidates plan xs)
    sought_at = filters_joined (is_candidate plan) (is_shown_at r) xs ∙ turned (is_candidate plan) (is_shown_at r) xs

    module _ (revision : Option ℕ) (is : revision ≡ Some r) where
      some_sought : candidates plan (rows_at r xs) ≡ filter (sought revision) xs
      some_sought = sym (filters_joined (is_candidate plan) (is_shown_at r) xs) ∙ ap (λ o. filter (sought o) xs) (sym is)

      -- none of the rows has its values at the revision
      pub sought_of_nothing : rows_at r xs ≡ [] → [] ≡ filter (sought revision) xs
      sought_of_nothing none = sym (ap (candidates plan) none) ∙ some_sought

      -- some have
      pub sought_of_part : filter (is_in_time revision) (candidates plan xs) ≡ filter (sought revision) xs
      sought_of_part = ap (λ o. filter (is_in_time o) (candidates plan xs)) is ∙ sym sought_at ∙ ap (λ o. filter (sought o) xs) (sym is)

      -- all have
      pub sought_of_everything : rows_at r xs ≡ xs → filter (is_in_time None) (candidates plan xs) ≡ filter (sought revision) xs
      sought_of_everything all = every (candidates plan xs) ∙ sym (ap (candidates plan) all) ∙ some_sought
