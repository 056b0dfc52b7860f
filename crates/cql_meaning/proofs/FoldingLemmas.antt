-- No part of a condition folds case where none does.
use Rattle.std.proofs.Common.{◌≡◌, ℕ, zero, suc, ◌<◌, Bool, false, ◌||◌, List, [], ◌∷◌, map, length, get_or, ap, ◌∙◌, arith}
use Rattle.cql_types.specs.declared.filter.Filter.{Filter}
use Rattle.cql_meaning.specs.Folding.{folds_case, some}

first_is_false : (a b : Bool) → (a || b) ≡ false → a ≡ false
first_is_false a b h = grind arith

others_are_false : (a b : Bool) → (a || b) ≡ false → b ≡ false
others_are_false a b h = grind arith

pub no_part_folds : (parts : List Filter) (i : ℕ) (part : Filter) → some (map folds_case parts) ≡ false → i < length parts → part ≡ get_or parts i part → folds_case part ≡ false
no_part_folds [] i part h k e = absurd (omega arith)
no_part_folds (p ∷ ps) zero part h k e = ap folds_case e ∙ first_is_false (folds_case p) (some (map folds_case ps)) h
no_part_folds (p ∷ ps) (suc i) part h k e = no_part_folds ps i part (others_are_false (folds_case p) (some (map folds_case ps)) h) (omega arith) e
