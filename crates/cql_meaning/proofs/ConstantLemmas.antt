-- The values of terms, step by step.
use Rattle.std.proofs.Common.{◌≡◌, ℕ, ℤ, zero, suc, ◌+◌, ◌≤◌, List, [], ◌∷◌, map, length, get_or, drop, add-one, drop-cons, Option, refl, arith}
use Rattle.cad_feature.specs.Features.{Item}
use Rattle.cql_types.specs.declared.filter.Step.{Step}
use Rattle.cql_meaning.specs.Arithmetic.{made, stepped, whole_value}
use Rattle.cql_meaning.specs.lemmas.TermLemmas.{part_of}

pub stepped_next : (x : Item) (steps : List Step) (i : ℕ) (s : Step) (v : Option ℤ) → suc i ≤ length steps → s ≡ get_or steps i s →
    stepped v (map (part_of x) (drop i steps)) ≡ stepped (made s.by (whole_value x s.term) v) (map (part_of x) (drop (i + 1) steps))
stepped_next x steps i s v h e = rw (add-one, drop-cons steps i s, ← e) refl

pub drop_over : {X : Type 0} (xs : List X) (i : ℕ) → length xs ≤ i → drop i xs ≡ []
drop_over [] zero h = refl
drop_over [] (suc i) h = refl
drop_over (x ∷ xs) zero h = absurd (omega arith)
drop_over (x ∷ xs) (suc i) h = drop_over xs i (omega arith)

pub stepped_all : (x : Item) (steps : List Step) (i : ℕ) (v : Option ℤ) → length steps ≤ i → stepped v (map (part_of x) (drop i steps)) ≡ v
stepped_all x steps i v h = rw (drop_over steps i h) refl
