-- How many trees are in a tree, itself among them: by it the walk ends.
use Rattle.std.proofs.Common.{◌≡◌, ap, ◌+◌, ◌*◌, ◌<◌, ◌≤◌, ℕ, zero, suc, List, [], ◌∷◌, length, get_or, map, arith}
use Rattle.cql_tree.specs.Syntax.{Syntax, Parts, leaf, node, part, none, parts_of, Op}

abbrev mutual
  pub weight_of : Syntax → ℕ
  weight_of (leaf p l) = 1
  weight_of (node op ps) = weight_in ps + 1

  pub weight_in : Parts → ℕ
  weight_in none = 0
  weight_in (part t ts) = weight_of t + weight_in ts

weight_among : {A : Type 0} (syntax : A → Syntax) (ts : List A) (i : ℕ) (t : A) → i < length ts → t ≡ get_or ts i t →
    weight_of (syntax t) ≤ weight_in (parts_of (map syntax ts))
weight_among syntax [] i t within is = omega (arith, within)
weight_among syntax (u ∷ us) zero t within is = rw is (omega arith)
weight_among syntax (u ∷ us) (suc i) t within is = let h = weight_among syntax us i t (omega (arith, within)) is in omega (arith, h)

-- a call at a node's parts, at whatever rank
pub falls_inside : {t : Syntax} {op : Op} {ps : Parts} {n : ℕ} (rank : ℕ) → rank < 5 → t ≡ node op ps → 5 * weight_of t ≡ n → 5 * weight_in ps + rank < n
falls_inside rank low is at = let e = ap weight_of is in omega (arith, e, at, low)

-- the same from the walk, whose rank is above that of a node's kind
pub falls_below : {t : Syntax} {op : Op} {ps : Parts} {n : ℕ} (rank : ℕ) → rank < 5 → t ≡ node op ps → 5 * weight_of t + 1 ≡ n → 5 * weight_in ps + rank < n
falls_below rank low is at = let e = ap weight_of is in omega (arith, e, at, low)

-- a call at one part of a list
pub falls_among : {A : Type 0} {n : ℕ} (syntax : A → Syntax) (ts : List A) (i : ℕ) (t : A) → i < length ts → t ≡ get_or ts i t →
    5 * weight_in (parts_of (map syntax ts)) + 2 ≡ n → 5 * weight_of (syntax t) + 1 < n
falls_among syntax ts i t within is at = let h = weight_among syntax ts i t within is in omega (arith, h, at)
