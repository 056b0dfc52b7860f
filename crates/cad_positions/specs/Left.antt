-- The positions that are left: sets of positions, and the effect of taking from their fronts.
use Rattle.std.specs.Prelude.{◌≡◌, ℕ, ◌<◌, Bool, true, false, ◌&&◌, nat_le, List, [], Option, MatchOption}

-- the least position that is left, if there is one
abbrev pub IsFront : (ℕ → Bool) → Option ℕ → Type 0
IsFront left front = MatchOption front ((k : ℕ) → left k ≡ false) (λ m. (left m ≡ true) × ((k : ℕ) → k < m → left k ≡ false))

-- all below a position are dropped, and no others
abbrev pub DropsBelow : (ℕ → Bool) → (ℕ → Bool) → ℕ → Type 0
DropsBelow old new from = (k : ℕ) → new k ≡ (old k && nat_le from k)

-- all below a position are dropped, and the front is returned
pub record Settles (old new : ℕ → Bool) (from : ℕ) (found : Option ℕ) : Type 0 where
  pub kept : DropsBelow old new from
  pub front : IsFront new found

-- nothing was left, and nothing is
abbrev pub StaysEmpty : List ℕ → List ℕ → Type 0
StaysEmpty old new = (old ≡ []) × (new ≡ [])
