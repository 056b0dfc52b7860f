-- Positions in a list, or by their ranks.
use Rattle.std.specs.Prelude.{◌≡◌, ◌≤◌, ℕ, List, length}
use Rattle.cad_positions.specs.Rankings.{positions_between}
use Rattle.cad_positions.specs.declared.positions.Positions.{Positions}
use Rattle.cad_positions.specs.declared.positions.Positions.TheVariants as positions

-- the list of them, or ranks between which they and no others lie
abbrev pub Keeps : List ℕ → Positions → Type 0
Keeps ks (positions.Listed rows) = rows.items ≡ ks
Keeps ks (positions.Ranked ranks from to) = (positions_between ranks.now from to ≡ ks) × (length ranks.now ≤ 4294967295)
