use Rattle.std.proofs.Common.{◌≡◌, ℕ, Bool, None, get_or, map, take}
use Rattle.std.specs.Prelude.{option_map}
use Rattle.cad_grid.specs.Counted.{block_at}
use Rattle.cad_positions.specs.Hits.{hits, once}
use Rattle.cad_grid.specs.Entries.{entered, is_wide_at, small_tally}
use Rattle.cad_grid.specs.Grids.{blocks_at}
use Rattle.cad_grid.proofs.grid.Grid.build.Given as goal

abbrev pub invariant-loop-position : goal.invariant-loop-position
invariant-loop-position l = record {
  blocks : map (option_map block_at) l.all.items ≡ blocks_at l.place (take l.position l.features);
  listed : (v : ℕ) → hits v l.wide.items ≡ once (is_wide_at (get_or l.all.items v None));
  entered_once : (q : ℕ → ℕ → Bool) (v : ℕ) → entered q v l.entries.items ≡ small_tally q (get_or l.all.items v None);
}
