use Rattle.std.proofs.Common.{◌≡◌, ◌++◌, ◌-◌, ◌<◌, ◌≤◌, true, length}
use Rattle.cad_grid.specs.Entries.{entry_at, inside, found_in}
use Rattle.cad_grid.proofs.Walks.{left_over}
use Rattle.cad_grid.proofs.finding.list_found.Given as goal

abbrev pub invariant-loop-at : goal.invariant-loop-at
invariant-loop-at l = record {
  within : l.at ≤ length l.entries;
  inside : l.at < length l.entries → inside l.asked (entry_at l.entries l.at) ≡ true;
  listed : l.found.items ++ left_over l.asked l.cells l.entries l.at ≡ found_in l.asked l.cells l.wide l.entries;
}

abbrev pub decreases-loop-at : goal.decreases-loop-at
decreases-loop-at l = length l.entries - l.at
