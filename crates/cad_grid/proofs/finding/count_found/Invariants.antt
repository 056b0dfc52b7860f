use Rattle.std.proofs.Common.{◌≡◌, ◌+◌, ◌-◌, ◌<◌, ◌≤◌, true, filter, length}
use Rattle.cad_grid.specs.Entries.{entry_at, inside, found_in}
use Rattle.cad_grid.proofs.Walks.{left_over}
use Rattle.cad_grid.proofs.finding.count_found.Given as goal

abbrev pub invariant-loop-at : goal.invariant-loop-at
invariant-loop-at g l = record {
  within : l.at ≤ length l.entries;
  inside : l.at < length l.entries → inside l.asked (entry_at l.entries l.at) ≡ true;
  few : l.found ≤ length l.wide + l.at;
  counted : l.found + length (filter (g.T.PositionTest.passes l.test) (left_over l.asked l.cells l.entries l.at)) ≡ length (filter (g.T.PositionTest.passes l.test) (found_in l.asked l.cells l.wide l.entries));
}

abbrev pub decreases-loop-at : goal.decreases-loop-at
decreases-loop-at g l = length l.entries - l.at
