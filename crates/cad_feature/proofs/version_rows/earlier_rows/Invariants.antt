use Rattle.std.proofs.Common.{ℕ, ◌≤◌, ◌-◌, reverse}
use Rattle.std.specs.List.{AllByRecursion}
use Rattle.cad_feature.specs.VersionRows.{IsRowOf, RunOn}
use Rattle.cad_feature.proofs.version_rows.earlier_rows.Given as goal

abbrev pub invariant-loop-entry : goal.invariant-loop-entry
invariant-loop-entry l = record {
  since : l.entry-inside.entered ≤ l.end;
  each : (newest : ℕ) → AllByRecursion (IsRowOf newest l.entries.entries.now l.collection l.entry) (reverse l.rows.items);
  run : RunOn l.end l.until (reverse l.rows.items);
}

abbrev pub decreases-loop-entry : goal.decreases-loop-entry
decreases-loop-entry l = l.end - l.entry-inside.entered
