use Rattle.std.proofs.Common.{◌≡◌, ℕ, ◌≤◌, ◌++◌, length, map}
use Rattle.std.specs.List.{AllByRecursion}
use Rattle.cad_history.specs.Rows.{shown_at}
use Rattle.cad_history.specs.inner.Starting.{AreOrdered, items_in, rows_of, seen_of}
use Rattle.cad_history.proofs.StartedLemmas.{IsRest, AreAbove}
use Rattle.cad_history.proofs.starting.all_rows.Given as goal

abbrev pub invariant-loop-entry : goal.invariant-loop-entry
invariant-loop-entry l = record {
  rows : AreOrdered (rows_of l.collection l.newest l.last.items (map items_in l.earlier.items));
  rising : IsRest l.rest;
  above : AllByRecursion (AreAbove l.last.items (map items_in l.earlier.items)) l.rest;
  shown : (revision : ℕ) → revision ≤ l.newest → seen_of l.entries l.collection revision l.entries
      ≡ shown_at revision (rows_of l.collection l.newest l.last.items (map items_in l.earlier.items)) ++ seen_of l.entries l.collection revision l.rest;
}

abbrev pub decreases-loop-entry : goal.decreases-loop-entry
decreases-loop-entry l = length l.rest
