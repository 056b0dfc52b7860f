use Rattle.std.proofs.Common.{◌≡◌, ◌≤◌, length, map, take}
use Rattle.cad_versions.specs.Versions.{history}
use Rattle.cad_versions.specs.Entries.{version_in}
use Rattle.cad_memory_ledger.proofs.standing.count_of.Given as goal

abbrev pub invariant-loop-version : goal.invariant-loop-version
invariant-loop-version l = record {
  counted : l.count ≡ length (history l.object (map version_in (take l.version-index l.kept)));
  small : l.count ≤ l.version-index;
}
