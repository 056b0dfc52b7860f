use Rattle.std.proofs.Common.{◌≡◌, ◌++◌, map, drop}
use Rattle.std.specs.List.{All}
use Rattle.cad_versions.specs.VersionedObject.{IsVersion}
use Rattle.cad_versions.specs.Entries.{entries_at, seen_at}
use Rattle.cad_memory_ledger.proofs.showing.seen_at.Given as goal

abbrev pub invariant-loop-version : goal.invariant-loop-version
invariant-loop-version l = record {
  seen : map (seen_at l.revision) (entries_at l.revision l.kept) ≡ l.found.items ++ map (seen_at l.revision) (entries_at l.revision (drop l.version-index l.kept));
  sound : All IsVersion l.found.items;
}
