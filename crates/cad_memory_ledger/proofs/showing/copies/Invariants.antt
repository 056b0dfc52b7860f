use Rattle.std.proofs.Common.{◌≡◌, map, take}
use Rattle.std.specs.List.{All}
use Rattle.cad_versions.specs.Entries.{version_in}
use Rattle.cad_versions.specs.VersionedObject.{IsVersion}
use Rattle.cad_memory_ledger.proofs.showing.copies.Given as goal

abbrev pub invariant-loop-version : goal.invariant-loop-version
invariant-loop-version l = record {
  same : l.found.items ≡ take l.version-index l.versions;
  sound : All IsVersion (map version_in l.found.items);
}
