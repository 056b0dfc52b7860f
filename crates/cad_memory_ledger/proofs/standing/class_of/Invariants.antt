use Rattle.std.proofs.Common.{◌≡◌, find, drop, map}
use Rattle.cad_versions.specs.Versions.{is_of}
use Rattle.cad_versions.specs.Entries.{version_in}
use Rattle.cad_memory_ledger.proofs.standing.class_of.Given as goal

abbrev pub invariant-loop-version : goal.invariant-loop-version
invariant-loop-version l = find (is_of l.object) (map version_in l.kept) ≡ find (is_of l.object) (map version_in (drop l.version-index l.kept))
