use Rattle.std.proofs.Common.{◌≡◌, ◌++◌, map, take, drop}
use Rattle.cad_versions.specs.Entries.{close_entry}
use Rattle.cad_memory_ledger.proofs.writing.close.Given as goal

abbrev pub invariant-loop-version : goal.invariant-loop-version
invariant-loop-version l = l.kept ≡ map (close_entry l.object l.day l.revision) (take l.version-index l.initial.kept) ++ drop l.version-index l.initial.kept
