use Rattle.std.proofs.lemmas.List.Edits.{map_over_more}
use Rattle.cad_versions.specs.Entries.{close_entry}
use Rattle.cad_memory_ledger.proofs.writing.close.Goals as goal

pub loop-version-preserved : goal.loop-version-preserved
loop-version-preserved c =
    rw (c.close_if_open.ensures, ← c.version-item.is)
    (map_over_more (close_entry c.args.object c.args.day c.args.revision) c.args.kept.now c.loop-version.kept c.loop-version.version-index c.version-item.result c.loop-version-test.true c.loop-version.invariant c.version-item.is)
