use Rattle.cad_memory_ledger.proofs.ShowLemmas.{shown_more}
use Rattle.cad_memory_ledger.proofs.showing.seen_at.Goals as goal

pub loop-version-preserved : goal.loop-version-preserved
loop-version-preserved c = record {
  seen = shown_more c.args.revision c.args.kept.now c.loop-version.version-index c.version-item.result _ c.loop-version.found.items c.push_seen.new.found.items c.loop-version-test.true c.version-item.is c.loop-version.invariant.seen c.in_ok-push_seen.ensures.seen;
  sound = c.in_ok-push_seen.ensures.sound c.loop-version.invariant.sound;
}
