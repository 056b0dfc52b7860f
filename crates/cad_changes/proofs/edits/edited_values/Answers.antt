use Rattle.std.proofs.Common.{map}
use Rattle.cad_feature.specs.Values.{datum_of}
use Rattle.cad_changes.specs.inner.EditsOf.{edits_of}
use Rattle.cad_changes.proofs.FitLemmas.{data_more}
use Rattle.cad_changes.proofs.edits.edited_values.Goals as goal

pub loop-place-preserved : goal.loop-place-preserved
loop-place-preserved c =
    data_more (edits_of c.args.new) c.args.first c.args.properties.now (map datum_of c.args.old.now) c.loop-place.place _ c.loop-place.values.items c.push.new.self.items c.in_ok-value.value c.loop-place-test.true c.loop-place.invariant c.in_ok-push.ensures.items c.in_ok-value.ensures
