use Rattle.std.proofs.Common.{◌≤◌, take}
use Rattle.cad_feature.specs.inner.StoredVersions.{AreHeldAlike}
use Rattle.cad_feature.proofs.entry_names.last_turn_among.Given as goal

abbrev pub invariant-loop-entry : goal.invariant-loop-entry
invariant-loop-entry l = record {
  within : l.turn ≤ l.most;
  alike : AreHeldAlike l.turn l.most l.object l.day (take l.entry-index l.near);
}
