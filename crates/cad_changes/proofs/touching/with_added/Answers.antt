use Rattle.std.proofs.Common.{◌∙◌}
use Rattle.cad_changes.proofs.FitLemmas.{one_rises}
use Rattle.cad_changes.proofs.touching.with_added.Goals as goal

pub merge-requires : goal.merge-requires
merge-requires c = (rw c.deref.ensures.value c.requires, one_rises c.in-Some.feature _ _ _ (c.deref-2.ensures.value ∙ c.in_ok-change.ensures) c.in_ok-push.ensures.items c.new-one.ensures.items)
