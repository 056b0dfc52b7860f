use Rattle.std.proofs.Common.{ap, ap₂, ◌∙◌}
use Rattle.cad_feature.specs.Features.{by_identifier}
use Rattle.cad_layer.specs.Merging.{put_if}
use Rattle.cad_changes.proofs.FitLemmas.{left_ascend, touched_listed}
use Rattle.cad_changes.proofs.TouchedLemmas.{touched_told, touched_bare}
use Rattle.cad_changes.proofs.touching.touched.Goals as goal

pub with_added-requires : goal.with_added-requires
with_added-requires c = rw c.in_ok-left.ensures (left_ascend c.args.command.now c.args.features.now.collection c.args.features.now.features c.are_listed.ensures.ascending)

pub returns-clause-listed : goal.returns-clause-listed
returns-clause-listed c =
    touched_listed c.args.features.now.collection c.args.features.now.features c.in_ok-all.all.items c.in_ok-added.added c.args.command.now (c.in_ok-all.ensures ∙ ap (put_if by_identifier c.in_ok-added.added) c.in_ok-left.ensures) c.are_listed.ensures c.in_ok-added.ensures.fits

pub returns-clause-touched : goal.returns-clause-touched
returns-clause-touched c = λ commands accepted f u p.
    touched_told commands c.args.command.now accepted c.args.features.now.collection c.args.features.now.features c.args.units.now.features c.args.parties.now.features c.in_ok-all.all.items
    (c.in_ok-all.ensures ∙ ap₂ (put_if by_identifier) c.in_ok-added.ensures.feature c.in_ok-left.ensures) f u p

pub returns-clause-rows : goal.returns-clause-rows
returns-clause-rows c = λ commands accepted f u p.
    touched_bare commands c.args.command.now accepted c.args.features.now.collection c.args.features.now.features c.args.units.now.features c.args.parties.now.features c.in_ok-all.all.items
    (c.in_ok-all.ensures ∙ ap₂ (put_if by_identifier) c.in_ok-added.ensures.feature c.in_ok-left.ensures) f u p
