use Rattle.std.proofs.Common.{sym, ap, ◌∙◌, length}
use Rattle.cad_versions.specs.AsOf.{as_of}
use Rattle.cad_feature.specs.Flatten.{features_in}
use Rattle.cad_changes.specs.Changes.{touched}
use Rattle.cad_changes.proofs.StepLemmas.{newest_are, rows_after}
use Rattle.cad_changes.proofs.extending.history_after.Goals as goal

pub returns-clause-rows : goal.returns-clause-rows
returns-clause-rows c = λ commands accepted own of_units of_parties number.
    let before = features_in (as_of (length commands) commands) in
    let newest = newest_are c.accepted_are_few.ensures commands c.args.command.now accepted in
    rows_after c.accepted_are_few.ensures commands c.args.command.now accepted c.revisions_stay.ensures c.args.history.now c.in_ok-after.after c.newest-features.result.now.features c.in_ok-touched.touched.items
    c.newest-features.ensures.shown c.newest-features.ensures.rows own c.in-Some.number (c.in-Some.ensures.1 ∙ number)
    (c.in_ok-touched.ensures.rows commands accepted
    (newest c.args.history.now c.newest-features.result.now.features c.newest-features.ensures.shown own ∙ ap before (sym c.newest-features.ensures.collection))
    (newest c.args.units.now c.newest-of_units.result.now.features c.newest-of_units.ensures.shown of_units ∙ ap before c.requires.units)
    (newest c.args.parties.now c.newest-of_parties.result.now.features c.newest-of_parties.ensures.shown of_parties ∙ ap before c.requires.parties)
    ∙ ap (touched (as_of (length commands) commands) c.args.command.now) c.newest-features.ensures.collection)
    c.in_ok-after.ensures
