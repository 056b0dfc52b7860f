use Rattle.std.proofs.Common.{◌∙◌, [], ◌∷◌, ◌++◌, ap, map, max, sym, take}
use Rattle.std.proofs.lemmas.List.{take_more}
use Rattle.cad_versions.specs.Entries.{version_in}
use Rattle.cad_versions.specs.Objects.{object_number}
use Rattle.cad_stream.specs.Summaries.{highest_object}
use Rattle.cad_server.proofs.HighestLemmas.{highest_entry}
use Rattle.cad_server.proofs.totals.highest_in.Goals as goal

pub loop-stored-preserved : goal.loop-stored-preserved
loop-stored-preserved c =
    let stored = c.args.versions.now in
    let i = c.loop-stored.stored-index in
    c.with_object-highest.ensures
    ∙ ap (λ e. max (object_number e.version.object) c.loop-stored.highest) c.stored-inside.view_is
    ∙ ap (λ e. max (object_number (version_in e).object) c.loop-stored.highest) c.stored.view_is
    ∙ ap (max (object_number c.stored-item.result.version.object)) c.loop-stored.invariant
    ∙ sym (highest_entry (take i stored) c.stored-item.result)
    ∙ ap (λ entry. highest_object (map version_in (take i stored ++ entry ∷ []))) c.stored-item.is
    ∙ ap (λ entries. highest_object (map version_in entries)) (sym (take_more stored i c.stored-item.result c.loop-stored-test.true))
