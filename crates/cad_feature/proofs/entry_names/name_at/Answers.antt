use Rattle.std.proofs.Common.{◌∙◌, sym}
use Rattle.cad_feature.proofs.EntryLemmas.{name_is}
use Rattle.cad_feature.proofs.entry_names.name_at.Goals as goal

pub returns-in-Some : goal.returns-in-Some
returns-in-Some c =
    rw c.in-Some.is (c.name_among.ensures ∙ sym (name_is c.args.entries.now.entries.now c.near.result.now c.in-Some.object c.args.day c.args.revision c.near.ensures))
