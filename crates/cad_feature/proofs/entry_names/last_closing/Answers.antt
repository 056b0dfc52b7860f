use Rattle.std.proofs.Common.{◌∙◌, sym, ap}
use Rattle.cad_versions.specs.Entries.{Entry}
use Rattle.cad_feature.proofs.EntryLemmas.{other_alike}
use Rattle.cad_feature.proofs.entry_names.last_closing.Goals as goal

pub returns-clause-alike : goal.returns-clause-alike
returns-clause-alike c = λ n low high.
    other_alike c.args.entry.now c.args.day n (λ k. c.closing_up_to.ensures.none n low high (k ∙ ap (λ (x : Entry). x.closed) (sym c.entry.view_is)))
