use Rattle.std.proofs.Common.{◌∙◌, sym, ap, arith}
use Rattle.cad_versions.specs.Entries.{Entry}
use Rattle.cad_feature.proofs.EntryLemmas.{held_same}
use Rattle.cad_feature.proofs.entry_names.last_turn_of.Goals as goal

pub returns-clause-alike : goal.returns-clause-alike
returns-clause-alike c = λ n low high.
    held_same c.args.entry.now c.args.day n
    (λ k. c.up_to.ensures.none n (omega (arith, low, c.later.ensures.one)) high (k ∙ ap (λ (x : Entry). x.entered) (sym c.entry.view_is)))
    (c.last_closing.ensures.alike n (omega (arith, low, c.later.ensures.other)) high)
