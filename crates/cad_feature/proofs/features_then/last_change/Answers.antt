use Rattle.std.proofs.Common.{◌∙◌, sym, ap, arith}
use Rattle.cad_versions.specs.Entries.{Entry}
use Rattle.cad_feature.proofs.EntryLemmas.{feature_stays}
use Rattle.cad_feature.proofs.features_then.last_change.Goals as goal

pub returns-clause-within : goal.returns-clause-within
returns-clause-within c =
    c.later-2.ensures.within c.args.most c.closing_up_to-closing.ensures.within (c.later.ensures.within c.args.most c.last_turn-unit.ensures.within c.last_turn-party.ensures.within)

pub returns-clause-stays : goal.returns-clause-stays
returns-clause-stays c = λ collection n low high.
    feature_stays c.args.entries.now.entries.now c.args.entry.now _ c.unit.result c.party.result (ap (λ (x : Entry). x.version) (sym c.entry.view_is) ∙ sym c.version.view_is) c.unit.ensures c.party.ensures collection n
    (λ k. c.closing_up_to-closing.ensures.none n (omega (arith, low, c.later-2.ensures.one)) high (k ∙ ap (λ (x : Entry). x.closed) (sym c.entry.view_is)))
    (c.last_turn-unit.ensures.stays n (omega (arith, low, c.later-2.ensures.other, c.later.ensures.one)) high)
    (c.last_turn-party.ensures.stays n (omega (arith, low, c.later-2.ensures.other, c.later.ensures.other)) high)
