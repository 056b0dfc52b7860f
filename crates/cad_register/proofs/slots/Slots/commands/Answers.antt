use Rattle.std.proofs.Common.{◌∙◌, sym}
use Rattle.cad_register.proofs.SlotLemmas.{none_missing, some_missing}
use Rattle.cad_register.proofs.slots.Slots.commands.Goals as goal

pub returns-then-missing-eq0 : goal.returns-then-missing-eq0
returns-then-missing-eq0 c =
    let slots = c.args.self in
    none_missing slots.commands.items slots.given.items slots.even (sym slots.counted ∙ c.if-missing-eq0.true)

pub returns : goal.returns
returns c =
    let slots = c.args.self in
    some_missing slots.commands.items slots.given.items slots.even (λ none. c.if-missing-eq0.false (slots.counted ∙ none))
