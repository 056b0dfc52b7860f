use Rattle.std.proofs.Common.{◌≡◌, ◌∙◌, [], sym, subst}
use Rattle.cad_register.specs.Journal.{commands_behind}
use Rattle.cad_register.specs.inner.Slots.{slots_in}
use Rattle.cad_register.proofs.SlotLemmas.{all_missing}
use Rattle.cad_register.proofs.slots.Slots.new.Goals as goal

pub returns : goal.returns
returns c behind =
    let cs = c.in_ok-commands.commands.items in
    let gs = c.in_ok-given.given.items in
    let told = c.in_ok-given.ensures in
    subst (λ n. slots_in cs gs ≡ commands_behind behind n []) told.even (all_missing behind cs gs (c.in_ok-commands.ensures ∙ sym told.even) (told.missing ∙ sym told.even))
