use Rattle.std.proofs.Common.{◌∙◌, sym}
use Rattle.cad_register.proofs.SlotLemmas.{slots_length}
use Rattle.cad_register.proofs.slots.Slots.len.Goals as goal

pub returns : goal.returns
returns c =
    let slots = c.args.self.now in
    c.len.ensures ∙ slots.given.ok.0 ∙ sym (slots_length slots.commands.items slots.given.items slots.even)
