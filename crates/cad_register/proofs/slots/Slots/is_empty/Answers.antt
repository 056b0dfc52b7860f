use Rattle.std.proofs.Common.{◌<◌, ◌∙◌, not, length, ap, arith}
use Rattle.cad_register.proofs.SlotLemmas.{slots_length, slot_empty}
use Rattle.cad_register.proofs.slots.Slots.is_empty.Goals as goal

pub index-requires : goal.index-requires
index-requires c =
    let slots = c.args.self.now in
    omega (arith, c.requires, slots.given.ok.0, slots_length slots.commands.items slots.given.items slots.even)

pub returns : goal.returns
returns c =
    let slots = c.args.self.now in
    let cs = slots.commands.items in
    let gs = slots.given.items in
    let low : c.args.at < length gs = omega (arith, c.requires, slots_length cs gs slots.even) in
    ap not c.index.ensures ∙ slot_empty cs gs c.args.at c.index.result.now slots.even low
