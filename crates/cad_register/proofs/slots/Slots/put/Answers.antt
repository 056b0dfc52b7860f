use Rattle.std.proofs.Common.{◌∙◌, length, set, ap, ap₂, arith}
use Rattle.cad_register.specs.inner.Slots.{slots_in}
use Rattle.cad_register.proofs.SlotLemmas.{slots_length, slot_set}
use Rattle.cad_register.proofs.slots.Slots.put.Goals as goal

pub give-requires : goal.give-requires
give-requires c =
    let slots = c.args.self.now in
    omega (arith, c.requires, slots_length slots.commands.items slots.given.items slots.even)

pub index_mut-requires : goal.index_mut-requires
index_mut-requires c =
    let slots = c.args.self.now in
    let same = ap (λ v. length v.items) c.give.ensures.commands in
    omega (arith, c.requires, slots_length slots.commands.items slots.given.items slots.even, slots.even, same, c.give.new.self.commands.ok.0)

pub returns : goal.returns
returns c =
    let slots = c.args.self.now in
    let cs = slots.commands.items in
    let gs = slots.given.items in
    ap₂ slots_in (ap₂ (λ ds d. set ds c.args.at d) (ap (λ v. v.items) c.give.ensures.commands) c.replace-old.ensures.after) c.give.ensures.given
    ∙ slot_set cs gs c.args.at c.args.command slots.even
