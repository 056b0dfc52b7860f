use Rattle.std.proofs.Common.{◌≡◌, ◌≢◌, ◌<◌, ◌∙◌, false, not, length, Some, refl, sym, ap, arith}
use Rattle.cad_day.specs.declared.day.Day.{Day}
use Rattle.cad_versions.specs.declared.object_id.ObjectId.{ObjectId}
use Rattle.cad_versions.specs.declared.command.Command.{Command}
use Rattle.cad_versions.specs.declared.command.Command.TheVariants.{Enter, Amend, Retire}
use Rattle.cad_register.specs.inner.Gathering.{takes_beginning}
use Rattle.cad_register.proofs.SlotLemmas.{slots_length, slot_missing, slot_given}
use Rattle.cad_register.proofs.slots.Slots.is_open.Goals as goal

pub index-requires : goal.index-requires
index-requires c =
    let slots = c.args.self.now in
    omega (arith, c.requires, slots.given.ok.0, slots_length slots.commands.items slots.given.items slots.even)

pub index-requires-else-not-index : goal.index-requires-else-not-index
index-requires-else-not-index c =
    let slots = c.args.self.now in
    omega (arith, c.requires, slots.commands.ok.0, slots.even, slots_length slots.commands.items slots.given.items slots.even)

pub returns-then-not-index : goal.returns-then-not-index
returns-then-not-index c =
    let slots = c.args.self.now in
    let cs = slots.commands.items in
    let gs = slots.given.items in
    let low : c.args.at < length gs = omega (arith, c.requires, slots_length cs gs slots.even) in
    let here = slot_missing cs gs c.args.at c.index.result.now slots.even low (sym c.index.ensures ∙ c.if-not-index.true) in
    ap not c.if-not-index.true ∙ ap takes_beginning (sym here)

begins_nothing : (c : Command) → ((object : ObjectId) (last : Day) → c ≢ Retire object last) → takes_beginning (Some c) ≡ false
begins_nothing (Enter object first body) other = refl
begins_nothing (Amend object first body) other = refl
begins_nothing (Retire object last) other = absurd (other object last refl)

pub returns-in-Retire : goal.returns-in-Retire
returns-in-Retire c =
    let slots = c.args.self.now in
    let cs = slots.commands.items in
    let gs = slots.given.items in
    let d = c.index-else-not-index.result.now in
    let low : c.args.at < length gs = omega (arith, c.requires, slots_length cs gs slots.even) in
    let here = slot_given cs gs c.args.at c.index.result.now d slots.even low (sym c.index.ensures ∙ c.if-not-index.false) in
    sym (ap takes_beginning (here ∙ ap Some (sym c.index-else-not-index.ensures ∙ c.in-Retire.is)))

pub returns-in_default : goal.returns-in_default
returns-in_default c =
    let slots = c.args.self.now in
    let cs = slots.commands.items in
    let gs = slots.given.items in
    let d = c.index-else-not-index.result.now in
    let low : c.args.at < length gs = omega (arith, c.requires, slots_length cs gs slots.even) in
    let here = slot_given cs gs c.args.at c.index.result.now d slots.even low (sym c.index.ensures ∙ c.if-not-index.false) in
    sym (ap takes_beginning (here ∙ ap Some (sym c.index-else-not-index.ensures)) ∙ begins_nothing d c.in_default.not-Retire)
