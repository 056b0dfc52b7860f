use Rattle.std.proofs.Common.{◌≡◌, ◌∙◌, ◌+◌, true, length-set, set, sym, arith}
use Rattle.cad_register.specs.inner.Slots.{missing_in}
use Rattle.cad_register.proofs.SlotLemmas.{one_given}
use Rattle.cad_register.proofs.slots.Slots.give.Goals as goal

pub overflow_sub-self : goal.overflow_sub-self
overflow_sub-self c =
    let slots = c.args.self.now in
    omega (arith, slots.counted, one_given slots.given.items c.args.at c.index.result.now c.requires (sym c.index.ensures ∙ c.if-not-index.true))

pub invariant_of-self-clause-even : goal.invariant_of-self-clause-even
invariant_of-self-clause-even c = c.args.self.now.even ∙ sym (length-set c.args.self.now.given.items c.args.at true)

pub invariant_of-self-clause-counted : goal.invariant_of-self-clause-counted
invariant_of-self-clause-counted c =
    let slots = c.args.self.now in
    let gs = slots.given.items in
    let one : missing_in gs ≡ missing_in (set gs c.args.at true) + 1 = one_given gs c.args.at c.index.result.now c.requires (sym c.index.ensures ∙ c.if-not-index.true) in
    omega (arith, slots.counted, one)
