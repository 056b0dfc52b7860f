use Rattle.std.proofs.Common.{refl}
use Rattle.cad_versions.specs.declared.command.Command.TheVariants.{Enter, Amend, Retire}
use Rattle.cad_versions.specs.lemmas.ClosingLemmas.{entry_room, amends_in_time, retires_in_time}
use Rattle.cad_memory_ledger.proofs.PlainLemmas.{allowed, histories_after}
use Rattle.cad_memory_ledger.proofs.versions.StoredVersions.enact.Goals as goal

pub invariant_of-self : goal.invariant_of-self
invariant_of-self c =
    let command = Enter c.in-Enter.object c.in-Enter.first c.in-Enter.body in
    let may = allowed c.self.inside.kept.items c.args.self.now c.args.command command c.self.view_is c.in-Enter.is c.requires in
    rw (c.in_ok-push-in-Enter.ensures.items, c.new.ensures) (histories_after c.args.revision c.self.inside.kept.items command may c.self.invariant)

pub amend-requires-clause-few : goal.amend-requires-clause-few
amend-requires-clause-few c =
    let command = Amend c.in-Amend.object c.in-Amend.first c.in-Amend.body in
    entry_room c.self.inside.kept.items command c.in-Amend.body refl (allowed c.self.inside.kept.items c.args.self.now c.args.command command c.self.view_is c.in-Amend.is c.requires)

pub amend-requires-clause-timely : goal.amend-requires-clause-timely
amend-requires-clause-timely c =
    let command = Amend c.in-Amend.object c.in-Amend.first c.in-Amend.body in
    amends_in_time c.self.inside.kept.items c.in-Amend.object c.in-Amend.first c.in-Amend.body c.self.invariant.histories (allowed c.self.inside.kept.items c.args.self.now c.args.command command c.self.view_is c.in-Amend.is c.requires)

pub invariant_of-self-in-Continue-branch-2 : goal.invariant_of-self-in-Continue-branch-2
invariant_of-self-in-Continue-branch-2 c =
    let command = Amend c.in-Amend.object c.in-Amend.first c.in-Amend.body in
    let may = allowed c.self.inside.kept.items c.args.self.now c.args.command command c.self.view_is c.in-Amend.is c.requires in
    rw c.in_ok-amend-in-Amend.ensures (histories_after c.args.revision c.self.inside.kept.items command may c.self.invariant)

pub retire-requires : goal.retire-requires
retire-requires c =
    retires_in_time c.self.inside.kept.items c.in-Retire.object c.in-Retire.last c.self.invariant.histories (allowed c.self.inside.kept.items c.args.self.now c.args.command (Retire c.in-Retire.object c.in-Retire.last) c.self.view_is c.in-Retire.is c.requires)

pub invariant_of-self-in-Retire : goal.invariant_of-self-in-Retire
invariant_of-self-in-Retire c =
    let command = Retire c.in-Retire.object c.in-Retire.last in
    let may = allowed c.self.inside.kept.items c.args.self.now c.args.command command c.self.view_is c.in-Retire.is c.requires in
    rw c.retire.ensures (histories_after c.args.revision c.self.inside.kept.items command may c.self.invariant)
