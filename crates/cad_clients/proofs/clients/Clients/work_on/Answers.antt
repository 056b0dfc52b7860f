use Rattle.std.proofs.Common.{◌≡◌, false, IsSomeAnd, inl, inr, ap}
use Rattle.cad_clients.specs.declared.budget.Budget.TheVariants.{Later}
use Rattle.cad_clients.specs.declared.turned.Turned.TheVariants.{Worked}
use Rattle.cad_clients.specs.Notes.{IsWorking}
use Rattle.cad_clients.specs.Slots.{client_at}
use Rattle.cad_clients.specs.Steps.{is_over}
use Rattle.cad_clients.proofs.TurnLemmas.{has_worked, is_unmade}
use Rattle.cad_clients.proofs.clients.Clients.work_on.Goals as goal

pub returns-in-Over-clause-worked : goal.returns-in-Over-clause-worked
returns-in-Over-clause-worked g c =
    let working : IsSomeAnd (client_at c.args.self.now c.args.c) IsWorking = c.is_working.ensures.0 c.if-not-is_working.false in
    let turn = rw c.in-Over.is at c.in-Some.ensures.turn in
    (turn.0, turn.1, (is_unmade g.R.Responder g.R.WorkingResponder.owes g.N.Network.name c.args.c c.args.now Later c.args.desk.now c.turn.new.desk c.args.self.now c.turn.new.self turn.0 c.in-Over.ending turn.2 working, turn.2))

pub returns-in-Wrote-clause-worked : goal.returns-in-Wrote-clause-worked
returns-in-Wrote-clause-worked g c =
    let working : IsSomeAnd (client_at c.args.self.now c.args.c) IsWorking = c.is_working.ensures.0 c.if-not-is_working.false in
    let stays : is_over c.in-Some.turned ≡ false =
    elim c.in-Wrote.is [
      | inl e ↦ ap is_over e
      | inr r ↦ elim r [
        | inl e ↦ ap is_over e
        | inr r ↦ elim r [
          | inl e ↦ ap is_over e
          | inr r ↦ elim r [
            | inl e ↦ ap is_over e
            | inr e ↦ ap is_over e
          ]
        ]
      ]
    ] in
    let turn = c.in-Some.ensures.turn in
    let is_work : c.in-Some.turned ≡ Worked = has_worked g.R.Responder g.R.WorkingResponder.owes g.N.Network.name c.args.c c.args.now Later c.args.desk.now c.turn.new.desk c.args.self.now c.turn.new.self turn.0 c.in-Some.turned stays turn.2 working in
    let worked = rw is_work at turn in
    worked
