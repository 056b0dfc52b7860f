use Rattle.std.proofs.Common.{◌≡◌, ◌+◌, false, inl, inr, [], refl, ap, arith}
use Rattle.cad_network.specs.lemmas.DeedLemmas.{Adds-nil}
use Rattle.cad_clients.specs.declared.turned.Turned.TheVariants.{Over}
use Rattle.cad_clients.specs.Budgets.{worked_by}
use Rattle.cad_clients.specs.Steps.{HasEnough, fed_by, is_over}
use Rattle.cad_clients.proofs.TurnLemmas.{times, same_times, once, none_before, spent_more, first_fed, first_worked, has_enough, stays, unknown, ended, waits, went_on}
use Rattle.cad_clients.proofs.clients.Clients.serve.Goals as goal
use Rattle.cad_clients.proofs.clients.Clients.serve.Goals.{in-Wrote, in-Fed, in-Worked}

pub loop-init : goal.loop-init
loop-init g c = record {
  spent = omega arith;
  had = ([], Adds-nil _, ([], (refl, refl, refl), record { count = refl; fed = refl; worked = refl; there = inl refl; none_over = refl }));
}

pub returns-then-has_enough-clause-served : goal.returns-then-has_enough-clause-served
returns-then-has_enough-clause-served g c =
    has_enough g.R.Responder g.R.WorkingResponder.owes g.N.Network.name c.args.c c.args.now c.args.desk.now c.args.self.now c.loop.counter c.loop.has_fed c.loop.has_worked _ _ c.loop.desk c.loop.self c.loop.invariant.had
    (c.has_enough.ensures.0 c.if-has_enough.true) (let test = c.loop-test.true in omega (arith, test))

pub returns-in_default-clause-served : goal.returns-in_default-clause-served
returns-in_default-clause-served g c =
    unknown g.R.Responder g.R.WorkingResponder.owes g.N.Network.name c.args.c c.args.now c.args.desk.now c.args.self.now c.loop.counter c.loop.has_fed c.loop.has_worked _ _ _ c.loop.desk c.turn.new.desk c.loop.self c.turn.new.self c.loop.invariant.had c.in_default.ensures.turn

pub returns-in-Waits-clause-served : goal.returns-in-Waits-clause-served
returns-in-Waits-clause-served g c =
    let turn = rw c.in-Waits.is at c.in-Some.ensures.turn in
    waits g.R.Responder g.R.WorkingResponder.owes g.N.Network.name c.args.c c.args.now c.args.desk.now c.args.self.now c.loop.counter c.loop.has_fed c.loop.has_worked _ _ _ c.loop.desk c.turn.new.desk c.loop.self c.turn.new.self c.loop.invariant.had (let test = c.loop-test.true in omega (arith, test)) turn

pub returns-in-Over-clause-served : goal.returns-in-Over-clause-served
returns-in-Over-clause-served g c =
    let turn = rw c.in-Over.is at c.in-Some.ensures.turn in
    let goes_on : HasEnough c.args.c c.loop.has_fed c.loop.has_worked c.loop.self → ⊥ = λ enough. (let told = c.has_enough.ensures.1 enough in let not = c.if-has_enough.false in cc) in
    ended g.R.Responder g.R.WorkingResponder.owes g.N.Network.name c.args.c c.args.now c.args.desk.now c.args.self.now c.loop.counter c.loop.has_fed c.loop.has_worked _ _ _ c.loop.desk c.turn.new.desk c.loop.self c.turn.new.self c.loop.invariant.had c.in-Over.ending
    (let test = c.loop-test.true in omega (arith, test))
    (first_worked g.R.Responder g.R.WorkingResponder.owes g.N.Network.name c.args.c c.args.now c.loop.has_fed c.loop.has_worked c.loop.desk c.turn.new.desk c.loop.self c.turn.new.self turn.0 goes_on (Over c.in-Over.ending) turn.2)
    turn

pub returns-clause-served : goal.returns-clause-served
returns-clause-served g c =
    let count = c.loop.invariant.had.2.2.count in
    let end = c.loop.auto.counter-end in
    stays g.R.Responder g.R.WorkingResponder.owes g.N.Network.name c.args.c c.args.now c.args.desk.now c.args.self.now c.loop.counter c.loop.has_fed c.loop.has_worked _ _ c.loop.desk c.loop.self c.loop.invariant.had (inr (inr (inr (omega (arith, count))))) (omega (arith, end))

pub loop-preserved : goal.loop-preserved
loop-preserved g c =
    let turned = c.in-Some.turned in
    let turn = c.in-Some.ensures.turn in
    let spent = c.in-Some.ensures.bounded in
    let goes_on : HasEnough c.args.c c.loop.has_fed c.loop.has_worked c.loop.self → ⊥ = λ enough. (let told = c.has_enough.ensures.1 enough in let not = c.if-has_enough.false in cc) in
    let sums : (is_over turned ≡ false) × ((fed_by turned + times c.loop.has_fed ≡ times c.match-turned.has_fed) × (worked_by turned + times c.loop.has_worked ≡ times c.match-turned.has_worked)) =
    elim c.match-turned.branch [
      | in-Wrote w ↦ (
        elim w.in-Wrote.is [ inl e ↦ ap is_over e | inr e ↦ ap is_over e ],
        (
          same_times (fed_by turned) c.loop.has_fed c.match-turned.has_fed (elim w.in-Wrote.is [ inl e ↦ ap fed_by e | inr e ↦ ap fed_by e ]) w.has_fed-is,
          same_times (worked_by turned) c.loop.has_worked c.match-turned.has_worked (elim w.in-Wrote.is [ inl e ↦ ap worked_by e | inr e ↦ ap worked_by e ]) w.has_worked-is,
        ),
      )
      | in-Fed w ↦ (
        ap is_over w.in-Fed.is,
        (
          once (fed_by turned) c.loop.has_fed c.match-turned.has_fed (ap fed_by w.in-Fed.is) (
              let fed = rw w.in-Fed.is at turn in
              first_fed g.R.Responder g.R.WorkingResponder.owes g.N.Network.name c.args.c c.args.now c.loop.has_fed c.loop.has_worked c.loop.desk c.turn.new.desk c.loop.self c.turn.new.self fed.0 goes_on fed.2
              ) w.has_fed-is,
          same_times (worked_by turned) c.loop.has_worked c.match-turned.has_worked (ap worked_by w.in-Fed.is) w.has_worked-is,
        ),
      )
      | in-Worked w ↦ (
        ap is_over w.in-Worked.is,
        (
          same_times (fed_by turned) c.loop.has_fed c.match-turned.has_fed (ap fed_by w.in-Worked.is) w.has_fed-is,
          once (worked_by turned) c.loop.has_worked c.match-turned.has_worked (ap worked_by w.in-Worked.is)
              (none_before (worked_by turned) c.loop.has_worked (ap worked_by w.in-Worked.is) (first_worked g.R.Responder g.R.WorkingResponder.owes g.N.Network.name c.args.c c.args.now c.loop.has_fed c.loop.has_worked c.loop.desk c.turn.new.desk c.loop.self c.turn.new.self turn.0 goes_on turned turn.2))
              w.has_worked-is,
        ),
      )
    ] in
    record {
      spent = spent_more (g.R.WorkingResponder.spent c.turn.new.meter) (g.R.WorkingResponder.spent c.loop.meter) (g.R.WorkingResponder.spent c.args.meter.now) (worked_by turned) (times c.loop.has_worked) (times c.match-turned.has_worked) spent c.loop.invariant.spent sums.1.1;
      had = went_on g.R.Responder g.R.WorkingResponder.owes g.N.Network.name c.args.c c.args.now c.args.desk.now c.args.self.now c.loop.counter c.loop.has_fed c.loop.has_worked _ _ _ c.loop.desk c.turn.new.desk c.loop.self c.turn.new.self c.loop.invariant.had turned c.match-turned.has_fed c.match-turned.has_worked sums.0 sums.1.0 sums.1.1 turn;
    }
