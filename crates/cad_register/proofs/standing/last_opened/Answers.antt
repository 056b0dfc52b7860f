use Rattle.std.proofs.Common.{length, ◌-◌, inr, refl}
use Rattle.cad_register.specs.Naming.{HasNoDay}
use Rattle.cad_register.proofs.StandingLemmas.{last_at, opened_is, fault_in, no_day_breaks, none_at}
use Rattle.cad_register.proofs.standing.last_opened.Goals as goal

pub returns-in-Err-clause-damaged : goal.returns-in-Err-clause-damaged
returns-in-Err-clause-damaged c first = fault_in c.args.object c.args.rows.now (length c.args.rows.now - 1) c.in-Some.row.now c.in-Err.fault c.row_fault.result c.row_fault.ensures c.in-Some.ensures.value
    (λ e. let none = c.in-Err.ensures.damaged e in (no_day_breaks c.in-Some.row.now none, inr (first, refl, none)))

pub returns-in-Ok-clause-known : goal.returns-in-Ok-clause-known
returns-in-Ok-clause-known c vs is =
    let at = last_at c.args.rows.now vs c.in-Some.row.now is c.in-Some.ensures.value in
    opened_is vs c.in-Some.row.now c.in-Ok.day at (c.in-Ok.ensures.known at.version at.is)

pub returns-in-Ok-clause-told : goal.returns-in-Ok-clause-told
returns-in-Ok-clause-told c = none_at HasNoDay c.args.rows.now (length c.args.rows.now - 1) c.in-Some.row.now c.in-Some.ensures.value c.in-Ok.ensures.told
