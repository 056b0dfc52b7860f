use Rattle.std.proofs.Common.{inl, refl}
use Rattle.cad_register.specs.Naming.{HasNoClass}
use Rattle.cad_register.proofs.StandingLemmas.{version_at, class_is, fault_in, no_class_breaks, none_at}
use Rattle.cad_register.proofs.standing.first_class.Goals as goal

pub returns-in-Err-clause-damaged : goal.returns-in-Err-clause-damaged
returns-in-Err-clause-damaged c = fault_in c.args.object c.args.rows.now 0 c.in-Some.row.now c.in-Err.fault c.row_fault.result c.row_fault.ensures c.in-Some.ensures.value
    (λ e. let none = c.in-Err.ensures.damaged e in (no_class_breaks c.in-Some.row.now none, inl (refl, none)))

pub returns-in-Ok-clause-known : goal.returns-in-Ok-clause-known
returns-in-Ok-clause-known c vs is =
    let at = version_at c.args.rows.now vs 0 c.in-Some.row.now is c.in-Some.ensures.value in
    class_is vs c.in-Some.row.now c.in-Ok.class at (c.in-Ok.ensures.known at.version at.is)

pub returns-in-Ok-clause-told : goal.returns-in-Ok-clause-told
returns-in-Ok-clause-told c = none_at HasNoClass c.args.rows.now 0 c.in-Some.row.now c.in-Some.ensures.value c.in-Ok.ensures.told
