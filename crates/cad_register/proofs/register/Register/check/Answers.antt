use Rattle.std.proofs.Common.{◌≡◌, inr, refl, subst}
use Rattle.cad_versions.specs.declared.fault.RegisterFault.TheVariants as fault
use Rattle.cad_register.specs.Refusing.{IsForCommand, RefusesQuestion}
use Rattle.cad_register.proofs.StandLemmas.{refused_as}
use Rattle.cad_register.proofs.register.Register.check.Goals as goal

pub returns-in-Err-clause-refused : goal.returns-in-Err-clause-refused
returns-in-Err-clause-refused g c clean cs register = refused_as cs c.args.command.now c.in-Err.fault ((c.in-Err.ensures.inquires.told clean cs register.stands).0 register.counted)

pub returns-in-Err-clause-store : goal.returns-in-Err-clause-store
returns-in-Err-clause-store g c clean e cs register =
    let is : c.in-Err.fault ≡ fault.Store = cc in
    subst (λ n. RefusesQuestion g.S.Store c.args.self.now.connection c.decide-decided.new.connection (IsForCommand c.args.command.now n)) register.counted (c.in-Err.ensures.inquires.asked clean cs register.stands is)

pub returns-in-Err-clause-still : goal.returns-in-Err-clause-still
returns-in-Err-clause-still g c clean answered = inr (c.in-Err.ensures.still clean answered, refl)
