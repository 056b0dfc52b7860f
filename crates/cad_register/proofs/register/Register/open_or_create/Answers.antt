use Rattle.std.proofs.Common.{Err, subst}
use Rattle.cad_register.proofs.OpeningLemmas.{created_here, opened_later}
use Rattle.cad_register.specs.Opening.{Created}
use Rattle.cad_register.proofs.register.Register.open_or_create.Goals as goal

pub returns-in-Ok : goal.returns-in-Ok
returns-in-Ok g c = created_here g.S.Store c.args.connection c.in-Ok.register c.in-Ok.ensures

pub returns-in-NotARegister : goal.returns-in-NotARegister
returns-in-NotARegister g c =
    let created : Created g.S.Store c.args.connection (Err (c.in-Err.fault, c.in-Err.connection)) = c.in-Err.ensures in
    opened_later g.S.Store c.args.connection c.in-Err.connection (subst (λ cause. Created g.S.Store c.args.connection (Err (cause, c.in-Err.connection))) c.in-NotARegister.is created) c.open.result c.open.ensures
