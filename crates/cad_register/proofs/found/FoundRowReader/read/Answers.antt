use Rattle.std.proofs.Common.{refl}
use Rattle.cad_register.proofs.found.FoundRowReader.read.Goals as goal

pub returns-in-Err-Damaged : goal.returns-in-Err-Damaged
returns-in-Err-Damaged c =
    let none = rw c.in-Err-Damaged.field-0-is at c.in-Err-Damaged.ensures in
    rw c.damaged.ensures (refl, λ e shows. none (record { version = e.version; entered = e.entered; closed = e.closed }) shows)
