use Rattle.std.proofs.Common.{refl}
use Rattle.cad_head.proofs.laws.old_versions_close.Goals as goal

pub returns : goal.returns
returns c r old = rw old refl
