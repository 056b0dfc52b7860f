use Rattle.cad_positions.proofs.Advances.{joins}
use Rattle.cad_positions.proofs.settling.+settle.Goals as goal

pub settle_joined-returns-clause-settles : goal.settle_joined-returns-clause-settles
settle_joined-returns-clause-settles t c =
    joins _ _ _ _ c.args.from _ _ c.least.result
    (rw c.deref_mut.ensures.value at c.advance-joined.ensures.settles)
    (rw c.deref_mut-2.ensures.value at c.advance-joined-2.ensures.settles)
    (rw (c.found.ensures, c.found-2.ensures) at c.least.ensures)
