use Rattle.std.proofs.Common.{add-one, sym}
use Rattle.cad_office.proofs.WriteLemmas.{joined_next}
use Rattle.cad_office.proofs.write.put_together.Goals as goal

pub loop-piece-preserved : goal.loop-piece-preserved
loop-piece-preserved c =
    rw (add-one, c.in-Ok.ensures.ok, c.loop-piece.invariant) (sym (joined_next (λ p. p.now) c.args.pieces.now c.loop-piece.piece-index _ c.loop-piece-test.true))
