use Rattle.std.proofs.Common.{take, map}
use Rattle.std.specs.Io.KnownBytes.{Appends}
use Rattle.cad_office.specs.Answers.{joined}
use Rattle.cad_office.proofs.write.write_each.Given as goal

abbrev pub invariant-loop-piece : goal.invariant-loop-piece
invariant-loop-piece g l = Appends (g.W.Write.contents l.fn.writer) (g.W.Write.contents l.writer) (joined (map (λ p. p.now) (take l.piece-index l.pieces)))
