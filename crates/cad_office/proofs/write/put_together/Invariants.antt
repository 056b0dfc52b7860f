use Rattle.std.proofs.Common.{◌≡◌, take, map}
use Rattle.cad_office.specs.Answers.{joined}
use Rattle.cad_office.proofs.write.put_together.Given as goal

abbrev pub invariant-loop-piece : goal.invariant-loop-piece
invariant-loop-piece l = l.line.items ≡ joined (map (λ p. p.now) (take l.piece-index l.pieces))
