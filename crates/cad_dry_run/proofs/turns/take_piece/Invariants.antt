use Rattle.std.proofs.Common.{ℕ, List, take, Ok}
use Rattle.cad_versions.specs.LedgerCalls.{Applies}
use Rattle.cad_dry_run.specs.Checking.{IsPiece, ReportsLines}
use Rattle.cad_io.specs.Known.{Writes}
use Rattle.cad_office.specs.Lines.{line_begun, BuffersLine}
use Rattle.cad_dry_run.proofs.turns.take_piece.Given as goal

abbrev pub invariant-loop-byte : goal.invariant-loop-byte
invariant-loop-byte g l =
    (read : List ℕ) → BuffersLine (line_begun read) l.fn.line → Writes (g.W.Write.contents l.fn.writer) (g.W.Write.contents l.writer) (IsPiece (ReportsLines (Applies g.L.Ledger) l.fn.ledger l.ledger) read (Ok l.accepted) l.line (take l.byte-index l.piece))
