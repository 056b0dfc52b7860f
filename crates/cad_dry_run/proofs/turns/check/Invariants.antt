use Rattle.std.proofs.Common.{◌≡◌, ◌+◌, [], Ok}
use Rattle.cad_versions.specs.LedgerCalls.{Applies}
use Rattle.cad_office.specs.Keeping.{IsOfReads}
use Rattle.cad_dry_run.specs.Checking.{IsPiece, ReportsLines}
use Rattle.cad_io.specs.Known.{ReadsAndWrites}
use Rattle.cad_dry_run.proofs.turns.check.Given as goal

abbrev pub invariant-loop-turn : goal.invariant-loop-turn
invariant-loop-turn g l = record {
  counted : g.R.CountedRead.reads l.reader ≡ g.R.CountedRead.reads l.fn.reader + l.turn;
  kept : ReadsAndWrites (g.R.Read.remaining l.fn.reader) (g.R.Read.remaining l.reader) (g.W.Write.contents l.fn.writer) (g.W.Write.contents l.writer) (λ read written. IsPiece (ReportsLines (Applies g.L.Ledger) l.fn.ledger l.ledger) [] (Ok l.accepted) l.line read written × IsOfReads l.turn read);
}
