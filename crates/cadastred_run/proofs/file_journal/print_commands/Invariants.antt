use Rattle.std.proofs.Common.{take}
use Rattle.std.specs.Io.KnownBytes.{Appends}
use Rattle.cad_office.specs.JournalLines.{lines_of}
use Rattle.cadastred_run.proofs.file_journal.print_commands.Given as goal

abbrev pub invariant-loop-command : goal.invariant-loop-command
invariant-loop-command g l = Appends (g.W.Write.contents l.fn.writer) (g.W.Write.contents l.writer) (lines_of (take l.command-index l.commands))
