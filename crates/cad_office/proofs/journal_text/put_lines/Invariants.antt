use Rattle.std.proofs.Common.{◌≡◌, ◌++◌, take, string_bytes}
use Rattle.cad_office.specs.JournalLines.{lines_of}
use Rattle.cad_office.proofs.journal_text.put_lines.Given as goal

abbrev pub invariant-loop-command : goal.invariant-loop-command
invariant-loop-command l = string_bytes l.text ≡ string_bytes l.fn.text ++ lines_of (take l.command-index l.commands)
