use Rattle.std.proofs.Common.{◌∙◌, ◌++◌, ◌∷◌, [], sym, ap, string_bytes, take, append_assoc}
use Rattle.std.proofs.lemmas.List.{take_more}
use Rattle.cad_office.specs.JournalLines.{line_of, lines_of}
use Rattle.cad_office.proofs.JournalLemmas.{lines_push}
use Rattle.cad_office.proofs.journal_text.put_lines.Goals as goal

pub loop-command-preserved : goal.loop-command-preserved
loop-command-preserved c =
    let cs = c.args.commands.now in
    let at = c.loop-command.command-index in
    let item = c.command-item.result in
    let before = string_bytes c.args.text.now in
    let more = take_more cs at item c.loop-command-test.true in
    c.in_ok-put_line.ensures ∙ ap (λ l. l ++ line_of item) c.loop-command.invariant ∙ append_assoc before (lines_of (take at cs)) (line_of item)
    ∙ ap (λ l. before ++ l) (sym (ap lines_of (more ∙ ap (λ x. take at cs ++ x ∷ []) (sym c.command-item.is)) ∙ lines_push (take at cs) item))
