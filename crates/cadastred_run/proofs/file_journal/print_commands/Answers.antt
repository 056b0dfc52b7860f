use Rattle.std.proofs.Common.{◌∙◌, ◌++◌, ◌∷◌, [], sym, ap, take, subst}
use Rattle.std.specs.Io.KnownBytes.{Appends}
use Rattle.std.proofs.KnownBytes.{Appends-trans}
use Rattle.std.proofs.lemmas.List.{take_more}
use Rattle.std.proofs.lemmas.Result.{err_from_is_err_and}
use Rattle.cadastred_run.proofs.JournalLemmas.{lines_next, front_of_lines}
use Rattle.cadastred_run.proofs.file_journal.print_commands.Goals as goal

pub returns-in_err-print_command : goal.returns-in_err-print_command
returns-in_err-print_command g c =
    let cs = c.args.commands.now in
    let at = c.loop-command.command-index in
    let item = c.command-item.result in
    let more = take_more cs at item c.loop-command-test.true ∙ ap (λ x. take at cs ++ x ∷ []) (sym c.command-item.is) in
    let p = err_from_is_err_and c.from_residual.result c.from_residual.ensures.1 in
    rw p.1 (front_of_lines _ _ _ cs at item more c.loop-command.invariant c.in_err-print_command.ensures)

pub loop-command-preserved : goal.loop-command-preserved
loop-command-preserved g c =
    let cs = c.args.commands.now in
    let at = c.loop-command.command-index in
    let item = c.command-item.result in
    let more = take_more cs at item c.loop-command-test.true ∙ ap (λ x. take at cs ++ x ∷ []) (sym c.command-item.is) in
    subst (Appends _ _) (sym (lines_next cs at item more)) (Appends-trans _ _ _ _ _ c.loop-command.invariant c.in_ok-print_command.ensures)
