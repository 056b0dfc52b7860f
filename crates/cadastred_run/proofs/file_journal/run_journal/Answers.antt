use Rattle.std.proofs.Common.{◌≡◌}
use Rattle.sqlite.specs.WalFiles.{image_at}
use Rattle.cadastred_run.specs.FileJournal.{IsJournalEnd, PrintsJournal}
use Rattle.cadastred_run.proofs.ReadingLemmas.{reads_in_file}
use Rattle.cadastred_run.proofs.file_journal.run_journal.Goals as goal

pub returns-in-Ok-clause-printed : goal.returns-in-Ok-clause-printed
returns-in-Ok-clause-printed g c =
    let before = g.W.Write.contents c.args.writer.now in
    let after = g.W.Write.contents c.print_found.new.writer in
    reads_in_file (IsJournalEnd before after) (PrintsJournal before after) (after ≡ before) (λ commands fault why nothing. (why, nothing)) (image_at g.S.Start) c.print_found.result c.in-Ok.connection c.in-Ok.ensures.found c.print_found.ensures
