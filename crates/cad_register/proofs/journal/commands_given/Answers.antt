use Rattle.std.proofs.lemmas.Result.{err_from_is_err_and}
use Rattle.cad_register.proofs.OrderedLemmas.{put_in_order}
use Rattle.cad_register.proofs.JournalRowLemmas.{rows_given, rows_damaged}
use Rattle.cad_register.proofs.journal.commands_given.Goals as goal

pub returns : goal.returns
returns c shown read =
    let ordered = put_in_order shown c.args.found.items c.put_in_order.new.found.items read c.put_in_order.ensures.same c.put_in_order.ensures.sorted in
    let told = c.in_ok-gathering.ensures.gathers ordered.0 ordered.2 in
    rows_given c.args.behind c.args.newest shown ordered.0 c.in_ok-gathering.gathering c.commands_in.result ordered.1 told.0 told.1 told.2 c.commands_in.ensures.given

pub returns-in_err-gathering : goal.returns-in_err-gathering
returns-in_err-gathering c shown read =
    let ordered = put_in_order shown c.args.found.items c.put_in_order.new.found.items read c.put_in_order.ensures.same c.put_in_order.ensures.sorted in
    let told = err_from_is_err_and c.from_residual.result c.from_residual.ensures.1 in
    rw (told.1, told.2) (rows_damaged c.args.behind c.args.newest shown ordered.0 c.in_err-gathering.field-0.0 ordered.1 (c.in_err-gathering.ensures.cause ordered.0 ordered.2))
