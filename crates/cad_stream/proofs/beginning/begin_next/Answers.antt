use Rattle.std.proofs.Common.{◌≡◌}
use Rattle.std.proofs.lemmas.Result.{err_from_is_err_and}
use Rattle.cad_stream.specs.Beginning.{told_begun, ends_begun}
use Rattle.cad_stream.proofs.FeedLemmas.{request_at-head, answered_head, failed_head}
use Rattle.cad_stream.proofs.beginning.begin_next.Goals as goal

pub returns-in_ok-answer-in-Complete : goal.returns-in_ok-answer-in-Complete
returns-in_ok-answer-in-Complete g c =
    let found = c.in-Complete.ensures.front in
    let same = request_at-head c.args.bytes.now _ _ c.in-Complete.spans found.0 c.front_bytes.ensures found.1 in
    answered_head g.R.Responder (told_begun g.R.WorkingResponder.owes) ends_begun c.args.bytes.now _ _ _ found.0 c.in-Complete.spans.len c.in_ok-answer-in-Complete.answer same found.1.fits found.1.at.len c.in_ok-answer-in-Complete.ensures

pub returns-in_err-answer-in-Complete : goal.returns-in_err-answer-in-Complete
returns-in_err-answer-in-Complete g c =
    let found = c.in-Complete.ensures.front in
    let same = request_at-head c.args.bytes.now _ _ c.in-Complete.spans found.0 c.front_bytes.ensures found.1 in
    let failed = err_from_is_err_and c.from_residual-in_err-answer-in-Complete.result c.from_residual-in_err-answer-in-Complete.ensures.1 in
    let fault : failed.0 ≡ c.in_err-answer-in-Complete.field-0.0 = failed.2 in
    rw (failed.1, fault) (failed_head g.R.Responder (told_begun g.R.WorkingResponder.owes) ends_begun g.met.R.Responder.remains_here c.args.bytes.now _ _ _ found.0 _ _ same found.1.fits c.in_err-answer-in-Complete.ensures)
