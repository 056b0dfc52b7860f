use Rattle.std.proofs.Common.{◌≡◌, ap, arith}
use Rattle.std.proofs.lemmas.Result.{err_from_is_err_and}
use Rattle.cad_stream.specs.Begins.{owed}
use Rattle.cad_stream.proofs.FeedLemmas.{fails_here, waits_here, closes_here, refused_here, passes_here, advances, told_pushed, replied_none}
use Rattle.cad_stream.specs.Beginning.{told_all, told_begun, ends_begun}
use Rattle.cad_stream.proofs.beginning.begin_requests.Goals as goal

pub returns-in_err-begin_next : goal.returns-in_err-begin_next
returns-in_err-begin_next g c =
    let failed = err_from_is_err_and c.from_residual.result c.from_residual.ensures.1 in
    let fault : failed.0 ≡ c.in_err-begin_next.field-0.0 = failed.2 in
    let told = rw c.rest_from.ensures at c.in_err-begin_next.ensures in
    rw (failed.1, fault) (fails_here g.R.Responder (told_begun g.R.WorkingResponder.owes) ends_begun (owed g.R.WorkingResponder.owes) g.met.R.Responder.remains_then g.met.R.Responder.fails_before c.args.bytes.now _ _ _ c.loop-parts.used _ _ c.loop-parts.invariant.replied told)

pub returns-in-Waiting : goal.returns-in-Waiting
returns-in-Waiting g c =
    let told = rw (c.in-Waiting.is, c.rest_from.ensures) at c.in_ok-begin_next.ensures in
    waits_here g.R.Responder (told_begun g.R.WorkingResponder.owes) ends_begun (owed g.R.WorkingResponder.owes) g.met.R.Responder.remains_then c.args.bytes.now _ _ _ c.loop-parts.used c.loop-parts.parts c.loop-parts.invariant.within c.loop-parts.invariant.replied told

pub returns-in-Hopeless : goal.returns-in-Hopeless
returns-in-Hopeless g c =
    let told = rw (c.in-Hopeless.is, c.rest_from.ensures) at c.in_ok-begin_next.ensures in
    let all = told_pushed g.R.WorkingResponder.owes _ _ _ c.in_ok-push-in-Hopeless.ensures.items in
    refused_here g.R.Responder (told_begun g.R.WorkingResponder.owes) ends_begun (owed g.R.WorkingResponder.owes) g.met.R.Responder.remains_then c.args.bytes.now _ _ _ c.loop-parts.used (told_all g.R.WorkingResponder.owes c.loop-parts.parts.items) c.in-Hopeless.reply _ c.loop-parts.invariant.replied told all

pub returns-then-ends : goal.returns-then-ends
returns-then-ends g c =
    let told = rw (c.in-Answered.is, c.rest_from.ensures) at c.in_ok-begin_next.ensures in
    let all = told_pushed g.R.WorkingResponder.owes _ _ _ c.in_ok-push-in-Answered.ensures.items in
    closes_here g.R.Responder (told_begun g.R.WorkingResponder.owes) ends_begun (owed g.R.WorkingResponder.owes) g.met.R.Responder.remains_then c.args.bytes.now _ _ _ c.loop-parts.used c.in-Answered.len (told_all g.R.WorkingResponder.owes c.loop-parts.parts.items) c.in-Answered.answer _ c.loop-parts.invariant.replied told c.if-ends.true all

pub loop-parts-smaller : goal.loop-parts-smaller
loop-parts-smaller g c =
    let told = rw (c.in-Answered.is, c.rest_from.ensures) at c.in_ok-begin_next.ensures in
    let past = advances g.R.Responder (told_begun g.R.WorkingResponder.owes) ends_begun (owed g.R.WorkingResponder.owes) c.args.bytes.now _ _ c.loop-parts.used c.in-Answered.len c.in-Answered.answer c.loop-parts.invariant.within told in
    omega (arith, past.0, past.1)

pub loop-parts-preserved : goal.loop-parts-preserved
loop-parts-preserved g c =
    let told = rw (c.in-Answered.is, c.rest_from.ensures) at c.in_ok-begin_next.ensures in
    let past = advances g.R.Responder (told_begun g.R.WorkingResponder.owes) ends_begun (owed g.R.WorkingResponder.owes) c.args.bytes.now _ _ c.loop-parts.used c.in-Answered.len c.in-Answered.answer c.loop-parts.invariant.within told in
    let all = told_pushed g.R.WorkingResponder.owes _ _ _ c.in_ok-push-in-Answered.ensures.items in
    record {
      within = past.1;
      replied = passes_here g.R.Responder (told_begun g.R.WorkingResponder.owes) ends_begun (owed g.R.WorkingResponder.owes) g.met.R.Responder.remains_then c.args.bytes.now _ _ _ c.loop-parts.used c.in-Answered.len (told_all g.R.WorkingResponder.owes c.loop-parts.parts.items) c.in-Answered.answer _ c.loop-parts.invariant.replied told c.if-ends.false all;
    }

pub loop-parts-init : goal.loop-parts-init
loop-parts-init g c = record {
  within = omega arith;
  replied = replied_none g.R.Responder g.met.R.Responder.remains_here c.args.bytes.now c.args.responder.now _ (ap (told_all g.R.WorkingResponder.owes) c.new-parts.ensures.items);
}
