use Rattle.std.proofs.Common.{Err, ap, subst, ◌∙◌}
use Rattle.std.proofs.lemmas.Result.{err_from_is_err_and}
use Rattle.cad_head.specs.Request.{request_at}
use Rattle.cad_request.specs.ParsedRequests.{IsParsedRequest}
use Rattle.cad_server.proofs.CallLemmas.{begun_err, begun_ok}
use Rattle.cad_server.proofs.server.Server.begin_answer.Goals as goal

pub returns-in_err-told : goal.returns-in_err-told
returns-in_err-told g c =
    let p = err_from_is_err_and c.from_residual-in_err-told.result c.from_residual-in_err-told.ensures.1 in
    begun_err g.L.Ledger c.args.self.now _ (request_at c.args.bytes.now c.args.headers.now c.args.spans.now) c.in_ok-wanted.wanted c.in_err-told.field-0.0 c.from_residual-in_err-told.result (p.1 ∙ ap Err p.2)
    (subst (λ a. IsParsedRequest a c.in_ok-wanted.wanted) c.decide-decision.ensures.requested c.in_ok-wanted.ensures) c.in_err-told.ensures

pub returns : goal.returns
returns g c =
    begun_ok g.L.Ledger c.args.self.now _ (request_at c.args.bytes.now c.args.headers.now c.args.spans.now) c.in_ok-wanted.wanted c.in_ok-told.told _
    (subst (λ a. IsParsedRequest a c.in_ok-wanted.wanted) c.decide-decision.ensures.requested c.in_ok-wanted.ensures) c.in_ok-told.ensures
    c.in_ok-part.ensures c.decide-decision.ensures.ends
