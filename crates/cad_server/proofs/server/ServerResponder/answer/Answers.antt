use Rattle.std.proofs.Common.{refl}
use Rattle.cad_head.specs.Request.{request_at}
use Rattle.cad_server.proofs.CallLemmas.{finished}
use Rattle.cad_server.proofs.server.ServerResponder.answer.Goals as goal

pub returns : goal.returns
returns g c =
    finished g.L.Ledger c.args.self.now c.begin_answer.new.self (request_at c.args.bytes.now c.args.headers.now c.args.spans.now) c.in_ok-begun.begun _ c.in_ok-begun.ensures
    c.in_ok-bytes.ensures refl
