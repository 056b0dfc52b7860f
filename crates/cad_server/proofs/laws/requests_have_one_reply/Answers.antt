use Rattle.cad_server.proofs.ReplyLemmas.{one_reply}
use Rattle.cad_server.proofs.laws.requests_have_one_reply.Goals as goal

pub returns : goal.returns
returns c =
    one_reply c.pairs_ask_one_thing.ensures c.one_first_fault.ensures c.fault_or_asks.ensures c.the_same_is_answered.ensures
