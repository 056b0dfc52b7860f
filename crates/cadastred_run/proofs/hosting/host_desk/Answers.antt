use Rattle.std.proofs.Common.{inl, refl}
use Rattle.cad_network.specs.lemmas.DeedLemmas.{Adds-nil}
use Rattle.cadastred_run.specs.Hosting.{TellsAddress}
use Rattle.cadastred_run.proofs.HostingLemmas.{hosted_ends}
use Rattle.cadastred_run.proofs.hosting.host_desk.Goals as goal

pub returns-in-Ok : goal.returns-in-Ok
returns-in-Ok g c =
    let told : TellsAddress c.args.asked (g.W.Write.contents c.args.writer.now) (g.W.Write.contents c.tell_address.new.writer) (g.N.Network.history c.args.net.now) (g.N.Network.history c.host.new.net) = (c.in-Some.bound, c.in-Some.ensures.bound.1, c.in-Ok.ensures.told) in
    rw c.of_hosting.ensures (hosted_ends g.R.Responder g.R.JournalResponder g.R.WorkingResponder.owes c.args.asked _ _ _ _ _ c.host.result c.args.desk.now c.host.new.desk told c.host.ensures.hosted)

pub returns-in-Err : goal.returns-in-Err
returns-in-Err g c = inl (refl, Adds-nil _)

pub returns-in_default : goal.returns-in_default
returns-in_default g c = (refl, (refl, Adds-nil _))
