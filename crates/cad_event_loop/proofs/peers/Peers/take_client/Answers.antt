use Rattle.std.proofs.Common.{refl, arith}
use Rattle.cad_event_loop.specs.inner.Standing.{standings, IsAtDoors}
use Rattle.cad_event_loop.specs.Works.{place_of}
use Rattle.cad_event_loop.proofs.GoesLemmas.{serves-same}
use Rattle.cad_event_loop.proofs.peers.Peers.take_client.Goals as goal

pub returns-in-Ok-clause-hosts : goal.returns-in-Ok-clause-hosts
returns-in-Ok-clause-hosts g c = λ office. c.admit.ensures office _ c.in-Ok.ensures

pub returns-in-Err-clause-hosts : goal.returns-in-Err-clause-hosts
returns-in-Err-clause-hosts g c = λ office. serves-same g.R.Responder g.R.JournalResponder g.R.WorkingResponder.owes (IsAtDoors 1 (standings c.args.self.now office) (standings c.args.self.now office)) _ _ c.args.desk.now (place_of g.N.Network.name c.args.self.now.clients office) (place_of g.N.Network.name c.args.self.now.clients office) c.in-Err.ensures (λ d. refl) (λ k. refl) (record { paced = record { few = omega arith; stand = λ d. refl; offices = λ k. refl; line = refl }; quiet = λ d. refl })
