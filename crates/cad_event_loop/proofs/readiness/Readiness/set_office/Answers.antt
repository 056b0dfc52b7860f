use Rattle.cad_event_loop.proofs.SeatLemmas.{item_set}
use Rattle.cad_event_loop.proofs.readiness.Readiness.set_office.Goals as goal

pub returns : goal.returns
returns c = λ j. item_set c.args.self.now.offices c.args.k j c.args.is_ready (rw c.args.self.now.room c.requires)
