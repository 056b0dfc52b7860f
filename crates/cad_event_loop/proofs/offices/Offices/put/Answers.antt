use Rattle.cad_event_loop.proofs.SeatLemmas.{seat_set}
use Rattle.cad_event_loop.proofs.offices.Offices.put.Goals as goal

pub returns : goal.returns
returns g c = λ j. seat_set c.args.self.now.seats.items c.args.k j c.args.office (rw c.args.self.now.room c.requires)
