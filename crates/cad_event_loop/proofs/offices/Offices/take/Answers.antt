use Rattle.std.proofs.Common.{None}
use Rattle.cad_event_loop.proofs.SeatLemmas.{seat_set}
use Rattle.cad_event_loop.proofs.offices.Offices.take.Goals as goal

pub returns-clause-rest : goal.returns-clause-rest
returns-clause-rest g c = λ j. rw c.take.ensures.after (seat_set c.args.self.now.seats.items c.args.k j None (rw c.args.self.now.room c.requires))
