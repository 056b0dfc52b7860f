use Rattle.std.proofs.Common.{◌≡◌, length}
use Rattle.cad_event_loop.proofs.SeatLemmas.{AllFree}
use Rattle.cad_event_loop.proofs.offices.Offices.new.Given as goal

abbrev pub invariant-loop-at : goal.invariant-loop-at
invariant-loop-at g l = (length l.seats.items ≡ l.at) × AllFree l.seats.items
