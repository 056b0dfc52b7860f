-- What happens to a connection and to the desk, from a turn on (own profile).
use Rattle.std.specs.Prelude.{◌≡◌, ◌≢◌, ℕ, List, [], ◌∷◌, ◌++◌, Result, Ok, IfErr, ⊤}
use Rattle.cad_stream.specs.declared.responder.Responder.{Ghosts}
use Rattle.cad_desk.specs.declared.desk.Desk.{Desk}
use Rattle.cad_desk.specs.declared.event.Event.{Event}
use Rattle.cad_desk.specs.declared.event.Event.TheVariants.{Open, Bytes, Close, Office}
use Rattle.cad_desk.specs.declared.event.Reply.{Reply}
use Rattle.cad_desk.specs.declared.event.Reply.TheVariants.{Sent}
use Rattle.cad_desk.specs.declared.fault.DeskFault.{DeskFault}
use Rattle.cad_desk.specs.Desks.{IsShutAtDesk, Steps}
use Rattle.cad_desk.specs.Runs.{IsOnlyChecked}
use Rattle.cad_clients.specs.declared.channel.Channel.{Channel}
use Rattle.cad_clients.specs.Channels.{Act, wrote, took, fed, worked, read_in, written_in, Does}

-- a turn of this connection; an event of another connection or of the land office, with its answer; or the land office asked what would be
-- answered to a command
pub data Happening : Type 0 where
  own : Act → Happening
  other : Event → Result Reply DeskFault → Happening
  checked : Happening

-- the event is not of connection c
abbrev pub IsOther : ℕ → Event → Type 0
IsOther c (Open d) = d ≢ c
IsOther c (Bytes d piece) = d ≢ c
IsOther c (Close d) = d ≢ c
IsOther c (Office command) = ⊤

-- the bytes that were read from the connection, and those that were written to it
abbrev pub read_of : List Happening → List ℕ
read_of [] = []
read_of (own act ∷ later) = read_in act ++ read_of later
read_of (other event answer ∷ later) = read_of later
read_of (checked ∷ later) = read_of later

abbrev pub written_of : List Happening → List ℕ
written_of [] = []
written_of (own act ∷ later) = written_in act ++ written_of later
written_of (other event answer ∷ later) = written_of later
written_of (checked ∷ later) = written_of later

-- the events that the desk took, and its answers
abbrev pub events_in : ℕ → Act → List Event → List Event
events_in c (wrote bytes) later = later
events_in c (took bytes) later = later
events_in c (fed piece out ends) later = Bytes c piece ∷ later
events_in c worked later = later

abbrev pub answers_in : Act → List (Result Reply DeskFault) → List (Result Reply DeskFault)
answers_in (wrote bytes) later = later
answers_in (took bytes) later = later
answers_in (fed piece out ends) later = Ok (Sent out ends) ∷ later
answers_in worked later = later

abbrev pub events_of : ℕ → List Happening → List Event
events_of c [] = []
events_of c (own act ∷ later) = events_in c act (events_of c later)
events_of c (other event answer ∷ later) = event ∷ events_of c later
events_of c (checked ∷ later) = events_of c later

abbrev pub answers_of : List Happening → List (Result Reply DeskFault)
answers_of [] = []
answers_of (own act ∷ later) = answers_in act (answers_of later)
answers_of (other event answer ∷ later) = answer ∷ answers_of later
answers_of (checked ∷ later) = answers_of later

module _ {R W : Type 0} (g : Ghosts R) (owes : W → List ℕ) (c : ℕ) where
  -- all this happens, one after the other, and none of it closed the ledger
  abbrev pub Lives : Desk R → Channel W → List Happening → Desk R → Channel W → Type 0
  Lives old channel [] new last = (new ≡ old) × (last ≡ channel)
  Lives old channel (own act ∷ later) new last = (mid : Desk R) × (next : Channel W) × Does g owes c old channel act mid next × Lives mid next later new last
  Lives old channel (other event answer ∷ later) new last =
      (mid : Desk R) × IsOther c event × Steps g old event answer mid × IfErr answer (λ fault. ¬ IsShutAtDesk g old fault mid)
      × Lives mid channel later new last
  Lives old channel (checked ∷ later) new last = (mid : Desk R) × IsOnlyChecked g old mid × Lives mid channel later new last
