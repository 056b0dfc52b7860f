-- What hosting does, by how it ended (own profile).
use Rattle.std.specs.Prelude.{◌≡◌, ◌⊎◌, ⊤, ℕ, true, false, List, [], ◌++◌, ◌∷◌, Option, None, Some, Result, Ok, Err, IsErr}
use Rattle.cad_stream.specs.declared.responder.Responder.{Ghosts}
use Rattle.cad_stream.specs.declared.journal_responder.JournalResponder.{Ghosts as JournalGhosts}
use Rattle.cad_desk.specs.declared.desk.Desk.{Desk}
use Rattle.cad_desk.specs.declared.fault.DeskFault.TheVariants.{Memory}
use Rattle.cad_network.specs.Deeds.{Deed, left, Adds}
use Rattle.cad_clients.specs.declared.served.Served.{Served}
use Rattle.cad_clients.specs.declared.served.Served.TheVariants as client
use Rattle.cad_clients.specs.declared.turned.Ending.{Ending}
use Rattle.cad_clients.specs.declared.turned.Ending.TheVariants.{WriteFailed}
use Rattle.cad_clients.specs.Channels.{Act, wrote, SendsFault}
use Rattle.cad_office_socket.specs.declared.turned.EntryTurned.{EntryTurned}
use Rattle.cad_office_socket.specs.declared.turned.EntryTurned.TheVariants as turn
use Rattle.cad_event_loop.specs.declared.stopped.Stopped.{Stopped}
use Rattle.cad_event_loop.specs.declared.stopped.Stopped.TheVariants.{Asked, StoreRefused, RoundsSpent}
use Rattle.cad_event_loop.specs.Turns.{nobody, AreServed}
use Rattle.cad_event_loop.specs.Works.{Place, IsEmpty, Work, wakes, opens, acts, waits, ends, office_comes, enters, office_leaves, aside, all_deeds, end_with, end_in, EndsBy, Goes}

-- why hosting ends after serving a client with this result, if it does
abbrev pub end_of_client : Served → Option Stopped
end_of_client client.Stays = None
end_of_client (client.Over ending) = end_with ending
end_of_client client.Unknown = None

-- and after a round, and after all of them, if the system did not refuse before
abbrev pub end_of_round : {E : Type 0} → Result (Option Stopped) E → Option Stopped
end_of_round (Ok end) = end
end_of_round (Err error) = None

abbrev pub end_of_rounds : {E : Type 0} → Result Stopped E → Option Stopped
end_of_rounds (Ok Asked) = Some Asked
end_of_rounds (Ok StoreRefused) = Some StoreRefused
end_of_rounds (Ok RoundsSpent) = None
end_of_rounds (Err error) = None

-- the reported result: it may be a failure of the system instead of a stop that the office asked for
abbrev pub IsLastOf : {E : Type 0} → Result Stopped E → Result Stopped E → Type 0
IsLastOf hosted result = (result ≡ hosted) ⊎ ((hosted ≡ Ok Asked) × IsErr result)

-- and it is such a failure if closing failed after the office asked
abbrev pub TellsFailure : {E : Type 0} → Result Stopped E → Result (Unit {0}) E → Result Stopped E → Type 0
TellsFailure (Ok Asked) ended result = IsErr ended → IsErr result
TellsFailure hosted ended result = ⊤

-- a head that says that there is no room is sent to socket s, and it is let go
abbrev pub IsTurnedAway : ℕ → List Deed → Type 0
IsTurnedAway s deeds = (told : List Deed) × SendsFault s Memory told × (deeds ≡ told ++ left s ∷ [])

-- this holds of each of these works
module _ (May : Work → Type 0) where
  abbrev pub Each : List Work → Type 0
  Each [] = ⊤
  Each (work ∷ later) = May work × Each later

-- while clients and the land office are served, a connection of the land office is let go only if it is over, or if its answer is overdue
abbrev pub IsServing : Work → Type 0
IsServing (office_leaves o k overdue) = overdue ≡ true
IsServing other = ⊤

-- when hosting ends, nobody comes and nothing is read or answered: what is under way is written, and all are let go
abbrev pub IsLastAct : Act → Type 0
IsLastAct (wrote bytes) = ⊤
IsLastAct other = ⊥

abbrev pub IsLastEnding : Option Ending → Type 0
IsLastEnding None = ⊤
IsLastEnding (Some WriteFailed) = ⊤
IsLastEnding (Some other) = ⊥

abbrev pub IsLastTurn : EntryTurned → Type 0
IsLastTurn turn.Wrote = ⊤
IsLastTurn turn.Waits = ⊤
IsLastTurn turn.Over = ⊤
IsLastTurn other = ⊥

abbrev pub IsClosing : Work → Type 0
IsClosing (wakes places) = ⊤
IsClosing (opens s c) = ⊥
IsClosing (acts s c act owing) = IsLastAct act
IsClosing (waits s c) = ⊤
IsClosing (ends s c cause deeds said) = IsLastEnding cause
IsClosing (office_comes o k) = ⊥
IsClosing (enters o k text turned deeds said) = IsLastTurn turned
IsClosing (office_leaves o k overdue) = overdue ≡ false
IsClosing (aside deeds said) = deeds ≡ []

module _ {R J W : Type 0} (g : Ghosts R) (jg : JournalGhosts R J) (owes : W → List ℕ) where
  -- such works are done and nothing else; why hosting ends by them, if it does
  abbrev pub Hosts : (Work → Type 0) → Option Stopped → Option (List Deed) → Desk R → Place J W → Option (List Deed) → Desk R → Place J W → Type 0
  Hosts May end from old here to new next =
      (works : List Work) × Adds from to (all_deeds works) × (end_in works ≡ end) × Goes g jg owes old here works new next × Each May works

  -- the same while clients and the land office are served, if this holds of the works: the work by which hosting ends is the last
  abbrev pub Serves : (List Work → Type 0) → Option Stopped → Option (List Deed) → Desk R → Place J W → Option (List Deed) → Desk R → Place J W → Type 0
  Serves Holds end from old here to new next =
      (works : List Work) × Adds from to (all_deeds works) × EndsBy end works × Goes g jg owes old here works new next × Each IsServing works × Holds works

  -- Beginning with nobody, these works are done up to the one by which hosting ends, and everybody is served by them.
  -- Then others follow at once, until nobody is here. Their deeds are all that is done at the network.
  pub record HostsBy (end : Option Stopped) (from : Option (List Deed)) (old : Desk R) (to : Option (List Deed)) (new : Desk R) : Type 0 where
    pub works : List Work
    pub closing : List Work
    pub first : Place J W
    pub last : Place J W
    pub deeds : Adds from to (all_deeds (works ++ closing))
    pub ends : EndsBy end works
    pub serving : Each IsServing works
    pub served : AreServed nobody works
    pub closed : Each IsClosing closing
    pub nobody_first : IsEmpty first
    pub nobody_last : IsEmpty last
    pub goes : Goes g jg owes old first (works ++ closing) new last

  -- It ended as the office asked to stop, or as the register's database refused, by what came first.
  -- Or the rounds were spent, or the system refused, and the database did not refuse.
  abbrev pub Hosted : {E : Type 0} → Option (List Deed) → Desk R → Result Stopped E → Option (List Deed) → Desk R → Type 0
  Hosted from old (Ok RoundsSpent) to new = HostsBy None from old to new
  Hosted from old (Ok stopped) to new = HostsBy (Some stopped) from old to new
  Hosted from old (Err error) to new = HostsBy None from old to new ⊎ HostsBy (Some Asked) from old to new
