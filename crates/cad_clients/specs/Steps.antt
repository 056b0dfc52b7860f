-- What is done for the open connections at a desk (own profile).
use Rattle.std.specs.Prelude.{◌≡◌, ◌⊎◌, ◌+◌, ◌≤◌, ◌<◌, ℕ, IsSomeAnd, length, Bool, true, false, ◌||◌, IsTrue, if◌then◌else◌, List, [], ◌∷◌, ◌++◌, Option, None, Some, Result, Ok, Err}
use Rattle.cad_stream.specs.declared.responder.Responder.{Ghosts}
use Rattle.cad_desk.specs.declared.desk.Desk.{Desk}
use Rattle.cad_desk.specs.declared.event.Event.TheVariants.{Open}
use Rattle.cad_desk.specs.declared.event.Reply.TheVariants.{Opened}
use Rattle.cad_desk.specs.declared.fault.DeskFault.{DeskFault}
use Rattle.cad_desk.specs.Desks as desks
use Rattle.cad_clients.specs.declared.budget.Budget.{Budget}
use Rattle.cad_clients.specs.declared.budget.Budget.TheVariants.{First, Later}
use Rattle.cad_clients.specs.declared.turned.Ending.TheVariants.{Unmade}
use Rattle.cad_clients.specs.declared.turned.Turned.{Turned}
use Rattle.cad_clients.specs.declared.turned.Turned.TheVariants.{Fed, Worked, Waits, Over}
use Rattle.cad_clients.specs.Budgets.{worked_by, to_do}
use Rattle.cad_clients.specs.Channels as channels
use Rattle.cad_clients.specs.Laws.{IsNew}
use Rattle.cad_clients.specs.declared.client.Client.{Client}
use Rattle.cad_clients.specs.declared.clients.Clients.{Clients}
use Rattle.cad_clients.specs.declared.served.Served.{Served}
use Rattle.cad_clients.specs.declared.served.Served.TheVariants.{Stays, Over as Served-Over, Unknown}
use Rattle.cad_clients.specs.Notes.{notes_of, first_notes, noted, IsOwing, IsWorking}
use Rattle.cad_clients.specs.Slots.{client_at, Changes, Keeps}
use Rattle.cad_network.specs.Deeds.{Deed, left}

-- the connection is over
abbrev pub is_over : Turned → Bool
is_over (Over ending) = true
is_over other = false

-- the connection that is left after a turn
abbrev pub left_after : {S W : Type 0} → Turned → Client S W → Option (Client S W)
left_after turned client = if is_over turned then None else Some client

-- the deed by which the socket of a connection that is over is let go
abbrev pub last_deed : Turned → ℕ → List Deed
last_deed (Over ending) s = left s ∷ []
last_deed other s = []

-- the connection was over at one of these turns
abbrev pub any_over : List Turned → Bool
any_over [] = false
any_over (turned ∷ turns) = is_over turned || any_over turns

-- how many pieces the desk took at a turn, and in these turns
abbrev pub fed_by : Turned → ℕ
fed_by Fed = 1
fed_by other = 0

abbrev pub fed_in : List Turned → ℕ
fed_in [] = 0
fed_in (turned ∷ turns) = fed_by turned + fed_in turns

-- how many pieces of work there were in these turns
abbrev pub worked_in : List Turned → ℕ
worked_in [] = 0
worked_in (turned ∷ turns) = worked_by turned + worked_in turns

-- the same of one turn, if there is one
abbrev pub worked_at : Option Turned → ℕ
worked_at None = 0
worked_at (Some turned) = worked_by turned

-- how much is left to do for the replies that are owed to a connection, at most, where this much is left of the work for each
abbrev pub left_to_do : {S W : Type 0} → (W → ℕ) → Option (Client S W) → ℕ
left_to_do remaining None = 0
left_to_do remaining (Some client) = to_do remaining client.channel.parts.items

-- after these turns, the last of them first, connection c is done for now: at the last one its socket gave or took nothing; or all replies to
-- a piece went out; or a reply was worked on, and the next one is not made; or there were four turns
abbrev pub IsEnough : {S W : Type 0} → ℕ → List Turned → Clients S W → Type 0
IsEnough c turns next =
    ((before : List Turned) × (turns ≡ Waits ∷ before)) ⊎ (((fed_in turns ≡ 1) × ¬ IsSomeAnd (client_at next c) IsOwing)
    ⊎ (((worked_in turns ≡ 1) × IsSomeAnd (client_at next c) IsWorking) ⊎ (length turns ≡ 4)))

-- in turns in which the desk took a piece or not, and a reply was worked on or not, connection c has enough: all replies went out, or the next
-- one is not made
abbrev pub HasEnough : {S W : Type 0} → ℕ → Bool → Bool → Clients S W → Type 0
HasEnough c has_fed has_worked clients =
    (IsTrue has_fed × ¬ IsSomeAnd (client_at clients c) IsOwing) ⊎ (IsTrue has_worked × IsSomeAnd (client_at clients c) IsWorking)

-- the most turns of a connection before the others have their turns
abbrev pub most_turns : ℕ
most_turns = 4

-- what is done for connection c; sockets of this type have these names
module _ {R S W : Type 0} (g : Ghosts R) (name : S → ℕ) (c now : ℕ) where
  -- the desk opens connection c, which then has this socket and a new channel; or the desk refuses it, this is reported, and the socket is
  -- let go
  abbrev pub Opens : S → Desk R → Clients S W → Result (Unit {0}) DeskFault → Desk R → Clients S W → List Deed → Type 0
  Opens socket old clients (Ok done) new next deeds =
      desks.Steps g old (Open c) (Ok Opened) new × (deeds ≡ [])
      × ((client : Client S W) × (client.socket ≡ socket) × IsNew client.channel × (channels.has_ended client.channel ≡ false) × (notes_of client ≡ first_notes now)
      × Changes clients next c (Some client))
  Opens socket old clients (Err fault) new next deeds =
      desks.Steps g old (Open c) (Err fault) new × Keeps clients next
      × ((told : List Deed) × channels.SendsFault (name socket) fault told × (deeds ≡ told ++ left (name socket) ∷ []))

-- the same, with this reply owed by the work that is left for one
module _ {R S W : Type 0} (g : Ghosts R) (owes : W → List ℕ) (name : S → ℕ) (c now : ℕ) where
  -- connection c has a turn, by its own channel, its own socket and its own number at the desk, and the result is kept; all others are as
  -- they were
  abbrev pub HasTurn : Budget → Desk R → Clients S W → Option Turned → Desk R → Clients S W → List Deed → Type 0
  HasTurn budget old clients None new next deeds =
      (client_at clients c ≡ None) × (deeds ≡ []) × (new ≡ old) × Keeps clients next
  HasTurn budget old clients (Some turned) new next deeds =
      (client : Client S W) × (after : Client S W) × (own : List Deed) × (client_at clients c ≡ Some client) × (after.socket ≡ client.socket)
      × channels.IsTurn g owes c (name client.socket) old client.channel turned new after.channel own
      × (deeds ≡ own ++ last_deed turned (name client.socket))
      × (notes_of after ≡ noted now budget turned after.channel (notes_of client)) × Changes clients next c (left_after turned after)

  -- connection c has these turns in a visit, the last of them first
  abbrev pub HasTurns : Desk R → Clients S W → List Turned → Desk R → Clients S W → List Deed → Type 0
  HasTurns old clients [] new next deeds = (deeds ≡ []) × (new ≡ old) × (next ≡ clients)
  HasTurns old clients (turned ∷ before) new next deeds =
      (mid : Desk R) × (between : Clients S W) × (front : List Deed) × (last : List Deed)
      × HasTurns old clients before mid between front × HasTurn First mid between (Some turned) new next last
      × (deeds ≡ front ++ last)

  -- connection c has turns at which it is not over, and then a turn with this result
  abbrev pub EndsWith : Desk R → Clients S W → Turned → Desk R → Clients S W → List Deed → Type 0
  EndsWith old clients last new next deeds =
      (before : List Turned) × HasTurns old clients (last ∷ before) new next deeds × (fed_in before ≤ 1) × (worked_in (last ∷ before) ≤ 1)
      × (any_over before ≡ false) × (length before < most_turns)

  -- connection c is served by at most four turns of its own, in which the desk takes at most one piece, and of which at most one is a piece of
  -- work. They are as many as it has for now, and it is not over at any of them. Or they go up to the turn at which it is over. There is no
  -- turn if there is no such connection.
  abbrev pub IsServed : Desk R → Clients S W → Served → Desk R → Clients S W → List Deed → Type 0
  IsServed old clients Stays new next deeds =
      (turns : List Turned) × HasTurns old clients turns new next deeds × (fed_in turns ≤ 1) × (worked_in turns ≤ 1) × IsEnough c turns next
      × (any_over turns ≡ false) × (length turns ≤ most_turns)
  IsServed old clients (Served-Over ending) new next deeds = EndsWith old clients (Over ending) new next deeds
  IsServed old clients Unknown new next deeds = HasTurn First old clients None new next deeds

  -- one later piece of work for connection c, whose next reply is worked on: it stays open, or there was no memory for it. Nothing is done if
  -- none is worked on.
  abbrev pub IsWorkedOn : Desk R → Clients S W → Served → Desk R → Clients S W → List Deed → Type 0
  IsWorkedOn old clients Stays new next deeds = HasTurn Later old clients (Some Worked) new next deeds
  IsWorkedOn old clients (Served-Over ending) new next deeds = (ending ≡ Unmade) × HasTurn Later old clients (Some (Over ending)) new next deeds
  IsWorkedOn old clients Unknown new next deeds =
      (¬ IsSomeAnd (client_at clients c) IsWorking) × (deeds ≡ []) × (new ≡ old) × Keeps clients next

-- what is done when connection c is let go
module _ {R S W : Type 0} (g : Ghosts R) (name : S → ℕ) (c : ℕ) where
  -- connection c is closed at the desk, is not open afterwards, and its socket is let go; if it is not open, nothing is done
  abbrev pub ClosesAt : Option (Client S W) → Desk R → Clients S W → Desk R → Clients S W → List Deed → Type 0
  ClosesAt None old clients new next deeds = (deeds ≡ []) × (new ≡ old) × Keeps clients next
  ClosesAt (Some client) old clients new next deeds = (deeds ≡ left (name client.socket) ∷ []) × channels.Closes g c old new × Changes clients next c None

  abbrev pub Closes : Desk R → Clients S W → Desk R → Clients S W → List Deed → Type 0
  Closes old clients new next deeds = ClosesAt (client_at clients c) old clients new next deeds
