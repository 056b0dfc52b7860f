-- The land office as the code holds it, and how it is served (own profile).
use Rattle.std.specs.Prelude.{◌≡◌, ⊤, ℕ, nat_eq, Bool, true, false, List, [], ◌∷◌, ◌++◌, Option, None, Some, if◌then◌else◌}
use Rattle.std.specs.List.{slice_get}
use Rattle.cad_stream.specs.declared.responder.Responder.{Ghosts}
use Rattle.cad_stream.specs.declared.journal_responder.JournalResponder.{Ghosts as JournalGhosts}
use Rattle.cad_desk.specs.declared.desk.Desk.{Desk}
use Rattle.cad_network.specs.Deeds.{Deed, left}
use Rattle.cad_office_socket.specs.declared.entry.Entry.{Entry}
use Rattle.cad_office_socket.specs.declared.turned.EntryServed.{EntryServed}
use Rattle.cad_office_socket.specs.declared.turned.EntryServed.TheVariants as served
use Rattle.cad_office_socket.specs.declared.turned.EntryTurned.{EntryTurned}
use Rattle.cad_office_socket.specs.declared.figures.Figures.{Figures}
use Rattle.cad_office_socket.specs.Serving.{IsEntryServed}
use Rattle.cad_office_socket.specs.Turns.{IsBegun, IsSending, SendsSome}
use Rattle.cad_event_loop.specs.declared.office.Office.{Office}
use Rattle.cad_event_loop.specs.declared.offices.Offices.{Offices}
use Rattle.cad_event_loop.specs.declared.stopped.Stopped.{Stopped}
use Rattle.cad_event_loop.specs.declared.stopped.Stopped.TheVariants.{Asked, StoreRefused}
use Rattle.cad_event_loop.specs.Works.{AtOffice, AtOffices, is_last}

abbrev pub office_at : {S J : Type 0} → (S → ℕ) → Option (Office S J) → AtOffice J
office_at name None = None
office_at name (Some office) = Some (name office.socket, office.entry)

-- what a place of the table holds
abbrev pub seat_in : {S J : Type 0} → Option (Option (Office S J)) → Option (Office S J)
seat_in None = None
seat_in (Some None) = None
seat_in (Some (Some office)) = Some office

-- connection k of the land office, if it is open
abbrev pub seat_at : {S J : Type 0} → Offices S J → ℕ → Option (Office S J)
seat_at offices k = seat_in (slice_get offices.seats.items k)

-- it is this one afterwards, or is not open, and all others are as they were
abbrev pub Seats : {S J : Type 0} → Offices S J → Offices S J → ℕ → Option (Office S J) → Type 0
Seats old new k one = (j : ℕ) → seat_at new j ≡ (if nat_eq k j then one else seat_at old j)

-- all of them, if sockets of this type have these names
abbrev pub offices_at : {S J : Type 0} → (S → ℕ) → Offices S J → AtOffices J
offices_at name offices k = office_at name (seat_at offices k)

-- a line of it has begun, if it is open
abbrev pub HasBegun : {S J : Type 0} → Option (Office S J) → Type 0
HasBegun None = ⊤
HasBegun (Some office) = IsBegun office.entry

-- an answer to it is to be written
abbrev pub IsOfficeSending : {S J : Type 0} → Option (Office S J) → Type 0
IsOfficeSending None = ⊥
IsOfficeSending (Some office) = IsSending office.entry

-- a line of each has begun
pub record HaveBegun {S J : Type 0} (offices : Offices S J) : Type 0 where
  pub each : (k : ℕ) → HasBegun (seat_at offices k)

-- the same, if hosting continues
abbrev pub HaveBegunUnless : {S J : Type 0} → Option Stopped → Offices S J → Type 0
HaveBegunUnless None offices = HaveBegun offices
HaveBegunUnless (Some stopped) offices = ⊤

-- why hosting ends after serving the land office with this result, if it does
abbrev pub end_of_office : EntryServed → Option Stopped
end_of_office served.Goes = None
end_of_office served.Waits = None
end_of_office served.Over = None
end_of_office served.Stops = Some Asked
end_of_office served.StoreRefused = Some StoreRefused

-- it is over
abbrev pub is_over : EntryServed → Bool
is_over served.Over = true
is_over other = false

-- it may continue at once, if it is not over
abbrev pub may_go_on : EntryServed → Bool
may_go_on served.Waits = false
may_go_on other = true

-- the deed of letting its socket go, and what remains of its connection: nothing, if it is over
abbrev pub left_deeds : Bool → ℕ → List Deed
left_deeds over o = if over then left o ∷ [] else []

abbrev pub left_at : {J : Type 0} → Bool → ℕ → Entry J → AtOffice J
left_at over o entry = if over then None else Some (o, entry)

module _ {R S J : Type 0} (g : Ghosts R) (jg : JournalGhosts R J) (name : S → ℕ) where
  -- the land office is served, and this remains of it
  abbrev pub HasOfficeTurns : Figures → Figures → Desk R → Office S J → EntryServed × Option (Office S J) → Desk R → List Deed → Type 0
  HasOfficeTurns first last old office result new deeds =
      (after : Entry J) × (own : List Deed) × IsEntryServed g jg (name office.socket) first last old office.entry result.0 new after own
      × (deeds ≡ own ++ left_deeds (is_over result.0) (name office.socket)) × (office_at name result.1 ≡ left_at (is_over result.0) (name office.socket) after)

-- a further part of an answer to the land office is written, if there is one, and this remains of the office
module _ {S J : Type 0} (name : S → ℕ) where
  abbrev pub HasSent : Office S J → EntryTurned × Option (Office S J) → List Deed → Type 0
  HasSent office result deeds =
      (after : Entry J) × (own : List Deed) × IsSending office.entry × SendsSome (name office.socket) office.entry result.0 after own
      × (deeds ≡ own ++ left_deeds (is_last result.0) (name office.socket)) × (office_at name result.1 ≡ left_at (is_last result.0) (name office.socket) after)
