-- What is done for clients and the land office at a desk and at their sockets, one thing after the other (own profile).
use Rattle.std.specs.Prelude.{◌≡◌, ◌⊎◌, ⊤, ℕ, ◌≤◌, ◌<◌, nat_eq, Bool, true, false, not, List, [], ◌∷◌, ◌++◌, length, map, codes, Option, None, Some, IsErr, Result, Ok, Err, IfErr, if◌then◌else◌}
use Rattle.std.specs.Option.{option_or}
use Rattle.cad_versions.specs.declared.command.Command.{Command}
use Rattle.cad_versions.specs.declared.fault.RegisterFault.{RegisterFault}
use Rattle.cad_versions.specs.declared.fault.RegisterFault.TheVariants.{Store, Memory}
use Rattle.cad_versions.specs.Keeping.{IsShut}
use Rattle.cad_stream.specs.declared.responder.Responder.{Ghosts}
use Rattle.cad_stream.specs.declared.journal_responder.JournalResponder.{Ghosts as JournalGhosts}
use Rattle.cad_desk.specs.declared.desk.Desk.{Desk}
use Rattle.cad_desk.specs.declared.event.Event.{Event}
use Rattle.cad_desk.specs.declared.event.Event.TheVariants.{Open, Bytes, Close, Office}
use Rattle.cad_desk.specs.declared.event.Reply.{Reply}
use Rattle.cad_desk.specs.declared.event.Reply.TheVariants as reply
use Rattle.cad_desk.specs.declared.fault.DeskFault.{DeskFault}
use Rattle.cad_desk.specs.declared.fault.DeskFault.TheVariants.{Register}
use Rattle.cad_desk.specs.Desks.{responder_of, ChecksAtDesk, IsShutAtDesk, Steps}
use Rattle.cad_desk.specs.Journals.{ReadsAtDesk}
use Rattle.cad_desk.specs.Faults.{fault_of}
use Rattle.cad_network.specs.Deeds.{Deed, came, office_came, woke, blocked, left}
use Rattle.cad_network.specs.Deeds as deed
use Rattle.cad_clients.specs.declared.channel.Channel.{Channel}
use Rattle.cad_clients.specs.declared.client.Client.{Client}
use Rattle.cad_clients.specs.declared.clients.Clients.{Clients}
use Rattle.cad_clients.specs.declared.turned.Ending.{Ending}
use Rattle.cad_clients.specs.declared.turned.Ending.TheVariants.{PeerEnded, WeEnded, Refused, Unmade, ReadFailed, WriteFailed}
use Rattle.cad_clients.specs.Channels.{Act, wrote, took, fed, worked, is_working, Does, MayWait, SendsFault, EndsSo, Closes}
use Rattle.cad_clients.specs.Laws.{IsNew}
use Rattle.cad_clients.specs.Slots.{client_at}
use Rattle.cad_office.specs.declared.print.Answer.{Answer}
use Rattle.cad_office.specs.declared.print.Answer.TheVariants as answer
use Rattle.cad_office.specs.Keeping.{Asks}
use Rattle.cad_office.specs.Lines.{longest_line}
use Rattle.cad_office_socket.specs.declared.entry.Entry.{Entry}
use Rattle.cad_office_socket.specs.declared.turned.EntryTurned.{EntryTurned}
use Rattle.cad_office_socket.specs.declared.turned.EntryTurned.TheVariants as turn
use Rattle.cad_dry_run.specs.declared.report.Report.{Report}
use Rattle.cad_dry_run.specs.declared.report.Report.TheVariants as report
use Rattle.cad_dry_run.specs.Reports.{answer_of}
use Rattle.cad_office_socket.specs.Checks.{IsCheckOf}
use Rattle.cad_office_socket.specs.Journals.{most_rows, IsJournalAfter}
use Rattle.cad_office_socket.specs.Statuses.{IsStatusLine}
use Rattle.cad_office_socket.specs.Serving as serving
use Rattle.cad_office_socket.specs.Turns.{unwritten, IsNewEntry, IsAsking, IsEntryTurn, IsSending}
use Rattle.cad_event_loop.specs.declared.stopped.Stopped.{Stopped}
use Rattle.cad_event_loop.specs.declared.stopped.Stopped.TheVariants.{Asked, StoreRefused}

-- the open connections by their numbers, each with the name of its socket and its channel
abbrev pub Held : Type 0 → Type 0
Held W = ℕ → Option (ℕ × Channel W)

abbrev pub held_of : {S W : Type 0} → (S → ℕ) → Option (Client S W) → Option (ℕ × Channel W)
held_of name None = None
held_of name (Some client) = Some (name client.socket, client.channel)

abbrev pub held_at : {S W : Type 0} → (S → ℕ) → Clients S W → Held W
held_at name clients c = held_of name (client_at clients c)

-- connection c is this one afterwards, or is not open, and all others are as they were
abbrev pub Puts : {X : Type 0} → (ℕ → Option X) → (ℕ → Option X) → ℕ → Option X → Type 0
Puts old new c one = (d : ℕ) → new d ≡ (if nat_eq c d then one else old d)

abbrev pub Same : {X : Type 0} → (ℕ → Option X) → (ℕ → Option X) → Type 0
Same old new = (d : ℕ) → new d ≡ old d

-- a connection of the land office, if it is open: the name of its socket, and what it holds
abbrev pub AtOffice : Type 0 → Type 0
AtOffice J = Option (ℕ × Entry J)

-- all of them by their numbers
abbrev pub AtOffices : Type 0 → Type 0
AtOffices J = ℕ → AtOffice J

-- how many may be open
abbrev pub most_offices : ℕ
most_offices = 4

-- who is here
pub record Place (J W : Type 0) : Type 0 where
  pub slots : Held W
  pub offices : AtOffices J

abbrev pub place_of : {S J W : Type 0} → (S → ℕ) → Clients S W → AtOffices J → Place J W
place_of name clients offices = record { slots = held_at name clients; offices = offices }

-- nobody is here
abbrev pub IsEmpty : {J W : Type 0} → Place J W → Type 0
IsEmpty place = ((c : ℕ) → place.slots c ≡ None) × ((k : ℕ) → place.offices k ≡ None)

-- what the desk gets, and its answer: an event; or the land office's question what would be answered to a command; or the request to read
-- the next rows of a journal
pub data DeskCall : Type 0 where
  event : Event → Result Reply DeskFault → DeskCall
  question : Command → Result ℕ RegisterFault → DeskCall
  rows : Result Bool RegisterFault → DeskCall

-- the same, if it gets anything
abbrev pub Said : Type 0
Said = Option DeskCall

-- One of these is done:
-- the network reports that the sockets at these places may continue; socket s comes and is connection c; connection c acts at socket s, and a
-- reply of it is to be worked on since then, or not; its socket gives or takes nothing for now; it ends, by a turn of its own or because it is
-- closed, with these deeds;
-- the land office comes at socket o and has connection k; it has a turn there, in which the line with this text ends, if one does, or this
-- text of a journal is to be written; this connection is let go, since its answer is overdue or since hosting ends; or something is done for none of them
pub data Work : Type 0 where
  wakes : List ℕ → Work
  opens : ℕ → ℕ → Work
  acts : ℕ → ℕ → Act → Bool → Work
  waits : ℕ → ℕ → Work
  ends : ℕ → ℕ → Option Ending → List Deed → Said → Work
  office_comes : ℕ → ℕ → Work
  enters : ℕ → ℕ → List ℕ → EntryTurned → List Deed → Said → Work
  office_leaves : ℕ → ℕ → Bool → Work
  aside : List Deed → Said → Work

-- the deeds of each
abbrev pub deeds_in : ℕ → Act → List Deed
deeds_in s (wrote bytes) = deed.took s bytes ∷ []
deeds_in s (took bytes) = deed.gave s bytes ∷ []
deeds_in s (fed piece out over) = []
deeds_in s worked = []

abbrev pub deeds_of : Work → List Deed
deeds_of (wakes places) = map woke places
deeds_of (opens s c) = came s ∷ []
deeds_of (acts s c act owing) = deeds_in s act
deeds_of (waits s c) = blocked s ∷ []
deeds_of (ends s c cause deeds said) = deeds
deeds_of (office_comes o k) = office_came o ∷ []
deeds_of (enters o k text turned deeds said) = deeds
deeds_of (office_leaves o k overdue) = left o ∷ []
deeds_of (aside deeds said) = deeds

abbrev pub all_deeds : List Work → List Deed
all_deeds [] = []
all_deeds (work ∷ later) = deeds_of work ++ all_deeds later

-- the event that the desk gets by each, if the desk may refuse it
abbrev pub said_by : Work → Said
said_by (wakes places) = None
said_by (opens s c) = None
said_by (acts s c act owing) = None
said_by (waits s c) = None
said_by (ends s c cause deeds said) = said
said_by (office_comes o k) = None
said_by (enters o k text turned deeds said) = said
said_by (office_leaves o k overdue) = None
said_by (aside deeds said) = said

-- the register's database refused
abbrev pub is_store : Result Reply DeskFault → Bool
is_store (Ok reply) = false
is_store (Err (Register Store)) = true
is_store (Err fault) = false

abbrev pub store_end : Bool → Option Stopped
store_end refused = if refused then Some StoreRefused else None

-- why hosting ends after the end of a connection, and after a turn of the land office, if it does
abbrev pub end_with : Ending → Option Stopped
end_with PeerEnded = None
end_with WeEnded = None
end_with (Refused fault) = store_end (is_store (Err fault))
end_with Unmade = None
end_with ReadFailed = None
end_with WriteFailed = None

abbrev pub end_of_cause : Option Ending → Option Stopped
end_of_cause None = None
end_of_cause (Some ending) = end_with ending

abbrev pub end_of_turned : EntryTurned → Option Stopped
end_of_turned turn.Wrote = None
end_of_turned turn.Took = None
end_of_turned turn.Added = None
end_of_turned (turn.Answered answer) = store_end (serving.is_store answer)
end_of_turned (turn.Lost answer) = store_end (serving.is_store answer)
end_of_turned (turn.Checked it) = store_end (serving.is_store (answer_of it))
end_of_turned (turn.CheckLost it) = store_end (serving.is_store (answer_of it))
end_of_turned (turn.StatusAnswered status) = None
end_of_turned turn.StatusLost = None
end_of_turned (turn.JournalBegun behind) = None
end_of_turned turn.RowsRead = None
end_of_turned (turn.RowsRefused fault) = store_end (serving.is_store (answer.Refused fault))
end_of_turned (turn.RowsLost fault) = store_end (serving.is_store (answer.Refused fault))
end_of_turned turn.Piece = None
end_of_turned turn.PieceLost = None
end_of_turned turn.Stops = Some Asked
end_of_turned turn.Waits = None
end_of_turned turn.Over = None

-- after one thing is done
abbrev pub end_by : Work → Option Stopped
end_by (wakes places) = None
end_by (opens s c) = None
end_by (acts s c act owing) = None
end_by (waits s c) = None
end_by (ends s c cause deeds said) = end_of_cause cause
end_by (office_comes o k) = None
end_by (enters o k text turned deeds said) = end_of_turned turned
end_by (office_leaves o k overdue) = None
end_by (aside deeds said) = None

-- and after the first of these that ends it
abbrev pub end_in : List Work → Option Stopped
end_in [] = None
end_in (work ∷ later) = option_or (end_by work) (end_in later)

-- hosting ends by the last of these for this reason, and by none before it; or, if there is no reason, by none
abbrev pub EndsBy : Option Stopped → List Work → Type 0
EndsBy None works = end_in works ≡ None
EndsBy (Some stopped) works = (before : List Work) × (last : Work) × (works ≡ before ++ last ∷ []) × (end_in before ≡ None) × (end_by last ≡ Some stopped)

-- the event is of connection c, and does not open it
abbrev pub IsEventOf : ℕ → Event → Type 0
IsEventOf c (Open d) = ⊥
IsEventOf c (Bytes d piece) = d ≡ c
IsEventOf c (Close d) = d ≡ c
IsEventOf c (Office command) = ⊥

abbrev pub IsOf : ℕ → Said → Type 0
IsOf c None = ⊤
IsOf c (Some (event e answer)) = IsEventOf c e
IsOf c (Some (question command answer)) = ⊥
IsOf c (Some (rows answer)) = ⊥

-- the event is of no connection: the desk refused to open one
abbrev pub IsOfNone : {W : Type 0} → Held W → Said → Type 0
IsOfNone slots None = ⊤
IsOfNone slots (Some (event e answer)) = (c : ℕ) × (slots c ≡ None) × (e ≡ Open c) × IsErr answer
IsOfNone slots (Some (question command answer)) = ⊥
IsOfNone slots (Some (rows answer)) = ⊥

-- the desk gets the command that the line asks for, and gives this answer; or it gets none
abbrev pub SaysSo : List ℕ → Answer → Said → Type 0
SaysSo text (answer.Entered revision) said = (command : Command) × Asks text command × (said ≡ Some (event (Office command) (Ok (reply.Entered revision))))
SaysSo text (answer.Refused fault) said =
    ((command : Command) × Asks text command × (said ≡ Some (event (Office command) (Err (fault_of fault))))) ⊎ ((fault ≡ Memory) × (length text ≤ longest_line) × (said ≡ None))
SaysSo text answer.NotACommand said = ((command : Command) → ¬ Asks text command) × (said ≡ None)

-- the desk is asked for the command that the line asks for, and gives this answer; or it is asked for none
abbrev pub ChecksSo : List ℕ → Report → Said → Type 0
ChecksSo line (report.WouldBe revision) said = (command : Command) × Asks line command × (said ≡ Some (question command (Ok revision)))
ChecksSo line (report.Refused fault) said =
    ((command : Command) × Asks line command × (said ≡ Some (question command (Err fault)))) ⊎ ((fault ≡ Memory) × (length line ≤ longest_line) × (said ≡ None))
ChecksSo line (report.NoCommand text) said = ((command : Command) → ¬ Asks line command) × (said ≡ None)
ChecksSo line report.LongLine said = ((command : Command) → ¬ Asks line command) × (said ≡ None)

-- the same for a line that asks for a check
abbrev pub IsCheckSaid : List ℕ → Report → Said → Type 0
IsCheckSaid text it said = (line : List ℕ) × IsCheckOf text line × ChecksSo line it said

-- what the desk gets in a turn of the land office, for the line that ended in it or the journal that goes on
abbrev pub IsLineSaid : List ℕ → EntryTurned → Said → Type 0
IsLineSaid text (turn.Answered answer) said = IsAsking text answer × SaysSo text answer said
IsLineSaid text (turn.Lost answer) said = IsAsking text answer × SaysSo text answer said
IsLineSaid text (turn.Checked it) said = IsCheckSaid text it said
IsLineSaid text (turn.CheckLost it) said = IsCheckSaid text it said
IsLineSaid text (turn.StatusAnswered status) said = IsStatusLine text × (said ≡ None)
IsLineSaid text turn.StatusLost said = IsStatusLine text × (said ≡ None)
IsLineSaid text (turn.JournalBegun behind) said = IsJournalAfter text behind × (said ≡ None)
IsLineSaid text turn.RowsRead said = (whole : Bool) × (said ≡ Some (rows (Ok whole)))
IsLineSaid text (turn.RowsRefused fault) said = said ≡ Some (rows (Err fault))
IsLineSaid text (turn.RowsLost fault) said = said ≡ Some (rows (Err fault))
IsLineSaid text turn.Stops said = (text ≡ codes "stop") × (said ≡ None)
IsLineSaid text other said = said ≡ None

-- the piece of a journal, in a turn in which one is to be written
abbrev pub IsPieceWritten : {J : Type 0} → List ℕ → EntryTurned → Entry J → Type 0
IsPieceWritten text turn.Piece after = unwritten after ≡ text
IsPieceWritten text other after = ⊤

-- whether the land office's connection is over by the turn: nothing more can be written to it, and hosting continues without it
abbrev pub is_last : EntryTurned → Bool
is_last turn.Over = true
is_last (turn.Lost answer) = not (serving.is_store answer)
is_last (turn.CheckLost it) = not (serving.is_store (answer_of it))
is_last (turn.RowsLost fault) = not (serving.is_store (answer.Refused fault))
is_last turn.StatusLost = true
is_last turn.PieceLost = true
is_last other = false

-- nothing is done at a socket; or one comes and is let go, a client's after a head with the reason is sent to it
abbrev pub IsAside : List Deed → Type 0
IsAside deeds =
    (deeds ≡ []) ⊎ (((s : ℕ) × (fault : DeskFault) × (told : List Deed) × SendsFault s fault told × (deeds ≡ came s ∷ (told ++ left s ∷ [])))
    ⊎ ((s : ℕ) × (deeds ≡ office_came s ∷ left s ∷ [])))

module _ {R J : Type 0} (g : Ghosts R) (jg : JournalGhosts R J) where
  abbrev pub Tells : Desk R → Said → Desk R → Type 0
  Tells old None new = new ≡ old
  Tells old (Some (event e answer)) new = Steps g old e answer new
  Tells old (Some (question command answer)) new = ChecksAtDesk g old command answer new
  Tells old (Some (rows answer)) new = (before : J) × (after : J) × ReadsAtDesk g jg old before most_rows answer new after

  -- the ledger was not closed by a refusal
  abbrev pub MayAsk : Desk R → Said → Desk R → Type 0
  MayAsk old None new = ⊤
  MayAsk old (Some (event e answer)) new = IfErr answer (λ fault. ¬ IsShutAtDesk g old fault new)
  MayAsk old (Some (question command answer)) new = IfErr answer (λ fault. ¬ IsShut g.lives g.fails (responder_of old) fault (responder_of new))
  MayAsk old (Some (rows answer)) new = IfErr answer (λ fault. ¬ IsShut g.lives g.fails (responder_of old) fault (responder_of new))

-- connection c is over by a turn of its own, or it is closed; and its socket is let go
abbrev pub Leaves : {R W : Type 0} → Ghosts R → ℕ → ℕ → Desk R → Channel W → Option Ending → List Deed → Desk R → Type 0
Leaves g c s old channel (Some ending) deeds new = (own : List Deed) × (deeds ≡ own ++ left s ∷ []) × EndsSo g c s old channel ending new own
Leaves g c s old channel None deeds new = (deeds ≡ left s ∷ []) × Closes g c old new

-- the same, where the replies that are owed are what their work owes
module _ {R J W : Type 0} (g : Ghosts R) (jg : JournalGhosts R J) (owes : W → List ℕ) where
  -- one thing is done
  abbrev pub Works : Desk R → Place J W → Work → Desk R → Place J W → Type 0
  Works old here (wakes places) new next = (new ≡ old) × Same here.slots next.slots × Same here.offices next.offices
  Works old here (opens s c) new next =
      (channel : Channel W) × (here.slots c ≡ None) × IsNew channel × Steps g old (Open c) (Ok reply.Opened) new × Puts here.slots next.slots c (Some (s, channel)) × Same here.offices next.offices
  Works old here (acts s c act owing) new next =
      (channel : Channel W) × (after : Channel W) × (here.slots c ≡ Some (s, channel)) × Does g owes c old channel act new after × Puts here.slots next.slots c (Some (s, after)) × Same here.offices next.offices
      × (owing ≡ is_working after)
  Works old here (waits s c) new next =
      (channel : Channel W) × (here.slots c ≡ Some (s, channel)) × MayWait channel × (new ≡ old) × Same here.slots next.slots × Same here.offices next.offices
  Works old here (ends s c cause deeds said) new next =
      (channel : Channel W) × (here.slots c ≡ Some (s, channel)) × Leaves g c s old channel cause deeds new × IsOf c said × Tells g jg old said new × Puts here.slots next.slots c None × Same here.offices next.offices
  Works old here (office_comes o k) new next =
      (entry : Entry J) × (here.offices k ≡ None) × IsNewEntry entry × Puts here.offices next.offices k (Some (o, entry)) × Same here.slots next.slots × (new ≡ old) × (k < most_offices)
  Works old here (enters o k text turned deeds said) new next =
      (entry : Entry J) × (after : Entry J) × (own : List Deed) × (here.offices k ≡ Some (o, entry)) × IsEntryTurn g jg o old entry turned new after own × (deeds ≡ own ++ (if is_last turned then left o ∷ [] else []))
      × IsLineSaid text turned said × Tells g jg old said new × Puts here.offices next.offices k (if is_last turned then None else Some (o, after)) × Same here.slots next.slots
      × IsPieceWritten text turned after
  Works old here (office_leaves o k overdue) new next =
      (entry : Entry J) × (here.offices k ≡ Some (o, entry)) × Puts here.offices next.offices k None × Same here.slots next.slots × (new ≡ old) × (overdue ≡ true → IsSending entry)
  Works old here (aside deeds said) new next = IsOfNone here.slots said × Tells g jg old said new × Same here.slots next.slots × IsAside deeds × Same here.offices next.offices

  -- these things are done, one after the other
  abbrev pub Goes : Desk R → Place J W → List Work → Desk R → Place J W → Type 0
  Goes old here [] new next = (new ≡ old) × (next ≡ here)
  Goes old here (work ∷ later) new next =
      (mid : Desk R) × (between : Place J W) × Works old here work mid between × Goes mid between later new next

  -- the ledger was not closed meanwhile by a refusal
  abbrev pub MayGoOn : (works : List Work) (old new : Desk R) (here next : Place J W) → Goes old here works new next → Type 0
  MayGoOn [] old new here next goes = ⊤
  MayGoOn (work ∷ later) old new here next goes = MayAsk g jg old (said_by work) goes.0 × MayGoOn later goes.0 new goes.1 next goes.3
