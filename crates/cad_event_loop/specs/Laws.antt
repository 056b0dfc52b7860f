-- What holds of all that is done (own profile).
use Rattle.std.specs.Prelude.{◌≡◌, ℕ, ◌+◌, length, false, List, [], ◌∷◌, ◌++◌, Option, None, Some}
use Rattle.cad_versions.specs.declared.command.Command.{Command}
use Rattle.cad_stream.specs.declared.responder.Responder.{Ghosts}
use Rattle.cad_stream.specs.declared.journal_responder.JournalResponder.{Ghosts as JournalGhosts}
use Rattle.cad_desk.specs.declared.desk.Desk.{Desk}
use Rattle.cad_desk.specs.Desks.{responder_of}
use Rattle.cad_desk.specs.Events.{commands_after}
use Rattle.cad_network.specs.Deeds.{Deed, given_by, taken_by, comes}
use Rattle.cad_clients.specs.declared.channel.Channel.{Channel}
use Rattle.cad_clients.specs.declared.turned.Ending.{Ending}
use Rattle.cad_clients.specs.Acts.{Happening, read_of, written_of}
use Rattle.cad_clients.specs.Laws.{IsPassedOn, IsAnswered, exchanges_with}
use Rattle.cad_office.specs.declared.print.Answer.{Answer}
use Rattle.cad_office.specs.declared.print.Answer.TheVariants.{Entered, Refused, NotACommand}
use Rattle.cad_office.specs.Keeping.{Asks}
use Rattle.cad_office_socket.specs.declared.turned.EntryTurned.{EntryTurned}
use Rattle.cad_office_socket.specs.declared.turned.EntryTurned.TheVariants.{Answered, Lost}
use Rattle.cad_event_loop.specs.Works.{Place, event, question, rows, Said, Work, wakes, opens, acts, waits, ends, office_comes, enters, office_leaves, aside, IsEmpty, all_deeds, Goes, MayGoOn}
use Rattle.cad_event_loop.specs.Lives.{last_deeds, IsLeft}

-- the commands in force after an event at the desk, and after all that is done: only what the land office entered adds to them
abbrev pub commands_by : List Command → Said → List Command
commands_by commands None = commands
commands_by commands (Some (event e answer)) = commands_after commands e answer
commands_by commands (Some (question command answer)) = commands
commands_by commands (Some (rows answer)) = commands

abbrev pub commands_in : List Command → List Work → List Command
commands_in commands [] = commands
commands_in commands (wakes places ∷ later) = commands_in commands later
commands_in commands (opens s c ∷ later) = commands_in commands later
commands_in commands (acts s c act owing ∷ later) = commands_in commands later
commands_in commands (waits s c ∷ later) = commands_in commands later
commands_in commands (ends s c cause deeds said ∷ later) = commands_in commands later
commands_in commands (office_comes o k ∷ later) = commands_in commands later
commands_in commands (enters o k text turned deeds said ∷ later) = commands_in (commands_by commands said) later
commands_in commands (office_leaves o k overdue ∷ later) = commands_in commands later
commands_in commands (aside deeds said ∷ later) = commands_in commands later

-- These commands, after so many, are those that were entered, in their order.
-- Each is the one that the text of a line asks for, and the line was answered by its revision.
module _ (AreLater : ℕ → List Command → Type 0) where
  abbrev pub AreFirst : ℕ → List ℕ → Answer → List Command → Type 0
  AreFirst count text (Entered revision) [] = ⊥
  AreFirst count text (Entered revision) (command ∷ entered) = Asks text command × (revision ≡ count + 1) × AreLater (count + 1) entered
  AreFirst count text (Refused fault) entered = AreLater count entered
  AreFirst count text NotACommand entered = AreLater count entered

  -- by a turn of the land office in which the line with this text ended
  abbrev pub AreFirstBy : ℕ → List ℕ → EntryTurned → List Command → Type 0
  AreFirstBy count text (Answered answer) entered = AreFirst count text answer entered
  AreFirstBy count text (Lost answer) entered = AreFirst count text answer entered
  AreFirstBy count text other entered = AreLater count entered

abbrev pub AreEntered : List Work → ℕ → List Command → Type 0
AreEntered [] count entered = entered ≡ []
AreEntered (enters o k text turned deeds said ∷ later) count entered = AreFirstBy (AreEntered later) count text turned entered
AreEntered (other ∷ later) count entered = AreEntered later count entered

module _ {R J W : Type 0} (g : Ghosts R) (jg : JournalGhosts R J) (owes : W → List ℕ) where
  -- at the end, the ledger holds the commands from before and those that the land office got revisions for as answers, and no others
  abbrev pub LedgerStands : Type 0
  LedgerStands = (commands : List Command) (works : List Work) (old new : Desk R) (here next : Place J W) → (goes : Goes g jg owes old here works new next) → MayGoOn g jg owes works old new here next goes
      → g.counts (responder_of new) → g.stands_for (responder_of old) commands
      → (entered : List Command) × AreEntered works (length commands) entered × (commands_in commands works ≡ commands ++ entered) × g.stands_for (responder_of new) (commands ++ entered)

  -- for a socket that came once, and became connection c: what was read from it, and what was written to it
  pub record IsServedSocket (s c : ℕ) (commands : List Command) (all : List Deed) (next : Place J W) : Type 0 where
    pub happenings : List Happening
    pub mid : Desk R
    pub last : Channel W
    pub ended : Option (Option Ending × List Deed)
    -- except for the deeds of its end, it was read and written only in the acts of connection c
    pub read : given_by s all ≡ read_of happenings ++ given_by s (last_deeds ended)
    pub written : taken_by s all ≡ written_of happenings ++ taken_by s (last_deeds ended)
    -- it continues, or it ended with this cause
    pub left : IsLeft g jg owes c s mid last ended next.slots
    -- what was read went to the desk under its own number, and what was written are the replies to that
    pub passed : IsPassedOn owes (exchanges_with c commands happenings) (read_of happenings) (written_of happenings) last
    pub answered : IsAnswered g owes (exchanges_with c commands happenings) (written_of happenings) last

  -- for all else that may be done
  abbrev pub SocketsAreTheirOwn : Type 0
  SocketsAreTheirOwn = (s c : ℕ) (commands : List Command) (before later : List Work) (old new : Desk R) (first next : Place J W)
      → IsEmpty first → (goes : Goes g jg owes old first (before ++ opens s c ∷ later) new next) → MayGoOn g jg owes (before ++ opens s c ∷ later) old new first next goes
      → comes s (all_deeds before) ≡ false → comes s (all_deeds later) ≡ false
      → g.counts (responder_of new) → g.stands_for (responder_of old) commands
      → IsServedSocket s c (commands_in commands before) (all_deeds (before ++ opens s c ∷ later)) next
