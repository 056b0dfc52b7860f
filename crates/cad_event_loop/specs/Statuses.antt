-- What the answer to the line `status` says of the commands (own profile).
use Rattle.std.specs.Prelude.{ℕ, List, ◌∷◌, ◌++◌}
use Rattle.cad_versions.specs.declared.command.Command.{Command}
use Rattle.cad_stream.specs.declared.responder.Responder.{Ghosts}
use Rattle.cad_stream.specs.declared.journal_responder.JournalResponder.{Ghosts as JournalGhosts}
use Rattle.cad_stream.specs.Summaries.{IsSummaryOf}
use Rattle.cad_desk.specs.declared.desk.Desk.{Desk}
use Rattle.cad_desk.specs.Desks.{responder_of}
use Rattle.cad_network.specs.Deeds.{Deed}
use Rattle.cad_office_socket.specs.declared.status.Status.{Status}
use Rattle.cad_office_socket.specs.declared.turned.EntryTurned.TheVariants.{StatusAnswered}
use Rattle.cad_event_loop.specs.Works.{Place, Said, Work, enters, IsEmpty, Goes, MayGoOn}
use Rattle.cad_event_loop.specs.Laws.{commands_in}

module _ {R J W : Type 0} (g : Ghosts R) (jg : JournalGhosts R J) (owes : W → List ℕ) where
  -- for each line that asks for the status, and for all else that may be done: the answer sums up the commands in force when the line ended
  abbrev pub StatusesAreCurrent : Type 0
  StatusesAreCurrent = (o k : ℕ) (text : List ℕ) (status : Status) (deeds : List Deed) (said : Said) (commands : List Command) (before later : List Work) (old new : Desk R) (first next : Place J W)
      → IsEmpty first → (goes : Goes g jg owes old first (before ++ enters o k text (StatusAnswered status) deeds said ∷ later) new next)
      → MayGoOn g jg owes (before ++ enters o k text (StatusAnswered status) deeds said ∷ later) old new first next goes
      → g.counts (responder_of new) → g.stands_for (responder_of old) commands
      → IsSummaryOf (commands_in commands before) status.summary
