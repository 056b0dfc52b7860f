-- The commands that a ledger holds after it was hosted (own profile).
use Rattle.std.proofs.Common.{inl, inr}
use Rattle.std.specs.Prelude.{◌⊎◌, ℕ, List, ◌++◌, length, Option, None, Some}
use Rattle.std.specs.declared.net.socket_addr.SocketAddr.{SocketAddr}
use Rattle.cad_versions.specs.declared.command.Command.{Command}
use Rattle.cad_versions.specs.declared.ledger.Ledger as ledger
use Rattle.cad_versions.specs.declared.journal_ledger.JournalLedger as journal_ledger
use Rattle.cad_versions.specs.Keeping.{IsShut}
use Rattle.cad_stream.specs.declared.responder.Responder.{Ghosts}
use Rattle.cad_stream.specs.declared.journal_responder.JournalResponder.{Ghosts as JournalGhosts}
use Rattle.cad_desk.specs.declared.desk.Desk.{Desk}
use Rattle.cad_server.specs.Works.{reply_owed}
use Rattle.cadastre_run.specs.Serving.{answers_of}
use Rattle.cad_network.specs.Deeds.{Deed}
use Rattle.cad_event_loop.specs.declared.stopped.Stopped.{Stopped}
use Rattle.cad_event_loop.specs.declared.stopped.Stopped.TheVariants.{Asked}
use Rattle.cad_event_loop.specs.Hosting.{HostsBy}
use Rattle.cad_event_loop.specs.Laws.{AreEntered}
use Rattle.cad_event_loop.specs.Works.{Work, Place, Goes, MayGoOn}
use Rattle.cadastred_run.specs.declared.outcome.Outcome.{Outcome}
use Rattle.cadastred_run.specs.declared.outcome.Outcome.TheVariants as outcome
use Rattle.cadastred_run.specs.Hosting.{EndsHosting, HostsOver}
use Rattle.cadastred_run.specs.Journals.{journals_of}

-- For a desk that held these commands at first, if no refusal closed the ledger.
-- The last argument says that it holds a list of commands at the end.
module _ {R J W : Type 0} (g : Ghosts R) (jg : JournalGhosts R J) (owes : W → List ℕ) (commands : List Command) (Holds : List Command → Type 0) where
  -- it holds these, and then those for which a line of the office got the answer `revision N`, in their order, and no others
  abbrev pub KeepsEntered : (works : List Work) (old new : Desk R) (here next : Place J W) → Goes g jg owes old here works new next → Type 0
  KeepsEntered works old new here next goes =
      MayGoOn g jg owes works old new here next goes → (entered : List Command) × AreEntered works (length commands) entered × Holds (commands ++ entered)

  -- by all that was done while it was hosted
  abbrev pub KeepsHosted : {end : Option Stopped} {from to : Option (List Deed)} {old new : Desk R} → HostsBy g jg owes end from old to new → Type 0
  KeepsHosted {end} {from} {to} {old} {new} hosted = KeepsEntered (hosted.works ++ hosted.closing) old new hosted.first hosted.last hosted.goes

  abbrev pub KeepsEither : {from to : Option (List Deed)} {old new : Desk R} → HostsBy g jg owes None from old to new ⊎ HostsBy g jg owes (Some Asked) from old to new → Type 0
  KeepsEither (inl hosted) = KeepsHosted hosted
  KeepsEither (inr hosted) = KeepsHosted hosted

  -- if hosting failed, it may not have begun
  abbrev pub KeepsFailed : {Unhosted Told : Type 0} {from to : Option (List Deed)} {old new : Desk R} → Unhosted ⊎ (Told × (HostsBy g jg owes None from old to new ⊎ HostsBy g jg owes (Some Asked) from old to new)) → Type 0
  KeepsFailed (inl unhosted) = Holds commands
  KeepsFailed (inr hosted) = KeepsEither hosted.1

-- the address that was requested, what standard output holds before and after, and what was done at the network before and after
module _ (asked : SocketAddr) (before after : Option (List ℕ)) (from to : Option (List Deed)) where
  -- by how hosting ended
  abbrev pub KeepsAfter : {R J W : Type 0} (g : Ghosts R) (jg : JournalGhosts R J) (owes : W → List ℕ) → List Command → (List Command → Type 0) → (old : Desk R) (ended : Outcome) (new : Desk R) → EndsHosting asked before after from to g jg owes old ended new → Type 0
  KeepsAfter g jg owes commands Holds old outcome.Address new hosting = Holds commands
  KeepsAfter g jg owes commands Holds old outcome.Good new hosting = KeepsHosted g jg owes commands Holds hosting.1
  KeepsAfter g jg owes commands Holds old (outcome.Register fault) new hosting = KeepsHosted g jg owes commands Holds hosting.2
  KeepsAfter g jg owes commands Holds old outcome.Failed new hosting = KeepsFailed g jg owes commands Holds hosting
  KeepsAfter g jg owes commands Holds old other new hosting = ⊥

  -- the ledger that is given back, which held these commands when it was lent; if what it stores was refused, it holds them or is closed
  abbrev pub Keeps : {L J : Type 0} (g : ledger.Ghosts L) (j : journal_ledger.Ghosts L J) → List Command → (lent : L) (ended : Outcome × L) → HostsOver asked before after from to g j lent ended → Type 0
  Keeps g j commands lent ended (inl unread) = g.stands_for ended.1 commands ⊎ IsShut g.lives g.fails lent unread.refused.0 ended.1
  Keeps g j commands lent ended (inr hosted) = KeepsAfter (answers_of g) (journals_of j) reply_owed commands (g.stands_for ended.1) hosted.old ended.0 hosted.new hosted.hosting
