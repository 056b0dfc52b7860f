-- The commands that a ledger holds after it was hosted.
use Rattle.std.proofs.Common.{◌≡◌, ◌⊎◌, ℕ, List, ◌++◌, Option, None, Some, sym, subst, inl, inr}
use Rattle.std.specs.declared.net.socket_addr.SocketAddr.{SocketAddr}
use Rattle.cad_versions.specs.declared.command.Command.{Command}
use Rattle.cad_versions.specs.declared.fault.RegisterFault.{RegisterFault}
use Rattle.cad_versions.specs.declared.ledger.Ledger as ledger
use Rattle.cad_versions.specs.declared.journal_ledger.JournalLedger as journal_ledger
use Rattle.cad_stream.specs.declared.responder.Responder.{Ghosts}
use Rattle.cad_stream.specs.declared.journal_responder.JournalResponder.{Ghosts as JournalGhosts}
use Rattle.cad_desk.specs.declared.desk.Desk.{Desk}
use Rattle.cad_desk.specs.Desks.{responder_of}
use Rattle.cad_server.specs.declared.server.Server.{Server}
use Rattle.cad_server.specs.Servers.{ledger_of, IsServerOf}
use Rattle.cad_server.specs.Works.{reply_owed}
use Rattle.cad_versions.specs.Keeping.{IsShut}
use Rattle.cadastre_run.specs.Preparing.{IsRefused}
use Rattle.cadastre_run.specs.Serving.{answers_of}
use Rattle.cadastre_run.specs.lemmas.ReadyLemmas.{ready_clean, ready_stands, refused_clean, refused_stands}
use Rattle.cad_network.specs.Deeds.{Deed}
use Rattle.cad_event_loop.specs.declared.stopped.Stopped.{Stopped}
use Rattle.cad_event_loop.specs.declared.stopped.Stopped.TheVariants.{Asked}
use Rattle.cad_event_loop.specs.Hosting.{HostsBy}
use Rattle.cad_event_loop.specs.Laws.{LedgerStands}
use Rattle.cadastred_run.specs.declared.outcome.Outcome.{Outcome}
use Rattle.cadastred_run.specs.declared.outcome.Outcome.TheVariants as outcome
use Rattle.cadastred_run.specs.Chaining.{IsUnchained}
use Rattle.cadastred_run.specs.Hosting.{EndsHosting, HostsOver}
use Rattle.cad_event_loop.specs.lemmas.CleanLemmas.{same_counts, goes_clean}
use Rattle.cadastred_run.specs.Journals.{journals_of}
use Rattle.cadastred_run.specs.Keeping.{KeepsHosted, KeepsEither, KeepsFailed, KeepsAfter, Keeps}

-- what a ledger's laws say of a failure after a moment up to which it remained what it was
abbrev pub FailsBefore : {L : Type 0} → ledger.Ghosts L → Type 0
FailsBefore {L} g = (old mid new : L) → g.remains old mid → g.fails mid new → g.fails old new

-- a clean disk at the end of hosting was clean before
module _ {R J W : Type 0} (g : Ghosts R) (jg : JournalGhosts R J) (owes : W → List ℕ) (old new : Desk R) (from to : Option (List Deed)) (counts : g.counts (responder_of new)) where
  hosted_clean : (end : Option Stopped) → HostsBy g jg owes end from old to new → g.counts (responder_of old)
  hosted_clean end hosted = goes_clean g jg owes (hosted.works ++ hosted.closing) old new hosted.first hosted.last hosted.goes counts

  either_clean : HostsBy g jg owes None from old to new ⊎ HostsBy g jg owes (Some Asked) from old to new → g.counts (responder_of old)
  either_clean (inl hosted) = hosted_clean None hosted
  either_clean (inr hosted) = hosted_clean (Some Asked) hosted

  module _ (asked : SocketAddr) (before after : Option (List ℕ)) where
    failed_clean : EndsHosting asked before after from to g jg owes old outcome.Failed new → g.counts (responder_of old)
    failed_clean (inl unhosted) = same_counts g jg owes old new unhosted.0 counts
    failed_clean (inr hosted) = either_clean hosted.1

    ended_clean : (ended : Outcome) → EndsHosting asked before after from to g jg owes old ended new → g.counts (responder_of old)
    ended_clean outcome.Address it = same_counts g jg owes old new it.1.0 counts
    ended_clean outcome.Good it = hosted_clean _ it.1
    ended_clean (outcome.Register fault) it = hosted_clean _ it.2
    ended_clean outcome.Failed it = failed_clean it
    ended_clean outcome.Usage it = absurd it
    ended_clean outcome.Office it = absurd it
    ended_clean outcome.Refused it = absurd it
    ended_clean (outcome.Lines fault) it = absurd it

-- a server over a ledger, which held these commands before, by the law of what is done; what it holds at the end is held so
module _ {L J : Type 0} (g : ledger.Ghosts L) (j : journal_ledger.Ghosts L J) (law : LedgerStands (answers_of g) (journals_of j) reply_owed) (commands : List Command) (Holds : List Command → Type 0) (old new : Desk (Server L)) (from to : Option (List Deed))
    (stands : IsServerOf g (responder_of old) commands) (counts : g.counts (ledger_of (responder_of new))) (holds : (all : List Command) → IsServerOf g (responder_of new) all → Holds all) where
  keeps_hosted : (end : Option Stopped) → (hosted : HostsBy (answers_of g) (journals_of j) reply_owed end from old to new) → KeepsHosted (answers_of g) (journals_of j) reply_owed commands Holds hosted
  keeps_hosted end hosted may =
      let all = law commands (hosted.works ++ hosted.closing) old new hosted.first hosted.last hosted.goes may counts stands in
      (all.0, all.1, holds (commands ++ all.0) all.3)

  keeps_either : (either : HostsBy (answers_of g) (journals_of j) reply_owed None from old to new ⊎ HostsBy (answers_of g) (journals_of j) reply_owed (Some Asked) from old to new) → KeepsEither (answers_of g) (journals_of j) reply_owed commands Holds either
  keeps_either (inl hosted) = keeps_hosted None hosted
  keeps_either (inr hosted) = keeps_hosted (Some Asked) hosted

  keeps_same : new ≡ old → Holds commands
  keeps_same same = holds commands (subst (λ (d : Desk (Server L)). IsServerOf g (responder_of d) commands) (sym same) stands)

  module _ (asked : SocketAddr) (before after : Option (List ℕ)) where
    keeps_failed : (it : EndsHosting asked before after from to (answers_of g) (journals_of j) reply_owed old outcome.Failed new) → KeepsFailed (answers_of g) (journals_of j) reply_owed commands Holds it
    keeps_failed (inl unhosted) = keeps_same unhosted.0
    keeps_failed (inr hosted) = keeps_either hosted.1

    keeps_after : (ended : Outcome) (it : EndsHosting asked before after from to (answers_of g) (journals_of j) reply_owed old ended new) → KeepsAfter asked before after from to (answers_of g) (journals_of j) reply_owed commands Holds old ended new it
    keeps_after outcome.Address it = keeps_same it.1.0
    keeps_after outcome.Good it = keeps_hosted _ it.1
    keeps_after (outcome.Register fault) it = keeps_hosted _ it.2
    keeps_after outcome.Failed it = keeps_failed it
    keeps_after outcome.Usage it = absurd it
    keeps_after outcome.Office it = absurd it
    keeps_after outcome.Refused it = absurd it
    keeps_after (outcome.Lines fault) it = absurd it

-- the ledger that is given back, if what it stores was refused
module _ {L J : Type 0} (g : ledger.Ghosts L) (j : journal_ledger.Ghosts L J) (lent : L) where
  unhosted_clean : (refused : RegisterFault × L) → IsRefused g lent refused ⊎ IsUnchained g j lent refused → g.counts refused.1 → g.counts lent
  unhosted_clean refused (inl why) counts = refused_clean g lent refused why counts
  unhosted_clean refused (inr it) counts = subst g.counts it.2.same (it.2.reads.reads.clean (it.3.clean (subst g.counts it.4 counts)))

  unchained_stands : FailsBefore g → (refused : RegisterFault × L) → (it : IsUnchained g j lent refused) → g.counts (ledger_of it.1) → (commands : List Command) → g.stands_for lent commands
      → g.stands_for (ledger_of it.1) commands ⊎ IsShut g.lives g.fails lent refused.0 (ledger_of it.1)
  unchained_stands fails_before refused it counts commands stands =
      let reads = it.2.reads.reads in
      let first = it.3.clean counts in
      let still : g.remains lent (ledger_of it.0) = subst (λ (l : L). g.remains l (ledger_of it.0)) it.2.same (reads.still first tt) in
      elim (it.3.unchanged counts commands (reads.kept first commands (it.2.stands commands stands))) [
        | inl here ↦ inl here.ledger
        | inr shut ↦ inr (shut.0, shut.1, fails_before lent (ledger_of it.0) (ledger_of it.1) still shut.2)
      ]

  unhosted_stands : FailsBefore g → (refused : RegisterFault × L) → IsRefused g lent refused ⊎ IsUnchained g j lent refused → g.counts refused.1 → (commands : List Command) → g.stands_for lent commands
      → g.stands_for refused.1 commands ⊎ IsShut g.lives g.fails lent refused.0 refused.1
  unhosted_stands fails_before refused (inl why) counts commands stands = refused_stands g lent refused why counts commands stands
  unhosted_stands fails_before refused (inr it) counts commands stands =
      subst (λ (l : L). g.stands_for l commands ⊎ IsShut g.lives g.fails lent refused.0 l) (sym it.4) (unchained_stands fails_before refused it (subst g.counts it.4 counts) commands stands)

-- the ledger that is given back
module _ {L J : Type 0} (g : ledger.Ghosts L) (j : journal_ledger.Ghosts L J) (asked : SocketAddr) (before after : Option (List ℕ)) (from to : Option (List Deed)) (lent : L) (ended : Outcome × L) where
  pub clean_before : HostsOver asked before after from to g j lent ended → g.counts ended.1 → g.counts lent
  clean_before (inl unread) counts = unhosted_clean g j lent unread.refused unread.why (subst g.counts unread.ends.back counts)
  clean_before (inr hosted) counts =
      let last = subst g.counts hosted.back counts in
      let first = ended_clean (answers_of g) (journals_of j) reply_owed hosted.old hosted.new from to last asked before after ended.0 hosted.hosting in
      ready_clean g lent hosted.old hosted.ready first

  pub keeps : FailsBefore g → LedgerStands (answers_of g) (journals_of j) reply_owed → (hosts : HostsOver asked before after from to g j lent ended) → g.counts ended.1 → (commands : List Command) → g.stands_for lent commands
      → Keeps asked before after from to g j commands lent ended hosts
  keeps fails_before law (inl unread) counts commands stands =
      subst (λ (l : L). g.stands_for l commands ⊎ IsShut g.lives g.fails lent unread.refused.0 l) (sym unread.ends.back)
      (unhosted_stands g j lent fails_before unread.refused unread.why (subst g.counts unread.ends.back counts) commands stands)
  keeps fails_before law (inr hosted) counts commands stands =
      let last = subst g.counts hosted.back counts in
      let first = ended_clean (answers_of g) (journals_of j) reply_owed hosted.old hosted.new from to last asked before after ended.0 hosted.hosting in
      keeps_after g j law commands (g.stands_for ended.1) hosted.old hosted.new from to (ready_stands g lent hosted.old hosted.ready first commands stands) last
      (λ all it. subst (λ (l : L). g.stands_for l all) (sym hosted.back) it.ledger) asked before after ended.0 hosted.hosting
