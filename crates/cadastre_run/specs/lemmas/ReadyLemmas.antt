-- A server that has started, and a desk over it.
use Rattle.std.proofs.Common.{◌≡◌, ◌⊎◌, ℕ, Bool, List, None, true, false, true≢false, inl, inr, sym, ap, subst}
use Rattle.cad_versions.specs.declared.command.Command.{Command}
use Rattle.cad_versions.specs.declared.fault.RegisterFault.{RegisterFault}
use Rattle.cad_versions.specs.declared.fault.RegisterFault.TheVariants.{KnownObject, UnknownObject, OtherClass, DayNotAfter, Retired, UnknownReference, Full, Damaged, NotARegister, Store, Memory, UnknownRevision}
use Rattle.cad_versions.specs.declared.ledger.Ledger.{Ghosts}
use Rattle.cad_versions.specs.Keeping.{IsShut, MayClose}
use Rattle.cad_desk.specs.declared.desk.Desk.{Desk}
use Rattle.cad_desk.specs.Connections.{rest_at}
use Rattle.cad_desk.specs.Desks.{responder_of, connections_of}
use Rattle.cad_server.specs.declared.server.Server.{Server}
use Rattle.cad_server.specs.Servers.{is_damage, ledger_of, IsServerOf}
use Rattle.cadastre_run.specs.Preparing.{HasStarted, IsDeskReady, IsRefused, StartsWith}

-- a ledger's store is not closed after damage
damage_stays : (fault : RegisterFault) → is_damage fault ≡ true → MayClose fault → ⊥
damage_stays Store e may = true≢false (sym e)
damage_stays Memory e may = true≢false (sym e)
damage_stays (Damaged object number) e may = may
damage_stays KnownObject e may = may
damage_stays UnknownObject e may = may
damage_stays OtherClass e may = may
damage_stays (DayNotAfter day) e may = may
damage_stays Retired e may = may
damage_stays UnknownReference e may = may
damage_stays Full e may = may
damage_stays NotARegister e may = may
damage_stays UnknownRevision e may = may

module _ {L : Type 0} (g : Ghosts L) where
  -- a server that has started stands for the commands that the ledger held: damage changes nothing
  started_stands : (lent : L) (server : Server L) → HasStarted g lent server → g.counts (ledger_of server) → (commands : List Command) → g.stands_for lent commands → IsServerOf g server commands
  started_stands lent server (inl read) counts commands stands = read.reads.reads.kept counts commands (read.stands commands stands)
  started_stands lent server (inr damaged) counts commands stands =
      let read = damaged.read in
      elim (read.reads.reads.unchanged counts commands (read.stands commands stands)) [
        | inl still ↦ still
        | inr shut ↦ absurd (damage_stays damaged.fault damaged.damage shut.0)
      ]

  started_clean : (lent : L) (server : Server L) → HasStarted g lent server → g.counts (ledger_of server) → g.counts lent
  started_clean lent server (inl read) counts = subst g.counts read.same (read.reads.reads.clean counts)
  started_clean lent server (inr damaged) counts = let read = damaged.read in subst g.counts read.same (read.reads.reads.clean counts)

  pub as_started : (is_read : Bool) (lent : L) (server : Server L) → StartsWith g is_read lent server → HasStarted g lent server
  as_started true lent server read = inl read
  as_started false lent server damaged = inr damaged

  -- a desk over a server that has started
  pub desk_ready : (lent : L) (server : Server L) (desk : Desk (Server L)) → HasStarted g lent server → responder_of desk ≡ server → ((c : ℕ) → rest_at (connections_of desk) c ≡ None) → IsDeskReady g lent desk
  desk_ready lent server desk started answers idle = record {
    started = subst (HasStarted g lent) (sym answers) started;
    idle = idle;
  }

  -- it stands for the commands that the ledger held
  pub ready_stands : (lent : L) (desk : Desk (Server L)) → IsDeskReady g lent desk → g.counts (ledger_of (responder_of desk)) → (commands : List Command) → g.stands_for lent commands → IsServerOf g (responder_of desk) commands
  ready_stands lent desk ready counts = started_stands lent (responder_of desk) ready.started counts

  pub ready_clean : (lent : L) (desk : Desk (Server L)) → IsDeskReady g lent desk → g.counts (ledger_of (responder_of desk)) → g.counts lent
  ready_clean lent desk ready counts = started_clean lent (responder_of desk) ready.started counts

  -- what is given back if the server was refused
  pub refused_clean : (lent : L) (refused : RegisterFault × L) → IsRefused g lent refused → g.counts refused.1 → g.counts lent
  refused_clean lent refused (inl same) counts = subst g.counts (ap (λ (r : RegisterFault × L). r.1) same) counts
  refused_clean lent refused (inr it) counts = subst g.counts it.1.same (it.1.reads.reads.clean (subst g.counts it.2 counts))

  pub refused_stands : (lent : L) (refused : RegisterFault × L) → IsRefused g lent refused → g.counts refused.1 → (commands : List Command) → g.stands_for lent commands
      → g.stands_for refused.1 commands ⊎ IsShut g.lives g.fails lent refused.0 refused.1
  refused_stands lent refused (inl same) counts commands stands = inl (subst (λ (r : RegisterFault × L). g.stands_for r.1 commands) (sym same) stands)
  refused_stands lent refused (inr it) counts commands stands =
      let read = it.1 in
      elim (read.reads.reads.unchanged (subst g.counts it.2 counts) commands (read.stands commands stands)) [
        | inl still ↦ inl (subst (λ (l : L). g.stands_for l commands) (sym it.2) still.ledger)
        | inr shut ↦ inr (subst (λ (l : L). IsShut g.lives g.fails lent refused.0 l) (sym it.2) (subst (λ (l : L). IsShut g.lives g.fails l refused.0 (ledger_of it.0)) read.same shut))
      ]
