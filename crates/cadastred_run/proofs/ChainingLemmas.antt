-- A server that keeps the chain of its commands has read what its ledger stores.
use Rattle.std.proofs.Common.{◌≡◌, ◌⊎◌, ◌∙◌, Bool, true, Ok, inl, inr, sym}
use Rattle.cad_versions.specs.declared.ledger.Ledger.{Ghosts}
use Rattle.cad_versions.specs.declared.journal_ledger.JournalLedger.{Ghosts as JournalGhosts}
use Rattle.cad_server.specs.declared.server.Server.{Server}
use Rattle.cad_server.specs.Servers.{ledger_of}
use Rattle.cad_server.specs.Chaining.{HasChain, ServerKeepsChain}
use Rattle.cadastre_run.specs.Preparing.{HasRead, HasStarted, IsDamaged}

module _ {L J : Type 0} (g : Ghosts L) (j : JournalGhosts L J) where
  pub read_and_chained : ((old mid new : L) → g.remains old mid → g.remains mid new → g.remains old new)
      → (lent : L) (read server : Server L) → HasRead g lent (Ok tt) read → ServerKeepsChain g j read (Ok tt) server → HasRead g lent (Ok tt) server
  read_and_chained remains_then lent read server has keeps = record {
    new = has.new;
    stands = has.stands;
    same = has.same;
    reads = record {
      ready = λ none. has.reads.ready (sym keeps.rows ∙ none);
      sound = has.reads.sound;
      noted = tt;
      cause = λ counts. tt;
      reads = record {
        store = λ counts. tt;
        damaged = tt;
        still = λ counts answered. remains_then (ledger_of has.new) (ledger_of read) (ledger_of server) (has.reads.reads.still (keeps.clean counts) tt) (keeps.still counts);
        kept = λ counts commands stands. keeps.kept counts commands (has.reads.reads.kept (keeps.clean counts) commands stands);
        unchanged = λ counts. tt;
        clean = λ counts. has.reads.reads.clean (keeps.clean counts);
      };
    };
  }

-- with a chain or without, it has started
pub chained_started : {L : Type 0} (g : Ghosts L) (chains : Bool) (lent : L) (server : Server L) → (HasRead g lent (Ok tt) server × (chains ≡ true → HasChain server)) ⊎ IsDamaged g lent server → HasStarted g lent server
chained_started g chains lent server (inl read) = inl read.0
chained_started g chains lent server (inr damaged) = inr damaged
