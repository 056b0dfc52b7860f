-- The chain of the commands is kept beside all that was kept.
use Rattle.std.proofs.Common.{◌≡◌, ◌∙◌, ℕ, None, Ok, Some, subst, sym}
use Rattle.lru.specs.LruCache.{LruCache}
use Rattle.cad_versions.specs.declared.ledger.Ledger.{Ghosts}
use Rattle.cad_versions.specs.declared.journal_ledger.JournalLedger.{Ghosts as JournalGhosts}
use Rattle.cad_commands.specs.declared.chain.Chain.{Chain}
use Rattle.cad_commands.specs.Chains.{chain_of, digest_of}
use Rattle.cad_history.specs.Snapshots.{RevisionFeatures}
use Rattle.cad_server.specs.declared.records.Records.{Records}
use Rattle.cad_server.specs.Keeping.{AreCached, KnowsChain, KnowsHighest, ShowAll, StaysChained}
use Rattle.cad_server.specs.Servers.{ledger_in}
use Rattle.cad_server.specs.Chaining.{KeepsChain, ReadsAll}

module _ {L J : Type 0} (g : Ghosts L) (j : JournalGhosts L J) where
  pub keeps_chain : (old new : Records L) (chain : Chain) → ReadsAll g j (λ commands chain. digest_of chain ≡ chain_of commands) (ledger_in old) (Ok chain) (ledger_in new)
      → StaysChained chain old.kept new.kept → KeepsChain g j old (Ok tt) new
  keeps_chain old new chain read stays = record {
    chained = λ none. some_chain chain (sym stays.chain ∙ none);
    rows = stays.histories;
    cause = λ counts. tt;
    still = read.still;
    kept = λ counts commands records. record {
      ledger = read.kept counts commands records.ledger;
      kept = record {
        histories = subst (ShowAll commands) (sym stays.histories) records.kept.histories;
        totals = record {
          highest = subst (KnowsHighest commands) (sym stays.highest) records.kept.totals.highest;
          chain = subst (KnowsChain commands) (sym stays.chain) (read.given counts commands records.ledger);
        };
        snapshots = subst (λ (cache : LruCache ℕ RevisionFeatures). AreCached commands cache.entries) (sym stays.snapshots) records.kept.snapshots;
      };
    };
    unchanged = λ counts. tt;
    clean = read.clean;
  }
    where
      some_chain : (it : Chain) → ¬ (Some it ≡ None)
      some_chain it e = absurd cc
