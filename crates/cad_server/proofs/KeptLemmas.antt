-- What is kept stays right.
use Rattle.std.proofs.Common.{◌≡◌, ◌≤◌, ℕ, Bool, List, [], ◌∷◌, ◌++◌, length, Contains, Option, Some, Result, Ok, Err, IfOk, OnOk, OnErr, sym, subst, inl, inr, arith, nat_eq}
use Rattle.std.proofs.lemmas.Bool.{eqb-true}
use Rattle.std.specs.Option.{IfSome}
use Rattle.std.specs.Result.{result_ok}
use Rattle.std.specs.Map.{lookup}
use Rattle.lru.specs.LruCache.{LruCache, lru_cache, promoted, put_entries}
use Rattle.lru.proofs.CallerLemmas.{Contains-promoted, Contains-put_entries, Contains-lookup}
use Rattle.cad_versions.specs.declared.command.Command.{Command}
use Rattle.cad_versions.specs.declared.fault.RegisterFault.{RegisterFault}
use Rattle.cad_versions.specs.declared.ledger.Ledger.{Ghosts}
use Rattle.cad_versions.specs.LedgerCalls.{Applies, Checks as LedgerChecks}
use Rattle.cad_versions.specs.AsOf.{as_of}
use Rattle.cad_versions.specs.Refusals.{AreAccepted}
use Rattle.cad_history.specs.Histories.{AreAllRowsOf, RegisterRows}
use Rattle.cad_history.specs.Snapshots.{IsSnapshotOf, RevisionFeatures}
use Rattle.cad_server.specs.declared.records.Records.{Records}
use Rattle.cad_server.specs.declared.snapshot_cache.SnapshotCache.{SnapshotCache}
use Rattle.cad_server.specs.declared.totals.Totals.{Totals}
use Rattle.cad_server.specs.Keeping.{AreCached, IsCached, AreTotalsOf, KeepsOf, KeepsOnly, ShowAll, StaysCached, StaysWith, rows_in}
use Rattle.cad_server.specs.Servers.{AreRecordsOf, Checks, Enters}

-- a use changes the order alone
pub kept_promoted : (commands : List Command) (test : ℕ → Bool) (old new : LruCache ℕ RevisionFeatures) → new ≡ lru_cache (promoted test old.entries) old.cap → AreCached commands old.entries → AreCached commands new.entries
kept_promoted commands test old new same all entry among =
    all entry (Contains-promoted test old.entries entry (subst (λ (c : LruCache ℕ RevisionFeatures). Contains c.entries entry) same among))

-- or nothing
none_kept : (commands : List Command) (entries : List (ℕ × RevisionFeatures)) → entries ≡ [] → AreCached commands entries
none_kept commands entries none entry among = let at : Contains {X = ℕ × RevisionFeatures} [] entry = subst (λ es. Contains es entry) none among in absurd (omega (arith, at.1))

kept_under : (commands : List Command) (revision : ℕ) (snapshot : RevisionFeatures) (entry : ℕ × RevisionFeatures) → entry.1 ≡ snapshot → entry.0 ≡ revision → IsCached commands (revision, snapshot) → IsCached commands entry
kept_under commands revision snapshot entry s r kept = record {
  exists = subst (λ n. n ≤ length commands) (sym r) kept.exists;
  snapshot = subst (λ n. IsSnapshotOf n (as_of n commands) entry.1) (sym r) (subst (IsSnapshotOf revision (as_of revision commands)) (sym s) kept.snapshot);
}

put_kept : (commands : List Command) (old : LruCache ℕ RevisionFeatures) (revision : ℕ) (snapshot : RevisionFeatures) → AreCached commands old.entries → IsCached commands (revision, snapshot) → AreCached commands (put_entries nat_eq old revision snapshot)
put_kept commands old revision snapshot all kept entry among = elim (Contains-put_entries nat_eq old revision snapshot entry among) [
  | inl was ↦ all entry was
  | inr put ↦ elim put.1 [
    | inl same ↦ kept_under commands revision snapshot entry put.0 same kept
    | inr found ↦ kept_under commands revision snapshot entry put.0 (sym (eqb-true revision entry.0 found.2)) kept
  ]
]

-- what is put is kept, or nothing changes
pub kept_put : {E : Type 0} (commands : List Command) (old new : LruCache ℕ RevisionFeatures) (revision : ℕ) (snapshot : RevisionFeatures) (result : Result (Option RevisionFeatures) E)
    → OnOk result (new ≡ lru_cache (put_entries nat_eq old revision snapshot) old.cap) → OnErr result (new ≡ old)
    → AreCached commands old.entries → IsCached commands (revision, snapshot) → AreCached commands new.entries
kept_put commands old new revision snapshot (Ok was) put err all kept entry among =
    put_kept commands old revision snapshot all kept entry (subst (λ (c : LruCache ℕ RevisionFeatures). Contains c.entries entry) put among)
kept_put commands old new revision snapshot (Err e) put err all kept entry among =
    all entry (subst (λ (c : LruCache ℕ RevisionFeatures). Contains c.entries entry) err among)

-- what is found under a revision is that of the revision
pub kept_found : (commands : List Command) (entries : List (ℕ × RevisionFeatures)) (revision : ℕ) (snapshot : RevisionFeatures) → AreCached commands entries → lookup (nat_eq revision) entries ≡ Some snapshot → IsCached commands (revision, snapshot)
kept_found commands entries revision snapshot all found =
    let at = Contains-lookup (nat_eq revision) entries snapshot found in
    let r : revision ≡ at.0 = eqb-true revision at.0 at.2 in
    subst (λ n. IsCached commands (n, snapshot)) (sym r) (all (at.0, snapshot) at.1)

-- ---- histories

pub some_of_ok : {A : Type 0} {E : Type 0} (P Q : A → Type 0) (r : Result A E) (o : Option A) → o ≡ result_ok r → ((x : A) → P x → Q x) → IfOk r P → IfSome o Q
some_of_ok P Q (Ok x) o is f h = subst (λ o. IfSome o Q) (sym is) (f x h)
some_of_ok P Q (Err e) o is f h = subst (λ o. IfSome o Q) (sym is) tt

-- what holds of the value
pub ok_of : {A : Type 0} {E : Type 0} (P : A → Type 0) (r : Result A E) (x : A) → Some x ≡ result_ok r → IfOk r P → P x
ok_of P r x is h = some_of_ok P P r (Some x) is (λ y p. p) h

-- the rows that are kept
pub rows_kept : (commands : List Command) (kept : SnapshotCache) (rows : RegisterRows) → Some rows ≡ rows_in kept → KeepsOf commands kept → AreAllRowsOf commands rows
rows_kept commands kept rows is keeps = subst (ShowAll commands) (sym is) keeps.histories

-- rows that show all revisions, and totals, are all that is kept
pub keeps_only : (commands : List Command) (rows : Option RegisterRows) (totals : Totals) (kept : SnapshotCache) → KeepsOnly rows totals kept → ShowAll commands rows → AreTotalsOf commands totals → KeepsOf commands kept
keeps_only commands rows totals kept only shows knows = record {
  histories = subst (ShowAll commands) (sym only.histories) shows;
  totals = subst (AreTotalsOf commands) (sym only.totals) knows;
  snapshots = none_kept commands kept.snapshots.entries only.snapshots;
}

pub stays_kept : (commands : List Command) (old new : SnapshotCache) → StaysCached old new → KeepsOf commands old → KeepsOf commands new
stays_kept commands old new stays all = record {
  histories = subst (ShowAll commands) (sym stays.histories) all.histories;
  totals = subst (AreTotalsOf commands) (sym stays.totals) all.totals;
  snapshots = stays.snapshots commands all.snapshots;
}

pub kept_with : (commands : List Command) (snapshot : RevisionFeatures) (old new : SnapshotCache) → StaysWith snapshot old new → IsCached commands (snapshot.revision, snapshot) → KeepsOf commands old → KeepsOf commands new
kept_with commands snapshot old new stays cached all = record {
  histories = subst (ShowAll commands) (sym stays.histories) all.histories;
  totals = subst (AreTotalsOf commands) (sym stays.totals) all.totals;
  snapshots = stays.snapshots commands cached all.snapshots;
}

-- a command that the ledger enters is entered into the records
module _ {L : Type 0} (g : Ghosts L) where
  -- with the histories that it extends, or none
  pub entered : ((ledger : L) (commands : List Command) → g.stands_for ledger commands → AreAccepted [] commands)
      → (command : Command) (revision : ℕ) (old new : Records L) (rows : Option RegisterRows) (totals : Totals)
      → ((commands : List Command) → AreRecordsOf g old commands → AreAccepted [] (commands ++ command ∷ []) → ShowAll (commands ++ command ∷ []) rows)
      → ((commands : List Command) → AreTotalsOf commands old.kept.totals → AreTotalsOf (commands ++ command ∷ []) totals)
      → KeepsOnly rows totals new.kept → Applies g old.ledger command (Ok revision) new.ledger → Enters g old command (Ok revision) new
  entered were_accepted command revision old new rows totals follows knows only a = record {
    accepted = λ counts commands records.
        let t = a.accepted counts commands records.ledger in
        let all = commands ++ command ∷ [] in
        (t.0, t.1, record { ledger = t.2; kept = keeps_only all rows totals new.kept only (follows commands records (were_accepted new.ledger all t.2)) (knows commands records.kept.totals) });
    refused = λ counts. tt;
    store = λ counts e commands records. a.store counts e commands records.ledger;
    damaged = tt;
    unchanged = λ counts. tt;
    clean = a.clean;
  }

  pub refused : (command : Command) (fault : RegisterFault) (old new : Records L) → new.kept ≡ old.kept → Applies g old.ledger command (Err fault) new.ledger → Enters g old command (Err fault) new
  refused command fault old new same a = record {
    accepted = λ counts. tt;
    refused = λ counts commands records. a.refused counts commands records.ledger;
    store = λ counts e commands records. a.store counts e commands records.ledger;
    damaged = a.damaged;
    unchanged = λ counts commands records. elim (a.unchanged counts commands records.ledger) [
      | inl still ↦ inl (record { ledger = still; kept = subst (KeepsOf commands) (sym same) records.kept })
      | inr shut ↦ inr shut
    ];
    clean = a.clean;
  }

  -- a command that the ledger checks is checked by the records
  pub checked : (command : Command) (result : Result ℕ RegisterFault) (old new : Records L) → new.kept ≡ old.kept
      → LedgerChecks g old.ledger command result new.ledger
      → Checks g old command result new
  checked command (Ok revision) old new same k = record {
    accepted = λ counts commands records. k.accepted counts commands records.ledger;
    refused = λ counts. tt;
    store = λ counts e commands records. k.store counts e commands records.ledger;
    damaged = tt;
    still = λ counts commands records. k.still counts commands records.ledger;
    kept = λ counts commands records. record { ledger = k.kept counts commands records.ledger; kept = subst (KeepsOf commands) (sym same) records.kept };
    unchanged = λ counts. tt;
    clean = k.clean;
  }
  checked command (Err fault) old new same k = record {
    accepted = λ counts. tt;
    refused = λ counts commands records. k.refused counts commands records.ledger;
    store = λ counts e commands records. k.store counts e commands records.ledger;
    damaged = k.damaged;
    still = λ counts. tt;
    kept = λ counts. tt;
    unchanged = λ counts commands records. elim (k.unchanged counts commands records.ledger) [
      | inl still ↦ inl (record { ledger = still; kept = subst (KeepsOf commands) (sym same) records.kept })
      | inr shut ↦ inr shut
    ];
    clean = k.clean;
  }
