-- What the calls of records and servers do, from what the calls inside them do.
use Rattle.std.proofs.Common.{◌≡◌, ◌≤◌, ◌⊎◌, inl, inr, ℕ, ℤ, Bool, List, [], length, map, Option, Some, None, Result, Ok, Err, refl, sym, ap, ap₂, ◌∙◌, subst, arith, true, false, true≢false}
use Rattle.std.specs.Prelude.{codes, if◌then◌else◌, Vec}
use Rattle.std.proofs.lemmas.Bool.{cond_above, cond_below}
use Rattle.std.specs.Global.{Global}
use Rattle.cad_versions.specs.declared.command.Command.{Command}
use Rattle.cad_versions.specs.declared.fault.RegisterFault.{RegisterFault}
use Rattle.cad_versions.specs.declared.fault.RegisterFault.TheVariants.{Damaged, Store, Memory}
use Rattle.cad_versions.specs.Keeping.{IsOfTheRegister, IsShut, NamesDamage}
use Rattle.cad_stream.specs.lemmas.KeepingLemmas.{names_by, shut_by}
use Rattle.cad_versions.specs.declared.ledger.Ledger.{Ghosts}
use Rattle.cad_versions.specs.AsOf.{all_entries, as_of}
use Rattle.cad_versions.specs.Entries.{Entry, version_in}
use Rattle.cad_versions.specs.Ledgers.{Listed}
use Rattle.cad_versions.specs.VersionedObject.{VersionedObject}
use Rattle.cad_versions.specs.Refusals.{AreAccepted}
use Rattle.cad_history.specs.Histories.{AreAllRowsOf, RegisterRows}
use Rattle.cad_history.specs.Snapshots.{IsSnapshotOf, RevisionFeatures}
use Rattle.cad_head.specs.Request.{Request}
use Rattle.cad_resource.specs.Requested.{requested, ends_after}
use Rattle.cad_head.specs.declared.status.Status.TheVariants as status
use Rattle.cad_head.specs.Replies.{reply_text}
use Rattle.cad_stream.specs.Summaries.{highest_object}
use Rattle.cad_stream.specs.declared.answer.Answer.{Answer}
use Rattle.cad_stream.specs.declared.working_responder.Begun.{Begun}
use Rattle.cad_stream.specs.Beginning.{told_begun, ends_begun}
use Rattle.cad_stream.specs.Replies.{IsPlainReply}
use Rattle.cad_request.specs.declared.request.ParsedRequest.{ParsedRequest}
use Rattle.cad_request.specs.ParsedRequests.{IsParsedRequest}
use Rattle.cad_server.specs.declared.records.Records.{Records}
use Rattle.cad_server.specs.declared.server.Server.{Server}
use Rattle.cad_request.specs.declared.feature_request.FeatureRequest.{FeatureRequest}
use Rattle.cad_server.specs.declared.page_work.PageWork.{PageWork}
use Rattle.cad_server.specs.declared.located.Located.{Located}
use Rattle.cad_server.specs.Contents.{content_found, content_in, content_of, content_requested, content_located, refusal, revision_sought, snapshot_at}
use Rattle.cad_server.specs.inner.Beginnings.{IsAnsweredAs, IsBegun}
use Rattle.cad_server.specs.Turns.{earlier_damage}
use Rattle.cad_server.specs.Works.{reply_owed}
use Rattle.cad_server.specs.Replies.{reply_of, IsReply, Asks}
use Rattle.cad_server.specs.declared.snapshot_cache.SnapshotCache.{SnapshotCache}
use Rattle.cad_server.specs.declared.totals.Totals.{Totals}
use Rattle.cad_server.specs.Keeping.{AreTotalsOf, IsCached, KeepsOf, KeepsOnly, StaysCached, StaysWith, cached_at, rows_in}
use Rattle.cad_server.specs.Servers.{is_damage, ledger_in, ledger_of, AreRecordsOf, IsServerOf, RefusesToRead, RefusesToAnswer, DamagedForReading, DamagedForTelling, DamagedForAnswer, ShowsDamage, HasDamage, ListsRows, ListsInTurn, ListsSnapshot, MakesFrom, revision_of, IsFoundFor, MakesSnapshot, Prepares, Reads, ReadsFor, Recalls, Finds, Seeks, TellsSought, Tells}
use Rattle.cad_server.proofs.ContentLemmas.{content_at}
use Rattle.cad_server.proofs.HighestLemmas.{highest_stored}
use Rattle.cad_server.proofs.TurnLemmas.{none_earlier, not_earlier}
use Rattle.cad_server.proofs.KeptLemmas.{keeps_only, kept_found, kept_with, stays_kept}

module _ {L : Type 0} (g : Ghosts L) where
  -- the ledger remains what it was, where nothing was listed
  abbrev pub RemainsHere : Type 0
  RemainsHere = (ledger : L) → g.remains ledger ledger

  remains_same : RemainsHere → (old new : Records L) → ledger_in new ≡ ledger_in old → g.remains (ledger_in old) (ledger_in new)
  remains_same here old new same = subst (λ (l : L). g.remains (ledger_in old) l) (sym same) (here (ledger_in old))

  -- ---- what is kept

  stays : (kept : SnapshotCache) → StaysCached kept kept
  stays kept = record { histories = refl; totals = refl; snapshots = λ commands all. all }

  pub recalls_none : {E : Type 0} (revision : ℕ) (old : Records L) → cached_at revision old.kept ≡ None → Recalls g {E = E} revision old (Ok None) old
  recalls_none revision old none = record {
    snapshot = tt;
    none = λ e. none;
    same = refl;
    damaged = refl;
    kept = stays old.kept;
  }

  pub recalls_nothing : {E : Type 0} (revision : ℕ) (old : Records L) (fault : E) (given : Result (Option RevisionFeatures) E) → given ≡ Err fault → Recalls g {E = E} revision old given old
  recalls_nothing {E} revision old fault given e = subst (λ (r : Result (Option RevisionFeatures) E). Recalls g revision old r old) (sym e) (record {
    snapshot = tt;
    none = tt;
    same = refl;
    damaged = refl;
    kept = stays old.kept;
  })

  some_not_none : (snapshot : RevisionFeatures) → ¬ (Some snapshot ≡ None)
  some_not_none snapshot e = absurd cc

  pub recalls_some : {E : Type 0} (revision : ℕ) (old new : Records L) (snapshot shared : RevisionFeatures) → ledger_in new ≡ ledger_in old → new.is_damaged ≡ old.is_damaged
      → StaysCached old.kept new.kept → Some snapshot ≡ cached_at revision old.kept → shared ≡ snapshot → Recalls g {E = E} revision old (Ok (Some shared)) new
  recalls_some revision old new snapshot shared same damaged kept found is = record {
    snapshot = λ commands all.
        subst (IsSnapshotOf revision (as_of revision commands)) (sym is) (kept_found commands old.kept.snapshots.entries revision snapshot all.snapshots (sym found)).snapshot;
    none = λ e. absurd (some_not_none shared e);
    same = same;
    damaged = damaged;
    kept = kept;
  }

  -- ---- what is read

  -- want of memory names no row
  memory_names_none : (P : ℤ → ℤ → Type 0) (fault : RegisterFault) → fault ≡ Memory → NamesDamage P fault
  memory_names_none P fault m = subst (NamesDamage P) (sym m) tt

  not_store : (fault : RegisterFault) → fault ≡ Memory → ¬ (fault ≡ Store)
  not_store fault m s = absurd (let e : Memory ≡ Store = sym m ∙ s in cc)

  no_damage : (fault : RegisterFault) → fault ≡ Memory → ¬ (is_damage fault ≡ true)
  no_damage fault m damage = absurd (true≢false (sym damage ∙ ap is_damage m))

  not_answered : (fault : RegisterFault) → fault ≡ Memory → ¬ IsOfTheRegister fault
  not_answered fault m own = absurd (subst IsOfTheRegister m own)

  -- want of memory, where the ledger stands for the same commands
  ran_out : {T : Type 0} (Refused : Type 0) (IsDamaged : ℤ → ℤ → Type 0) (old new : Records L) (fault : RegisterFault) → fault ≡ Memory
      → (g.counts (ledger_in new) → (commands : List Command) → AreRecordsOf g old commands → AreRecordsOf g new commands)
      → (g.counts (ledger_in new) → g.counts (ledger_in old)) → Reads g {T = T} Refused IsDamaged old (Err fault) new
  ran_out Refused IsDamaged old new fault m kept clean = record {
    store = λ counts s. absurd (not_store fault m s);
    damaged = memory_names_none IsDamaged fault m;
    still = λ counts answered. absurd (not_answered fault m answered);
    kept = λ counts. tt;
    unchanged = λ counts commands records. inl (kept counts commands records);
    clean = clean;
  }

  -- what was read is read, whatever would be refused
  as_read : {T U : Type 0} (Refused Other : Type 0) (IsDamaged OtherDamaged : ℤ → ℤ → Type 0) (old new : Records L) (t : T) (u : U) → Reads g Refused IsDamaged old (Ok t) new → Reads g Other OtherDamaged old (Ok u) new
  as_read Refused Other IsDamaged OtherDamaged old new t u reads = record {
    store = λ counts. tt;
    damaged = tt;
    still = reads.still;
    kept = reads.kept;
    unchanged = λ counts. tt;
    clean = reads.clean;
  }

  -- and what was refused is refused, whatever would be given
  as_refused : {T U : Type 0} (Refused : Type 0) (IsDamaged : ℤ → ℤ → Type 0) (old new : Records L) (fault : RegisterFault) → Reads g {T = T} Refused IsDamaged old (Err fault) new → Reads g {T = U} Refused IsDamaged old (Err fault) new
  as_refused Refused IsDamaged old new fault reads = record {
    store = reads.store;
    damaged = reads.damaged;
    still = reads.still;
    kept = λ counts. tt;
    unchanged = reads.unchanged;
    clean = reads.clean;
  }

  pub already : RemainsHere → (records : Records L) → ¬ (rows_in records.kept ≡ None) → Prepares g records (Ok tt) records
  already here records some = record {
    ready = some;
    sound = λ none. absurd (some none);
    noted = tt;
    cause = λ counts. tt;
    reads = record {
      store = λ counts. tt;
      damaged = tt;
      still = λ counts answered. here (ledger_in records);
      kept = λ counts commands all. all;
      unchanged = λ counts. tt;
      clean = λ counts. counts;
    };
  }

  -- the listing itself
  pub in_turn_refused : (old new : L) (fault : RegisterFault) (given : Result (Vec Entry Global) RegisterFault) → given ≡ Err fault → ListsRows g old (Err fault) new → ListsInTurn g old given new
  in_turn_refused old new fault given e refused = subst (λ (given : Result (Vec Entry Global) RegisterFault). ListsInTurn g old given new) (sym e) (record { listed = tt; refused = inl refused })

  pub in_turn_named : (old new : L) (found : Vec Entry Global) (fault : RegisterFault) → ListsRows g old (Ok found) new → earlier_damage found.items ≡ Some fault → ListsInTurn g old (Err fault) new
  in_turn_named old new found fault listed named = record { listed = tt; refused = inr (found, listed, named) }

  refused_by : (old new : Records L) (fault : RegisterFault) → new.kept ≡ old.kept → ListsRows g (ledger_in old) (Err fault) (ledger_in new) → (is_damage fault ≡ true → new.is_damaged ≡ true) → Prepares g old (Err fault) new
  refused_by old new fault same listed noted = record {
    ready = tt;
    sound = tt;
    noted = noted;
    cause = λ counts commands records. inr (listed.cause counts commands records.ledger);
    reads = record {
      store = λ counts s. listed.store counts (ap Err s);
      damaged = names_by (g.damaged_for_listing (ledger_in old) (ledger_in new) (g.newest (ledger_in old))) (ShowsDamage g (ledger_in old) (ledger_in new)) (λ object number named. inl named) fault listed.damaged;
      still = listed.still;
      kept = λ counts. tt;
      unchanged = λ counts commands records. elim (listed.unchanged counts commands records.ledger) [
        | inl still ↦ inl (record { ledger = still; kept = subst (KeepsOf commands) (sym same) records.kept })
        | inr shut ↦ inr shut
      ];
      clean = listed.clean;
    };
  }

  -- a row that only an earlier revision shows as damaged
  earlier_named : ((ledger : L) (commands : List Command) → g.stands_for ledger commands → AreAccepted [] commands)
      → (old new : Records L) (found : Vec Entry Global) (fault : RegisterFault) → new.kept ≡ old.kept → ListsRows g (ledger_in old) (Ok found) (ledger_in new) → earlier_damage found.items ≡ Some fault
      → (is_damage fault ≡ true → new.is_damaged ≡ true) → Prepares g old (Err fault) new
  earlier_named were_accepted old new found fault same listed damaged noted = record {
    ready = tt;
    sound = tt;
    noted = noted;
    cause = λ counts commands records.
        absurd (none_given fault (sym damaged ∙ ap earlier_damage (listed.shown counts commands records.ledger) ∙ none_earlier commands (were_accepted (ledger_in old) commands records.ledger)));
    reads = record {
      store = λ counts s. absurd (not_earlier fault found.items s damaged);
      damaged = names_it fault damaged;
      still = λ counts answered. listed.still counts tt;
      kept = λ counts. tt;
      unchanged = λ counts commands records. inl (record { ledger = listed.same counts commands records.ledger; kept = subst (KeepsOf commands) (sym same) records.kept });
      clean = listed.clean;
    };
  }
    where
      none_given : (fault : RegisterFault) → ¬ (Some fault ≡ None)
      none_given fault e = absurd cc

      names_it : (fault : RegisterFault) → earlier_damage found.items ≡ Some fault → NamesDamage (ShowsDamage g (ledger_in old) (ledger_in new)) fault
      names_it (Damaged object number) e = inr (found, listed, e)
      names_it fault e = tt

  pub not_listed : ((ledger : L) (commands : List Command) → g.stands_for ledger commands → AreAccepted [] commands)
      → (old new : Records L) (fault : RegisterFault) (given : Result (Unit {0}) RegisterFault) → given ≡ Err fault → new.kept ≡ old.kept → ListsInTurn g (ledger_in old) (Err fault) (ledger_in new)
      → (is_damage fault ≡ true → new.is_damaged ≡ true) → Prepares g old given new
  not_listed were_accepted old new fault given e same listed noted = subst (λ (given : Result (Unit {0}) RegisterFault). Prepares g old given new) (sym e) (elim listed.refused [
    | inl refused ↦ refused_by old new fault same refused noted
    | inr found ↦ earlier_named were_accepted old new found.0 fault same found.1 found.2 noted
  ])

  -- there was no memory for what was listed
  pub nothing_made : (old new : Records L) (entries : Vec Entry Global) (fault : RegisterFault) (given : Result (Unit {0}) RegisterFault) → given ≡ Err fault → fault ≡ Memory → new.kept ≡ old.kept
      → ListsInTurn g (ledger_in old) (Ok entries) (ledger_in new) → Prepares g old given new
  nothing_made old new entries fault given e m same lists = let listed = lists.listed.0 in subst (λ (given : Result (Unit {0}) RegisterFault). Prepares g old given new) (sym e) (record {
    ready = tt;
    sound = tt;
    noted = λ damage. absurd (no_damage fault m damage);
    cause = λ counts commands records. inl m;
    reads = ran_out (g.refuses_listing (ledger_in old) (ledger_in new) (g.newest (ledger_in old))) (ShowsDamage g (ledger_in old) (ledger_in new)) old new fault m
        (λ counts commands records. record { ledger = listed.same counts commands records.ledger; kept = subst (KeepsOf commands) (sym same) records.kept }) listed.clean;
  })

  pub all_made : ((ledger : L) (commands : List Command) → g.stands_for ledger commands → AreAccepted [] commands)
      → (old new : Records L) (entries : Vec Entry Global) (newest : ℕ) (rows : RegisterRows) (totals : Totals) → ((commands : List Command) → g.stands_for (ledger_in old) commands → newest ≡ length commands)
      → ListsInTurn g (ledger_in old) (Ok entries) (ledger_in new)
      → ((commands : List Command) → AreAccepted [] commands → entries.items ≡ all_entries commands → newest ≡ length commands → AreAllRowsOf commands rows)
      → totals ≡ record { highest_object = Some (highest_object (map version_in entries.items)); chain = old.kept.totals.chain }
      → KeepsOnly (Some rows) totals new.kept → Prepares g old (Ok tt) new
  all_made were_accepted old new entries newest rows totals counted lists follows is only = let listed = lists.listed.0 in record {
    ready = λ none. some_rows rows (sym only.histories ∙ none);
    sound = λ none. (ledger_in new, entries, lists.listed.0, lists.listed.1);
    noted = tt;
    cause = λ counts. tt;
    reads = record {
      store = λ counts. tt;
      damaged = tt;
      still = listed.still;
      kept = λ counts commands records. record {
        ledger = listed.same counts commands records.ledger;
        kept = keeps_only commands (Some rows) totals new.kept only
            (follows commands (were_accepted (ledger_in old) commands records.ledger) (listed.shown counts commands records.ledger) (counted commands records.ledger))
            (subst (AreTotalsOf commands) (sym is) (record {
              highest = ap (λ es. highest_object (map version_in es)) (listed.shown counts commands records.ledger) ∙ highest_stored commands;
              chain = records.kept.totals.chain;
            }));
      };
      unchanged = λ counts. tt;
      clean = listed.clean;
    };
  }
    where
      some_rows : (x : RegisterRows) → ¬ (Some x ≡ None)
      some_rows x e = absurd cc

  -- ---- what a snapshot is made of

  -- the snapshot is that of the revision with what is kept
  abbrev pub ShowsKept : ℕ → Records L → RevisionFeatures → Type 0
  ShowsKept revision records snapshot =
      (commands : List Command) → KeepsOf commands records.kept → revision ≤ length commands → IsSnapshotOf revision (as_of revision commands) snapshot

  made_over : (revision : ℕ) (old new : Records L) (snapshot : RevisionFeatures) → ReadsFor g revision old (Ok snapshot) new → snapshot.revision ≡ revision → ShowsKept revision new snapshot
      → MakesSnapshot g revision old (Ok snapshot) new
  made_over revision old new snapshot reads number shows = record {
    number = number;
    snapshot = λ counts commands records. shows commands (reads.kept counts commands records).kept;
    cause = λ counts. tt;
    reads = reads;
  }

  none_over : (Refused : Type 0) (IsDamaged : ℤ → ℤ → Type 0) (revision : ℕ) (old new : Records L) (fault : RegisterFault) (given : Result RevisionFeatures RegisterFault) → given ≡ Err fault → fault ≡ Memory
      → (g.counts (ledger_in new) → (commands : List Command) → AreRecordsOf g old commands → AreRecordsOf g new commands)
      → (g.counts (ledger_in new) → g.counts (ledger_in old)) → MakesFrom g Refused IsDamaged revision old given new
  none_over Refused IsDamaged revision old new fault given e m kept clean = subst (λ (given : Result RevisionFeatures RegisterFault). MakesFrom g Refused IsDamaged revision old given new) (sym e) (record {
    number = tt;
    snapshot = λ counts. tt;
    cause = λ counts commands records within. inl m;
    reads = ran_out Refused IsDamaged old new fault m kept clean;
  })

  -- for what was prepared
  prepared_reads : (revision : ℕ) (old new : Records L) (snapshot : RevisionFeatures) → Prepares g old (Ok tt) new → ReadsFor g revision old (Ok snapshot) new
  prepared_reads revision old new snapshot p =
      as_read (g.refuses_listing (ledger_in old) (ledger_in new) (g.newest (ledger_in old))) (RefusesToRead g revision old new) (ShowsDamage g (ledger_in old) (ledger_in new)) (DamagedForReading g revision old new) old new tt snapshot p.reads

  -- of what is kept
  pub held_made : RemainsHere → (revision : ℕ) (records : Records L) (snapshot : RevisionFeatures) → ¬ (rows_in records.kept ≡ None) → snapshot.revision ≡ revision → ShowsKept revision records snapshot
      → MakesSnapshot g revision records (Ok snapshot) records
  held_made here revision records snapshot some = made_over revision records records snapshot (prepared_reads revision records records snapshot (already here records some))

  pub none_held : (revision : ℕ) (records : Records L) (fault : RegisterFault) (given : Result RevisionFeatures RegisterFault) → given ≡ Err fault → fault ≡ Memory → MakesSnapshot g revision records given records
  none_held revision records fault given e m = none_over (RefusesToRead g revision records records) (DamagedForReading g revision records records) revision records records fault given e m (λ counts commands all. all) (λ counts. counts)

  -- of all that the ledger stores
  names_no_other : (P : ℤ → ℤ → Type 0) (fault : RegisterFault) → is_damage fault ≡ false → NamesDamage P fault
  names_no_other P (Damaged object number) e = absurd (true≢false e)
  names_no_other P fault e = tt

  pub not_read : (revision : ℕ) (old new : Records L) (fault : RegisterFault) → old.is_damaged ≡ false → is_damage fault ≡ false → Prepares g old (Err fault) new
      → MakesSnapshot g revision old (Err fault) new
  not_read revision old new fault undamaged other p = record {
    number = tt;
    snapshot = λ counts. tt;
    cause = λ counts commands records within. elim (p.cause counts commands records) [
      | inl m ↦ inl m
      | inr f ↦ inr (inl f)
    ];
    reads = record {
      store = λ counts s. inl (undamaged, p.reads.store counts s);
      damaged = names_no_other (DamagedForReading g revision old new) fault other;
      still = p.reads.still;
      kept = λ counts. tt;
      unchanged = p.reads.unchanged;
      clean = p.reads.clean;
    };
  }

  pub none_made : (revision : ℕ) (old new : Records L) (fault : RegisterFault) (given : Result RevisionFeatures RegisterFault) → given ≡ Err fault → fault ≡ Memory → Prepares g old (Ok tt) new
      → MakesSnapshot g revision old given new
  none_made revision old new fault given e m p = none_over (RefusesToRead g revision old new) (DamagedForReading g revision old new) revision old new fault given e m p.reads.kept p.reads.clean

  pub read_made : (revision : ℕ) (old new : Records L) (snapshot : RevisionFeatures) → Prepares g old (Ok tt) new → snapshot.revision ≡ revision → ShowsKept revision new snapshot
      → MakesSnapshot g revision old (Ok snapshot) new
  read_made revision old new snapshot p = made_over revision old new snapshot (prepared_reads revision old new snapshot p)

  -- of the rows of the revision
  abbrev pub ListsAt : ℕ → L → Result (Vec VersionedObject Global) RegisterFault → L → Type 0
  ListsAt revision old = Listed g.stands_for g.counts g.lives g.fails g.fails_to_list g.refuses_listing g.damaged_for_listing g.remains old revision

  pub not_listed_at : (revision : ℕ) (old new : Records L) (fault : RegisterFault) (given : Result RevisionFeatures RegisterFault) → given ≡ Err fault → new.kept ≡ old.kept
      → ListsAt revision (ledger_in old) (Err fault) (ledger_in new) → ListsSnapshot g revision old given new
  not_listed_at revision old new fault given e same listed = subst (λ (given : Result RevisionFeatures RegisterFault). ListsSnapshot g revision old given new) (sym e) (record {
    number = tt;
    snapshot = λ counts. tt;
    cause = λ counts commands records within. elim (listed.cause counts commands records.ledger) [
      | inl unknown ↦ absurd (omega (arith, unknown.0, within))
      | inr f ↦ inr (inr f.1)
    ];
    reads = record {
      store = λ counts s. listed.store counts (ap Err s);
      damaged = listed.damaged;
      still = listed.still;
      kept = λ counts. tt;
      unchanged = λ counts commands records. elim (listed.unchanged counts commands records.ledger) [
        | inl still ↦ inl (record { ledger = still; kept = subst (KeepsOf commands) (sym same) records.kept })
        | inr shut ↦ inr shut
      ];
      clean = listed.clean;
    };
  })

  list_kept : (revision : ℕ) (old new : Records L) (found : Vec VersionedObject Global) → new.kept ≡ old.kept → ListsAt revision (ledger_in old) (Ok found) (ledger_in new)
      → g.counts (ledger_in new) → (commands : List Command) → AreRecordsOf g old commands → AreRecordsOf g new commands
  list_kept revision old new found same listed counts commands records =
      record { ledger = listed.kept counts commands records.ledger; kept = subst (KeepsOf commands) (sym same) records.kept }

  pub none_listed : (revision : ℕ) (old new : Records L) (found : Vec VersionedObject Global) (fault : RegisterFault) (given : Result RevisionFeatures RegisterFault) → given ≡ Err fault → fault ≡ Memory
      → new.kept ≡ old.kept → ListsAt revision (ledger_in old) (Ok found) (ledger_in new) → ListsSnapshot g revision old given new
  none_listed revision old new found fault given e m same listed =
      none_over (g.refuses_listing (ledger_in old) (ledger_in new) revision) (g.damaged_for_listing (ledger_in old) (ledger_in new) revision) revision old new fault given e m (list_kept revision old new found same listed) listed.clean

  pub list_made : (revision : ℕ) (old new : Records L) (found : Vec VersionedObject Global) (snapshot : RevisionFeatures) → new.kept ≡ old.kept → ListsAt revision (ledger_in old) (Ok found) (ledger_in new)
      → IsSnapshotOf revision found.items snapshot → ListsSnapshot g revision old (Ok snapshot) new
  list_made revision old new found snapshot same listed is = record {
    number = is.of_revision;
    snapshot = λ counts commands records within.
        subst (λ versions. IsSnapshotOf revision versions snapshot) (listed.shown counts commands records.ledger).1 is;
    cause = λ counts. tt;
    reads = record {
      store = λ counts. tt;
      damaged = tt;
      still = listed.still;
      kept = list_kept revision old new found same listed;
      unchanged = λ counts. tt;
      clean = listed.clean;
    };
  }

  -- ---- of the rows of the revision, since a row is damaged

  -- the ledger had come to this moment, with damage, and had remained what it was
  record ComesTo (old mid : Records L) : Type 0 where
    damaged : HasDamage g old.is_damaged (ledger_in old) (ledger_in mid)
    remained : g.counts (ledger_in mid) → g.remains (ledger_in old) (ledger_in mid)
    kept : g.counts (ledger_in mid) → (commands : List Command) → AreRecordsOf g old commands → AreRecordsOf g mid commands
    clean : g.counts (ledger_in mid) → g.counts (ledger_in old)

  module _ (remains_then : (old mid new : L) → g.remains old mid → g.remains mid new → g.remains old new)
      (fails_before : (old mid new : L) → g.remains old mid → g.fails mid new → g.fails old new) where
    from_list : (revision : ℕ) (old mid new : Records L) (result : Result RevisionFeatures RegisterFault) → ComesTo old mid → ListsSnapshot g revision mid result new → MakesSnapshot g revision old result new
    from_list revision old mid new (Ok snapshot) comes m = record {
      number = m.number;
      snapshot = λ counts commands records. m.snapshot counts commands (comes.kept (m.reads.clean counts) commands records);
      cause = λ counts. tt;
      reads = record {
        store = λ counts. tt;
        damaged = tt;
        still = λ counts answered. remains_then (ledger_in old) (ledger_in mid) (ledger_in new) (comes.remained (m.reads.clean counts)) (m.reads.still counts answered);
        kept = λ counts commands records. m.reads.kept counts commands (comes.kept (m.reads.clean counts) commands records);
        unchanged = λ counts. tt;
        clean = λ counts. comes.clean (m.reads.clean counts);
      };
    }
    from_list revision old mid new (Err why) comes m = record {
      number = tt;
      snapshot = λ counts. tt;
      cause = λ counts commands records. m.cause counts commands (comes.kept (m.reads.clean counts) commands records);
      reads = record {
        store = λ counts s. inr (ledger_in mid, comes.damaged, comes.remained (m.reads.clean counts), m.reads.store counts s);
        damaged = names_by (g.damaged_for_listing (ledger_in mid) (ledger_in new) revision) (DamagedForReading g revision old new)
            (λ object number named. (ledger_in mid, comes.damaged, λ counts. comes.remained (m.reads.clean counts), named)) why m.reads.damaged;
        still = λ counts answered. remains_then (ledger_in old) (ledger_in mid) (ledger_in new) (comes.remained (m.reads.clean counts)) (m.reads.still counts answered);
        kept = λ counts. tt;
        unchanged = λ counts commands records.
            shut_by g.lives g.fails (ledger_in old) (ledger_in mid) (ledger_in new) why (AreRecordsOf g new commands) (fails_before (ledger_in old) (ledger_in mid) (ledger_in new) (comes.remained (m.reads.clean counts)))
            (m.reads.unchanged counts commands (comes.kept (m.reads.clean counts) commands records));
        clean = λ counts. comes.clean (m.reads.clean counts);
      };
    }

    -- damage was noted
    pub listed_alone : RemainsHere → (revision : ℕ) (old new : Records L) (result : Result RevisionFeatures RegisterFault) → old.is_damaged ≡ true → ListsSnapshot g revision old result new → MakesSnapshot g revision old result new
    listed_alone here revision old new result noted =
        from_list revision old old new result (record { damaged = inl noted; remained = λ counts. here (ledger_in old); kept = λ counts commands records. records; clean = λ counts. counts })

    -- the ledger has shown damage
    pub listed_after : (revision : ℕ) (old mid new : Records L) (fault : RegisterFault) (result : Result RevisionFeatures RegisterFault) → is_damage fault ≡ true → Prepares g old (Err fault) mid → ListsSnapshot g revision mid result new
        → MakesSnapshot g revision old result new
    listed_after revision old mid new (Damaged object number) result damage p = from_list revision old mid new result (record {
      damaged = inr (object, number, p.reads.damaged);
      remained = λ counts. p.reads.still counts tt;
      kept = λ counts commands records. elim (p.reads.unchanged counts commands records) [ inl kept ↦ kept | inr shut ↦ absurd shut.0 ];
      clean = p.reads.clean;
    })
    listed_after revision old mid new fault result damage p = absurd (true≢false (sym damage))

  -- ---- what is found

  -- the revision exists
  abbrev pub Exists : ℕ → Records L → Type 0
  Exists revision records = (commands : List Command) → g.stands_for (ledger_in records) commands → revision ≤ length commands

  moved : (old new : Records L) → ledger_in new ≡ ledger_in old → StaysCached old.kept new.kept
      → (commands : List Command) → AreRecordsOf g old commands → AreRecordsOf g new commands
  moved old new same kept commands records = record {
    ledger = subst (λ (l : L). g.stands_for l commands) (sym same) records.ledger;
    kept = stays_kept commands old.kept new.kept kept records.kept;
  }

  pub not_made : (revision : ℕ) (old new : Records L) (fault : RegisterFault) (given : Result RevisionFeatures RegisterFault) → given ≡ Err fault
      → Exists revision old → MakesSnapshot g revision old (Err fault) new → Finds g revision old given new
  not_made revision old new fault given e exists m = subst (λ (given : Result RevisionFeatures RegisterFault). Finds g revision old given new) (sym e) (record {
    snapshot = λ counts. tt;
    cause = λ counts commands records. m.cause counts commands records (exists commands records.ledger);
    reads = m.reads;
  })

  pub not_looked : (revision : ℕ) (old new : Records L) (snapshot : RevisionFeatures) (fault : RegisterFault) (given : Result RevisionFeatures RegisterFault) → given ≡ Err fault → fault ≡ Memory
      → MakesSnapshot g revision old (Ok snapshot) new → Finds g revision old given new
  not_looked revision old new snapshot fault given e m made = subst (λ (given : Result RevisionFeatures RegisterFault). Finds g revision old given new) (sym e) (record {
    snapshot = λ counts. tt;
    cause = λ counts commands records. inl m;
    reads = ran_out (RefusesToRead g revision old new) (DamagedForReading g revision old new) old new fault m made.reads.kept made.reads.clean;
  })

  pub looked : (revision : ℕ) (old mid new : Records L) (snapshot shared : RevisionFeatures)
      → MakesSnapshot g revision old (Ok snapshot) mid
      → ledger_in new ≡ ledger_in mid → StaysWith shared mid.kept new.kept → shared ≡ snapshot → Exists revision old → Finds g revision old (Ok snapshot) new
  looked revision old mid new snapshot shared made same stays is exists =
      let counted : g.counts (ledger_in new) → g.counts (ledger_in mid) = subst g.counts same in
      let with_it : StaysWith snapshot mid.kept new.kept = subst (λ s. StaysWith s mid.kept new.kept) is stays in
      record {
        snapshot = λ counts. made.snapshot (counted counts);
        cause = λ counts. tt;
        reads = record {
          store = λ counts. tt;
          damaged = tt;
          still = λ counts answered. subst (λ (l : L). g.remains (ledger_in old) l) (sym same) (made.reads.still (counted counts) tt);
          kept = λ counts commands records.
              let between = made.reads.kept (counted counts) commands records in
              let h = exists commands records.ledger in
              record {
                ledger = subst (λ (l : L). g.stands_for l commands) (sym same) between.ledger;
                kept = kept_with commands snapshot mid.kept new.kept with_it
                    (subst (λ n. IsCached commands (n, snapshot)) (sym made.number) (record { exists = h; snapshot = made.snapshot (counted counts) commands records h })) between.kept;
              };
          unchanged = λ counts. tt;
          clean = λ counts. made.reads.clean (counted counts);
        };
      }

  found_so : {E : Type 0} → RemainsHere → (revision : ℕ) (old new : Records L) (snapshot : RevisionFeatures) → Recalls g {E = E} revision old (Ok (Some snapshot)) new → Finds g revision old (Ok snapshot) new
  found_so here revision old new snapshot r = record {
    snapshot = λ counts commands records within. r.snapshot commands records.kept;
    cause = λ counts. tt;
    reads = record {
      store = λ counts. tt;
      still = λ counts answered. remains_same here old new r.same;
      kept = λ counts. moved old new r.same r.kept;
      damaged = tt;
      unchanged = λ counts. tt;
      clean = subst g.counts r.same;
    };
  }

  pub found_kept : {E : Type 0} → RemainsHere → (revision : ℕ) (old new : Records L) (snapshot : RevisionFeatures) (found : Option RevisionFeatures) (given : Result (Option RevisionFeatures) E) → given ≡ Ok found → found ≡ Some snapshot
      → Recalls g {E = E} revision old given new → Finds g revision old (Ok snapshot) new
  found_kept {E} here revision old new snapshot found given e f recalled =
      let is : given ≡ Ok (Some snapshot) = e ∙ ap Ok f in
      found_so here revision old new snapshot (subst (λ (r : Result (Option RevisionFeatures) E). Recalls g {E = E} revision old r new) is recalled)

  pub found_nothing : {E : Type 0} (revision : ℕ) (old new : Records L) (result : Result (Option RevisionFeatures) E) (fault : RegisterFault) (given : Result RevisionFeatures RegisterFault) → given ≡ Err fault → fault ≡ Memory
      → Recalls g revision old result new → Finds g revision old given new
  found_nothing revision old new result fault given e m r = subst (λ (given : Result RevisionFeatures RegisterFault). Finds g revision old given new) (sym e) (record {
    snapshot = λ counts. tt;
    cause = λ counts commands records. inl m;
    reads = ran_out (RefusesToRead g revision old new) (DamagedForReading g revision old new) old new fault m (λ counts. moved old new r.same r.kept) (subst g.counts r.same);
  })

  -- what may be refused or named, by the ledger and by whether damage was noted
  abbrev Refuses : ℕ → L → L × Bool → Type 0
  Refuses revision new x =
      ((x.1 ≡ false) × g.refuses_listing x.0 new (g.newest x.0)) ⊎ ((before : L) × HasDamage g x.1 x.0 before × g.remains x.0 before × g.refuses_listing before new revision)

  abbrev IsNamed : ℕ → L → L × Bool → ℤ → ℤ → Type 0
  IsNamed revision new x object number = (before : L) × HasDamage g x.1 x.0 before × (g.counts new → g.remains x.0 before) × g.damaged_for_listing before new revision object number

  unmoved : {E : Type 0} (revision : ℕ) (old mid : Records L) (was : Result (Option RevisionFeatures) E) → Recalls g revision old was mid
      → ◌≡◌ {A = L × Bool} (ledger_in mid, mid.is_damaged) (ledger_in old, old.is_damaged)
  unmoved revision old mid was r = ap₂ (λ l b. (l, b)) r.same r.damaged

  pub found_read : {E : Type 0} (revision : ℕ) (old mid new : Records L) (was : Result (Option RevisionFeatures) E) (result : Result RevisionFeatures RegisterFault)
      → Recalls g revision old was mid → Finds g revision mid result new → Finds g revision old result new
  found_read revision old mid new was (Ok snapshot) r f = record {
    snapshot = λ counts commands records. f.snapshot counts commands (moved old mid r.same r.kept commands records);
    cause = λ counts. tt;
    reads = record {
      store = λ counts. tt;
      still = λ counts answered. subst (λ (l : L). g.remains l (ledger_in new)) r.same (f.reads.still counts answered);
      kept = λ counts commands records. f.reads.kept counts commands (moved old mid r.same r.kept commands records);
      damaged = tt;
      unchanged = λ counts. tt;
      clean = λ counts. subst g.counts r.same (f.reads.clean counts);
    };
  }
  found_read revision old mid new was (Err fault) r f = record {
    snapshot = λ counts. tt;
    cause = λ counts commands records. f.cause counts commands (moved old mid r.same r.kept commands records);
    reads = record {
      store = λ counts s. subst (Refuses revision (ledger_in new)) (unmoved revision old mid was r) (f.reads.store counts s);
      still = λ counts answered. subst (λ (l : L). g.remains l (ledger_in new)) r.same (f.reads.still counts answered);
      kept = λ counts. tt;
      damaged = subst (λ (x : L × Bool). NamesDamage (IsNamed revision (ledger_in new) x) fault) (unmoved revision old mid was r) f.reads.damaged;
      unchanged = λ counts commands records.
          subst (λ (l : L). AreRecordsOf g new commands ⊎ IsShut g.lives g.fails l fault (ledger_in new)) r.same
          (f.reads.unchanged counts commands (moved old mid r.same r.kept commands records));
      clean = λ counts. subst g.counts r.same (f.reads.clean counts);
    };
  }

  -- ---- what is told

  found_content : (sought : FeatureRequest) (commands : List Command) (found : Option RevisionFeatures) → IsFoundFor g sought commands found → content_found sought found ≡ content_of sought commands
  found_content sought commands None above =
      let n = length commands in
      let r = revision_sought sought n in
      cond_below n r (refusal status.BadRequest (codes "revision")) (content_in sought (snapshot_at r commands)) above
  found_content sought commands (Some snapshot) is =
      let n = length commands in
      let r = revision_sought sought n in
      cond_above n r (refusal status.BadRequest (codes "revision")) (content_in sought (snapshot_at r commands)) (content_in sought snapshot) is.0
      (content_at sought r (as_of r commands) snapshot is.1)

  -- what was read for the snapshot is read for what is told
  told_reads : (sought : FeatureRequest) (old new : Records L) (found : Option RevisionFeatures) (told : Located) → ReadsFor g (revision_of g old sought) old (Ok found) new → ReadsFor g (revision_of g old sought) old (Ok told) new
  told_reads sought old new found told =
      let revision = revision_of g old sought in
      as_read (RefusesToRead g revision old new) (RefusesToRead g revision old new) (DamagedForReading g revision old new) (DamagedForReading g revision old new) old new found told

  pub told_sought : (sought : FeatureRequest) (old new : Records L) (found : Option RevisionFeatures) (told : Located) → Seeks g sought old (Ok found) new → content_located told ≡ content_found sought found
      → TellsSought g sought old (Ok told) new
  told_sought sought old new found told s is = record {
    within = tt;
    content = λ counts commands records. is ∙ found_content sought commands found (s.found counts commands records);
    cause = λ counts. tt;
    reads = told_reads sought old new found told s.reads;
  }

  pub not_told : (sought : FeatureRequest) (old new : Records L) (found : Option RevisionFeatures) (fault : RegisterFault) (given : Result Located RegisterFault) → given ≡ Err fault → fault ≡ Memory
      → Seeks g sought old (Ok found) new → TellsSought g sought old given new
  not_told sought old new found fault given e m s = subst (λ (given : Result Located RegisterFault). TellsSought g sought old given new) (sym e) (record {
    within = inl m;
    content = λ counts. tt;
    cause = λ counts commands records. inl m;
    reads = ran_out (RefusesToRead g (revision_of g old sought) old new) (DamagedForReading g (revision_of g old sought) old new) old new fault m s.reads.kept s.reads.clean;
  })

  pub not_sought : (sought : FeatureRequest) (old new : Records L) (fault : RegisterFault) → Seeks g sought old (Err fault) new → TellsSought g sought old (Err fault) new
  not_sought sought old new fault s = record {
    within = inr s.within;
    content = λ counts. tt;
    cause = s.cause;
    reads = as_refused (RefusesToRead g (revision_of g old sought) old new) (DamagedForReading g (revision_of g old sought) old new) old new fault s.reads;
  }

  -- ---- what is answered

  abbrev IsAnswered : Server L → Request → Result Answer RegisterFault → Server L → Type 0
  IsAnswered old request result new = IsAnsweredAs g (λ (answer : Answer). answer.bytes.items) (λ (answer : Answer). answer.ends) old request result new

  pub begun_err : (old new : Server L) (request : Request) (wanted : ParsedRequest) (fault : RegisterFault) (given : Result (Begun PageWork) RegisterFault) → given ≡ Err fault → IsParsedRequest (requested request) wanted
      → Tells g wanted old.records (Err fault) new.records → IsBegun g old request given new
  begun_err old new request wanted fault given e is t = subst (λ (given : Result (Begun PageWork) RegisterFault). IsBegun g old request given new) (sym e) (record {
    replied = λ counts. tt;
    plain = tt;
    ends = tt;
    cause = λ counts commands stands. elim (t.cause counts commands stands) [
      | inl m ↦ inl m
      | inr f ↦ inr (wanted, is, f)
    ];
    asking = elim t.asking [
      | inl m ↦ inl m
      | inr sought ↦ inr (wanted, is, sought)
    ];
    store = λ counts s. (wanted, is, t.reads.store counts s);
    still = t.reads.still;
    kept = λ counts. tt;
    damaged = names_by (DamagedForTelling g wanted old.records new.records) (DamagedForAnswer g old new request) (λ object number named. (wanted, is, named)) fault t.reads.damaged;
    unchanged = t.reads.unchanged;
    clean = t.reads.clean;
  })

  -- there was no memory, where nothing changed but what is kept
  out_of_memory : {A : Type 0} (bytes_in : A → List ℕ) (ends_in : A → Bool) (old new : Server L) (request : Request) (fault : RegisterFault) (given : Result A RegisterFault) → given ≡ Err fault → fault ≡ Memory
      → (g.counts (ledger_of new) → (commands : List Command) → IsServerOf g old commands → IsServerOf g new commands)
      → (g.counts (ledger_of new) → g.counts (ledger_of old)) → IsAnsweredAs g bytes_in ends_in old request given new
  out_of_memory {A} bytes_in ends_in old new request fault given e m kept clean = subst (λ (given : Result A RegisterFault). IsAnsweredAs g bytes_in ends_in old request given new) (sym e) (record {
    replied = λ counts. tt;
    plain = tt;
    ends = tt;
    cause = λ counts commands stands. inl m;
    asking = inl m;
    store = λ counts s. absurd (not_store fault m s);
    still = λ counts answered. absurd (not_answered fault m answered);
    kept = λ counts. tt;
    damaged = memory_names_none (DamagedForAnswer g old new request) fault m;
    unchanged = λ counts commands records. inl (kept counts commands records);
    clean = clean;
  })

  -- there was no memory for what is told
  pub not_begun : (old new : Server L) (request : Request) (wanted : ParsedRequest) (what : Located) (fault : RegisterFault) (given : Result (Begun PageWork) RegisterFault) → given ≡ Err fault → fault ≡ Memory
      → Tells g wanted old.records (Ok what) new.records → IsBegun g old request given new
  not_begun old new request wanted what fault given e m t = out_of_memory (told_begun reply_owed) ends_begun old new request fault given e m t.reads.kept t.reads.clean

  pub begun_ok : (old new : Server L) (request : Request) (wanted : ParsedRequest) (what : Located) (begun : Begun PageWork) → IsParsedRequest (requested request) wanted
      → Tells g wanted old.records (Ok what) new.records → told_begun reply_owed begun ≡ reply_text (content_located what).0 begun.ends (content_located what).1 → begun.ends ≡ ends_after request
      → IsBegun g old request (Ok begun) new
  begun_ok old new request wanted what begun is t bytes ends = record {
    replied = λ counts commands stands. replied commands (t.content counts commands stands);
    plain = elim t.plain [
      | inl sought ↦ inl (wanted, is, sought)
      | inr same ↦ inr (λ commands. replied commands (same commands))
    ];
    ends = ends;
    cause = λ counts. tt;
    asking = tt;
    store = λ counts. tt;
    still = t.reads.still;
    kept = t.reads.kept;
    damaged = tt;
    unchanged = λ counts. tt;
    clean = t.reads.clean;
  }
    where
      replied : (commands : List Command) → content_located what ≡ content_requested wanted commands → IsReply commands request (told_begun reply_owed begun)
      replied commands same = (wanted, is, bytes ∙ ap (λ (b : Bool). reply_text (content_located what).0 b (content_located what).1) ends ∙ ap (reply_of request) same)

  -- ---- an answer that was begun, and made at once

  pub unanswered : (old new : Server L) (request : Request) (fault : RegisterFault) (given : Result Answer RegisterFault) → given ≡ Err fault → IsBegun g old request (Err fault) new → IsAnswered old request given new
  unanswered old new request fault given e b = subst (λ (given : Result Answer RegisterFault). IsAnswered old request given new) (sym e) (record {
    replied = λ counts. tt;
    plain = tt;
    ends = tt;
    cause = b.cause;
    asking = b.asking;
    store = b.store;
    still = b.still;
    kept = λ counts. tt;
    damaged = b.damaged;
    unchanged = b.unchanged;
    clean = b.clean;
  })

  pub unfinished : (old new : Server L) (request : Request) (begun : Begun PageWork) (fault : RegisterFault) (given : Result Answer RegisterFault) → given ≡ Err fault → fault ≡ Memory
      → IsBegun g old request (Ok begun) new → IsAnswered old request given new
  unfinished old new request begun fault given e m b = out_of_memory (λ (answer : Answer). answer.bytes.items) (λ (answer : Answer). answer.ends) old new request fault given e m b.kept b.clean

  pub finished : (old new : Server L) (request : Request) (begun : Begun PageWork) (answer : Answer) → IsBegun g old request (Ok begun) new
      → answer.bytes.items ≡ told_begun reply_owed begun → answer.ends ≡ begun.ends → IsAnswered old request (Ok answer) new
  finished old new request begun answer b bytes ends = record {
    replied = λ counts commands stands. subst (IsReply commands request) (sym bytes) (b.replied counts commands stands);
    plain = subst (IsPlainReply Asks IsReply request) (sym bytes) b.plain;
    ends = ends ∙ b.ends;
    cause = λ counts. tt;
    asking = tt;
    store = λ counts. tt;
    still = b.still;
    kept = b.kept;
    damaged = tt;
    unchanged = λ counts. tt;
    clean = b.clean;
  }
