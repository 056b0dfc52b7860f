-- One question after another leaves what each leaves.
use Rattle.std.proofs.Common.{◌≡◌, ◌≢◌, ℕ, Vec, Result, Ok, Err, OnOk, IfErr, refl, sym, subst, ◌∙◌, List, arith, inl, inr}
use Rattle.std.proofs.Math.Nat.{le_refl, le_trans}
use Rattle.sqlite.specs.State.{State, IsUnchanged, HasCleanDisk, Survives}
use Rattle.cad_tables.specs.Asking.{OnlyReads}
use Rattle.cad_versions.specs.declared.fault.RegisterFault.{RegisterFault}
use Rattle.cad_versions.specs.declared.fault.RegisterFault.TheVariants as fault
use Rattle.cad_versions.specs.Keeping.{IsOfTheRegister, IsAnswered}
use Rattle.cad_register.specs.Leaving.{IsLater, IsAsBefore, AsksOnly}
use Rattle.cad_register.specs.Stands.{IsStoreFault, IsReadingFault}
use Rattle.cad_register.specs.Damage.{AreShown, ListsRows, ListsStored, ReadsRows, ReadsStored}
use Rattle.cad_versions.specs.Entries.{Entry}
use Rattle.cad_versions.specs.VersionedObject.{VersionedObject}
use Rattle.std.specs.Global.{Global}
use Rattle.sqlite_value.specs.Order.{Row}
use Rattle.cad_register.specs.lemmas.RemainingLemmas.{more_before}
use Rattle.cad_register.proofs.SurvivingLemmas.{leaves_no_more}

pub later_here : (s : State) → IsLater s s
later_here s = record { clean = λ clean. clean; limit = refl; faults = le_refl s.faults; closes = λ clean live. inl live }

pub later_then : (a b c : State) → IsLater a b → IsLater b c → IsLater a c
later_then a b c p q = record {
  clean = λ clean. p.clean (q.clean clean);
  limit = q.limit ∙ p.limit;
  faults = le_trans p.faults q.faults;
  closes = λ clean live. elim (p.closes (q.clean clean) live) [
    | inl still ↦ elim (q.closes clean still) [ inl since ↦ inl since | inr more ↦ inr (more_before a.faults b.faults c.faults p.faults more) ]
    | inr more ↦ inr (le_trans more q.faults)
  ];
}

still_clean : (old new : State) (P : _) → Survives old new P → HasCleanDisk new → HasCleanDisk old
still_clean old new P survives clean = omega (arith, survives.clean)

pub later_by : (old new : State) (P : _) → Survives old new P → IsLater old new
later_by old new P survives = record { clean = still_clean old new P survives; limit = survives.limit; faults = survives.counts; closes = survives.closes }

pub as_before : (old new : State) → IsUnchanged old new → IsAsBefore old new
as_before old new same = record { now = same.0.now_is; committed = same.0.committed_is; liveness = same.0.is_open ∙ sym same.0.was_open; mode = same.0.mode }

pub before_then : (a b c : State) → IsAsBefore a b → IsAsBefore b c → IsAsBefore a c
before_then a b c p q = record { now = q.now ∙ p.now; committed = q.committed ∙ p.committed; liveness = q.liveness ∙ p.liveness; mode = q.mode ∙ p.mode }

-- whatever is told
pub on_ok_anyway : {X E P : Type 0} (r : Result X E) → P → OnOk r P
on_ok_anyway (Ok x) p = p
on_ok_anyway (Err e) p = tt

-- nothing is asked
pub asks_nothing : {X : Type 0} (s : State) (r : Result X RegisterFault) → AsksOnly s s r
asks_nothing s r = record {
  same = λ clean answered. record { now = refl; committed = refl; liveness = refl; mode = refl };
  kept = λ clean still settled. (refl, refl);
  later = later_here s;
  left = λ clean trees h. h;
}

-- one question is answered, and then all is as it was, whatever is made of the answer
pub asks_answered : {X Y F : Type 0} (old new : State) (x : X) (r : Result Y RegisterFault) → OnlyReads {X = X} {F = F} old new (Ok x) → AsksOnly old new r
asks_answered old new x r reads = record {
  same = λ clean answered. as_before old new (reads.same clean);
  kept = reads.kept;
  later = later_by old new _ reads.survives;
  left = λ clean. leaves_no_more old new clean reads.survives;
}

pub not_answered : (cause : RegisterFault) → IsStoreFault cause → ¬ IsOfTheRegister cause
not_answered fault.Store is h = h
not_answered fault.Memory is h = h
not_answered cause is h = absurd is

-- the database refuses it
pub asks_refused : {X Y F : Type 0} (old new : State) (e : F) (cause : RegisterFault) → IsStoreFault cause → OnlyReads {X = X} {F = F} old new (Err e) → AsksOnly {X = Y} old new (Err cause)
asks_refused old new e cause is reads = record {
  same = λ clean answered. absurd (not_answered cause is answered);
  kept = reads.kept;
  later = later_by old new _ reads.survives;
  left = λ clean. leaves_no_more old new clean reads.survives;
}

-- the same outcome, told to the caller
pub asks_as : {X Y : Type 0} (old new : State) (r : Result X RegisterFault) (s : Result Y RegisterFault) → (IsAnswered s → IsAnswered r) → AsksOnly old new r → AsksOnly old new s
asks_as old new r s same asks = record { same = λ clean answered. asks.same clean (same answered); kept = asks.kept; later = asks.later; left = asks.left }

pub asks_then : {X Y : Type 0} (a b c : State) (x : X) (r : Result Y RegisterFault) → AsksOnly {X = X} a b (Ok x) → AsksOnly b c r → AsksOnly a c r
asks_then a b c x r first second = record {
  same = λ clean answered. before_then a b c (first.same (second.later.clean clean) tt) (second.same clean answered);
  kept = λ clean still settled.
      let same = first.same (second.later.clean clean) tt in
      let later = second.kept clean still (same.committed ∙ settled ∙ sym same.now) in
      (later.0 ∙ same.now, later.1 ∙ same.committed);
  later = later_then a b c first.later second.later;
  left = λ clean trees h. first.left (second.later.clean clean) trees (second.left clean trees h);
}

-- what the database refuses is not told as no register
pub not_as_none : (cause : RegisterFault) → IsStoreFault cause → ¬ (cause ≡ fault.NotARegister)
not_as_none fault.Store is e = absurd cc
not_as_none fault.Memory is e = absurd cc
not_as_none cause is e = absurd is

pub store_known : (cause : RegisterFault) → IsStoreFault cause → cause ≢ fault.UnknownRevision
store_known cause is e = subst IsStoreFault e is

pub reading_known : (cause : RegisterFault) → IsReadingFault cause → cause ≢ fault.UnknownRevision
reading_known cause is e = subst IsReadingFault e is

pub store_reading : (cause : RegisterFault) → IsStoreFault cause → IsReadingFault cause
store_reading fault.Store is = tt
store_reading fault.Memory is = tt
store_reading cause is = absurd is

pub rows_reading : (revision newest : ℕ) (shown : List Row) (r : Result (Vec VersionedObject Global) RegisterFault) → ListsRows revision newest shown r → IfErr r IsReadingFault
rows_reading revision newest shown (Ok vs) h = tt
rows_reading revision newest shown (Err (fault.Damaged object number)) h = tt
rows_reading revision newest shown (Err fault.Memory) h = tt
rows_reading revision newest shown (Err cause) h = absurd h

-- what is made of the rows that the database shows
pub rows_read : (old new : State) (revision newest : ℕ) (shown : List Row) (r : Result (Vec VersionedObject Global) RegisterFault) → AreShown old new revision shown → ListsRows revision newest shown r → ReadsRows old new revision newest r
rows_read old new revision newest shown (Ok vs) are h = (shown, h.0, are, h.1, h.2, h.3)
rows_read old new revision newest shown (Err (fault.Damaged object number)) are h = (shown, h.0, are, h.1, h.2)
rows_read old new revision newest shown (Err fault.Memory) are h = tt
rows_read old new revision newest shown (Err other) are h = absurd h

pub entries_reading : (newest : ℕ) (shown : List Row) (r : Result (Vec Entry Global) RegisterFault) → ListsStored newest shown r → IfErr r IsReadingFault
entries_reading newest shown (Ok found) h = tt
entries_reading newest shown (Err why) h = rows_reading newest newest shown (Err why) h

pub entries_read : (old new : State) (newest : ℕ) (shown : List Row) (r : Result (Vec Entry Global) RegisterFault) → AreShown old new newest shown → ListsStored newest shown r → ReadsStored old new newest r
entries_read old new newest shown (Ok found) are h = (shown, h.0, are, h.1, h.2, h.3)
entries_read old new newest shown (Err why) are h = rows_read old new newest newest shown (Err why) are h

pub store_reads : (old new : State) (revision newest : ℕ) (cause : RegisterFault) → IsStoreFault cause → ReadsRows old new revision newest (Err cause)
store_reads old new revision newest fault.Store is = tt
store_reads old new revision newest fault.Memory is = tt
store_reads old new revision newest cause is = absurd is
