-- The row that is named, from one question to the next.
use Rattle.std.proofs.Common.{◌≡◌, Some, ◌≢◌, ◌≤◌, ℕ, ℤ, pos, true, nat_le, [], ◌∷◌, ◌++◌, List, Result, Ok, Err, IfErr, IsErrAnd, MatchResult, inl, inr, refl, sym, subst, arith, Vec, Global}
use Rattle.std.proofs.lemmas.Bool.Decides.{nat_tests}
use Rattle.sqlite_trees.specs.declared.store.Store.{Ghosts}
use Rattle.sqlite_value.specs.declared.value.Value.TheVariants.{Int}
use Rattle.sqlite_value.specs.Order.{Row}
use Rattle.sqlite.specs.State.{HasCleanDisk, Shown}
use Rattle.sqlite.specs.Held.{Held, state}
use Rattle.cad_tables.specs.Texts.{history_text}
use Rattle.cad_tables.specs.Refusals.{Statement}
use Rattle.cad_versions.specs.declared.object_id.ObjectId.{ObjectId}
use Rattle.cad_versions.specs.declared.fault.RegisterFault.{RegisterFault}
use Rattle.cad_versions.specs.declared.fault.RegisterFault.TheVariants as fault
use Rattle.cad_versions.specs.Keeping.{NamesDamage}
use Rattle.cad_versions.specs.Objects.{object_number}
use Rattle.cad_versions.specs.Refusals.{most_versions}
use Rattle.cad_versions.specs.VersionedObject.{VersionedObject}
use Rattle.cad_register.specs.Damage.{ReadsRows}
use Rattle.cad_register.specs.Leaving.{IsAsBefore, AsksOnly}
use Rattle.cad_register.specs.Naming.{IsFaultIn, TellStanding, ShowsFor, TellAll, FirstBreaks, NamesFirst}
use Rattle.cad_tables.specs.Opening.{IsSettled}
use Rattle.cad_register.specs.Refusing.{asking, IsForObject, RefusesQuestion, history_questions, room_questions}
use Rattle.cad_register.specs.Stands.{IsStoreFault}
use Rattle.cad_register.proofs.StandLemmas.{IsDecided}

-- a fault in the rows of an object tells of no revision
pub rows_known : (object : ObjectId) (rows : List Row) (why : RegisterFault) → IsFaultIn object rows why → why ≢ fault.UnknownRevision
rows_known object rows why bad e = subst (IsFaultIn object rows) e bad

-- what is so of each row is so of the one that is named
names_by : (P Q : ℤ → ℤ → Type 0) → ((object number : ℤ) → P object number → Q object number) → (why : RegisterFault) → NamesDamage P why → NamesDamage Q why
names_by P Q weaker (fault.Damaged object number) named = weaker object number named
names_by P Q weaker why named = tt

-- what the database refuses names no row
pub store_named : (P : ℤ → ℤ → Type 0) (why : RegisterFault) → IsStoreFault why → NamesDamage P why
store_named P fault.Store is = tt
store_named P fault.Memory is = tt
store_named P why is = absurd is

-- nor does what the commands refuse
pub decided_named : (P : ℤ → ℤ → Type 0) (why : RegisterFault) → IsDecided why → NamesDamage P why
decided_named P (fault.Damaged object number) is = absurd is
decided_named P why is = tt

-- a refusal is told to the caller
pub told_on : {Y : Type 0} (P : RegisterFault → Type 0) (why : RegisterFault) (r : Result Y RegisterFault) → IsErrAnd r (λ x. x ≡ why) → P why → IfErr r P
told_on P why (Ok y) is h = absurd is
told_on P why (Err x) is h = subst P (sym is) h

module _ {S : Type 0} (g : Ghosts S) where
  -- ---- one question

  shows_object : (old new : Held S) (object : ObjectId) (n : ℕ) → n ≡ object_number object → (rows : List Row) → (HasCleanDisk (state g new) → IsAsBefore (state g old) (state g new) × Shown history_text (Int (pos n) ∷ []) (state g old) (state g new) rows)
      → ShowsFor g new (asking history_text (object_number object)) old new rows
  shows_object old new object n is rows shown clean =
      let s = shown clean in (s.0, subst (λ m. Shown history_text (Int (pos m) ∷ []) (state g old) (state g new) rows) is s.1)

  -- a fault in the rows of an object names one that was shown
  pub rows_named : (old new : Held S) (object : ObjectId) (n : ℕ) → n ≡ object_number object → (rows : List Row) → (HasCleanDisk (state g new) → IsAsBefore (state g old) (state g new) × Shown history_text (Int (pos n) ∷ []) (state g old) (state g new) rows)
      → (why : RegisterFault) → IsFaultIn object rows why → NamesFirst g old new (history_questions (Some object)) why
  rows_named old new object n is rows shown (fault.Damaged named number) bad = (new, rows, shows_object old new object n is rows shown, inl (refl, inl (object, refl, bad.0, bad.1)))
  rows_named old new object n is rows shown fault.Memory bad = tt
  rows_named old new object n is rows shown why bad = absurd bad

  pub rows_tell : (old new : Held S) (object : ObjectId) (n : ℕ) → n ≡ object_number object → (rows : List Row) → (HasCleanDisk (state g new) → IsAsBefore (state g old) (state g new) × Shown history_text (Int (pos n) ∷ []) (state g old) (state g new) rows)
      → TellStanding rows → TellAll g new (history_questions (Some object)) old new
  rows_tell old new object n is rows shown tell = (new, rows, shows_object old new object n is rows shown, tell, refl)

  -- a listing that names one is asked for where there may be no room
  pub lines_named : (old new : Held S) (revision : ℕ) (r : Result (Vec VersionedObject Global) RegisterFault) → most_versions ≤ revision → AsksOnly (state g old) (state g new) r
      → ReadsRows (state g old) (state g new) revision revision r → IfErr r (NamesFirst g old new (room_questions revision))
  lines_named old new revision (Ok found) many asks reads = tt
  lines_named old new revision (Err (fault.Damaged named number)) many asks reads =
      let asked : nat_le most_versions revision ≡ true = grind (arith, nat_tests) in
      rw asked (new, reads.0, (λ clean. (asks.same clean tt, reads.2 clean)), inl (refl, inr (revision, reads.1, refl, reads.3, reads.4)))
  lines_named old new revision (Err why) many asks reads = tt

  -- it is no refusal by the database
  pub faults_settle : {X : Type 0} (old new : Held S) (object : ObjectId) (rows : List Row) (r : Result X RegisterFault) → IsSettled g old new → IfErr r (IsFaultIn object rows)
      → MatchResult r (λ _. IsSettled g old new) (λ cause. cause ≡ fault.Store → RefusesQuestion g old new (IsForObject object))
  faults_settle old new object rows (Ok x) settled bad = settled
  faults_settle old new object rows (Err why) settled bad = λ is. absurd (subst (IsFaultIn object rows) is bad)

  -- ---- some, and then others

  pub tell_later : (last final : Held S) (questions : List Statement) (old new : Held S) → (HasCleanDisk (state g final) → HasCleanDisk (state g last)) → TellAll g last questions old new → TellAll g final questions old new
  tell_later last final [] old new early t = t
  tell_later last final (question ∷ later) old new early t = (t.0, t.1, (λ clean. t.2 (early clean)), t.3, tell_later last final later t.0 new early t.4)

  pub tell_then : (last : Held S) (first second : List Statement) (old mid new : Held S) → TellAll g last first old mid → TellAll g last second mid new → TellAll g last (first ++ second) old new
  tell_then last [] second old mid new t u = subst (λ (h : Held S). TellAll g last second h new) t u
  tell_then last (question ∷ first) second old mid new t u = (t.0, t.1, t.2, t.3, tell_then last first second t.0 mid new t.4 u)

  breaks_then : (last : Held S) (first second : List Statement) (named number : ℤ) (old mid : Held S) → TellAll g last first old mid → FirstBreaks g last second named number mid → FirstBreaks g last (first ++ second) named number old
  breaks_then last [] second named number old mid t b = subst (FirstBreaks g last second named number) t b
  breaks_then last (question ∷ first) second named number old mid t b = (t.0, t.1, t.2, inr (t.3, breaks_then last first second named number t.0 mid t.4 b))

  breaks_more : (last : Held S) (first second : List Statement) (named number : ℤ) (old : Held S) → FirstBreaks g last first named number old → FirstBreaks g last (first ++ second) named number old
  breaks_more last [] second named number old b = absurd b
  breaks_more last (question ∷ first) second named number old b = (
    b.0,
    b.1,
    b.2,
    elim b.3 [
      | inl broken ↦ inl broken
      | inr later ↦ inr (later.0, breaks_more last first second named number b.0 later.1)
    ],
  )

  -- the first questions were answered, and one behind them names a row
  pub names_then : (old mid new : Held S) (first second : List Statement) (why : RegisterFault) → (HasCleanDisk (state g new) → HasCleanDisk (state g mid)) → TellAll g mid first old mid → NamesFirst g mid new second why → NamesFirst g old new (first ++ second) why
  names_then old mid new first second why early t =
      names_by (λ named number. FirstBreaks g new second named number mid) (λ named number. FirstBreaks g new (first ++ second) named number old)
      (λ named number. breaks_then new first second named number old mid (tell_later mid new first old mid early t)) why

  -- one of them names a row, and no more are asked
  pub names_more : (old new : Held S) (first second : List Statement) (why : RegisterFault) → NamesFirst g old new first why → NamesFirst g old new (first ++ second) why
  names_more old new first second why =
      names_by (λ named number. FirstBreaks g new first named number old) (λ named number. FirstBreaks g new (first ++ second) named number old)
      (λ named number. breaks_more new first second named number old) why
