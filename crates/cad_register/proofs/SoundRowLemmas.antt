-- Rows that are judged each by itself.
use Rattle.std.proofs.Common.{◌≡◌, inl, inr, ℕ, zero, suc, ◌+◌, ◌-◌, ◌≤◌, ◌<◌, ℤ, List, [], ◌∷◌, ◌++◌, length, map, take, drop, get_or, Vec, Global, Result, Ok, Err, MatchResult, IfOk, IfErr, IsTrue, refl, sym, ap, subst, arith}
use Rattle.std.specs.List.{AllByRecursion}
use Rattle.std.proofs.lemmas.List.{length-append, map-append}
use Rattle.std.proofs.lemmas.Slice.Zip.{all_zipped_more, AllZip-long}
use Rattle.sqlite_value.specs.Order.{Row}
use Rattle.sqlite.specs.State.{State}
use Rattle.cad_tables.specs.VersionRow.{VersionRow}
use Rattle.cad_tables.specs.Listing.{lines_between}
use Rattle.cad_versions.specs.declared.command.Command.{Command}
use Rattle.cad_versions.specs.declared.fault.RegisterFault.{RegisterFault}
use Rattle.cad_versions.specs.declared.fault.RegisterFault.TheVariants as fault
use Rattle.cad_versions.specs.Entries.{Entry}
use Rattle.cad_register.specs.declared.found.FoundRow.{FoundRow}
use Rattle.cad_register.specs.declared.stored_version.StoredVersion.{StoredVersion}
use Rattle.cad_register.specs.Damage.{identifier_in, HasRevisions}
use Rattle.cad_register.specs.StoredVersions.{AreRowsOf, entry_of}
use Rattle.cad_register.specs.Stands.{StandsFor, IsStoreFault, IsReadingFault}
use Rattle.cad_register.specs.JournalReading.{IsSoundRow, AreSoundRows, IsFirstUnsound, IsUnsoundIn, AreShownBetween, ReadsSound}
use Rattle.cad_register.specs.inner.Found.{IsReadOf, AreReadOf}
use Rattle.cad_register.proofs.DamageLemmas.{drop_row, take_row, take_all}
use Rattle.cad_register.proofs.JournalRowLemmas.{entries_same}
use Rattle.cad_register.proofs.RowLemmas.{AreLinesOf}

-- ---- one row after another

-- so many rows were judged, and these are their versions
pub record AreJudgedSound (newest : ℕ) (rows : List Row) (at : ℕ) (versions : List StoredVersion) : Type 0 where
  pub sound : AreSoundRows newest (take at rows) (map entry_of versions)
  pub damaged : (id : ℤ × ℤ) → IsFirstUnsound newest id (drop at rows) → IsFirstUnsound newest id rows

none_first : (rows : List Row) → take zero rows ≡ []
none_first [] = refl
none_first (row ∷ rows) = refl

all_left : (newest : ℕ) (id : ℤ × ℤ) (rows : List Row) → IsFirstUnsound newest id (drop zero rows) → IsFirstUnsound newest id rows
all_left newest id [] h = h
all_left newest id (row ∷ rows) h = h

pub none_judged : (newest : ℕ) (rows : List Row) → AreJudgedSound newest rows 0 []
none_judged newest rows = record { sound = subst (λ l. AreSoundRows newest l []) (sym (none_first rows)) tt; damaged = λ id rest. all_left newest id rows rest }

pub one_judged : (newest : ℕ) (rows : List Row) (at : ℕ) (versions : List StoredVersion) (row : Row) (version : StoredVersion) → at < length rows → row ≡ get_or rows at row → IsSoundRow newest row (entry_of version)
    → AreJudgedSound newest rows at versions → AreJudgedSound newest rows (at + 1) (versions ++ version ∷ [])
one_judged newest rows at versions row version low here sound so_far = record {
  sound = subst (λ l. AreSoundRows newest l (map entry_of (versions ++ version ∷ []))) (sym (take_row rows at row low here))
      (subst (AreSoundRows newest (take at rows ++ row ∷ [])) (sym (map-append entry_of versions (version ∷ [])))
      (all_zipped_more (IsSoundRow newest) (take at rows) (map entry_of versions) row (entry_of version) so_far.sound sound));
  damaged = λ id rest. so_far.damaged id (subst (IsFirstUnsound newest id) (sym (drop_row rows at row low here)) (inr ((entry_of version, sound), rest)));
}

pub unsound_here : (newest : ℕ) (rows : List Row) (at : ℕ) (versions : List StoredVersion) (row : Row) → at < length rows → row ≡ get_or rows at row → ((e : Entry) → ¬ IsSoundRow newest row e)
    → AreJudgedSound newest rows at versions → IsFirstUnsound newest (identifier_in row) rows
unsound_here newest rows at versions row low here bad so_far = so_far.damaged (identifier_in row) (subst (IsFirstUnsound newest (identifier_in row)) (sym (drop_row rows at row low here)) (inl (refl, bad)))

pub all_judged : (newest : ℕ) (rows : List Row) (found yielded rest : List FoundRow) (versions : List StoredVersion) → AreReadOf rows found → found ≡ yielded ++ rest → length rest ≡ 0 → AreJudgedSound newest rows (length yielded) versions
    → AreSoundRows newest rows (map entry_of versions)
all_judged newest rows found yielded rest versions read all ended so_far =
    let whole : length rows ≤ length yielded = omega (arith, AllZip-long IsReadOf rows found read, ap length all, length-append yielded rest, ended) in
    subst (λ l. AreSoundRows newest l (map entry_of versions)) (take_all rows (length yielded) whole) so_far.sound

-- ---- the lines of a register between two places

module _ {X : Type 0} (P : X → Type 0) where
  all_taken : (k : ℕ) (xs : List X) → AllByRecursion P xs → AllByRecursion P (take k xs)
  all_taken zero [] all = tt
  all_taken zero (x ∷ xs) all = tt
  all_taken (suc k) [] all = tt
  all_taken (suc k) (x ∷ xs) all = (all.0, all_taken k xs all.1)

  all_dropped : (k : ℕ) (xs : List X) → AllByRecursion P xs → AllByRecursion P (drop k xs)
  all_dropped zero [] all = tt
  all_dropped zero (x ∷ xs) all = all
  all_dropped (suc k) [] all = tt
  all_dropped (suc k) (x ∷ xs) all = all_dropped k xs all.1

  pub all_between : (m k : ℕ) (xs : List X) → AllByRecursion P xs → AllByRecursion P (take k (drop m xs))
  all_between m k xs all = all_taken k (drop m xs) (all_dropped m xs all)

lines_taken : (k : ℕ) (ls : List VersionRow) (es : List Entry) → AreLinesOf ls es → AreLinesOf (take k ls) (take k es)
lines_taken zero [] [] h = tt
lines_taken zero [] (e ∷ es) h = absurd h
lines_taken zero (l ∷ ls) [] h = absurd h
lines_taken zero (l ∷ ls) (e ∷ es) h = tt
lines_taken (suc k) [] [] h = tt
lines_taken (suc k) [] (e ∷ es) h = absurd h
lines_taken (suc k) (l ∷ ls) [] h = absurd h
lines_taken (suc k) (l ∷ ls) (e ∷ es) h = (h.0, lines_taken k ls es h.1)

lines_dropped : (k : ℕ) (ls : List VersionRow) (es : List Entry) → AreLinesOf ls es → AreLinesOf (drop k ls) (drop k es)
lines_dropped zero [] [] h = tt
lines_dropped zero [] (e ∷ es) h = absurd h
lines_dropped zero (l ∷ ls) [] h = absurd h
lines_dropped zero (l ∷ ls) (e ∷ es) h = h
lines_dropped (suc k) [] [] h = tt
lines_dropped (suc k) [] (e ∷ es) h = absurd h
lines_dropped (suc k) (l ∷ ls) [] h = absurd h
lines_dropped (suc k) (l ∷ ls) (e ∷ es) h = lines_dropped k ls es h.1

pub rows_between : (behind up_to : ℕ) (ls : List VersionRow) (es : List Entry) → AreLinesOf ls es → AreLinesOf (lines_between behind up_to ls) (take (up_to - behind) (drop behind es))
rows_between behind up_to ls es h = lines_taken (up_to - behind) (drop behind ls) (drop behind es) (lines_dropped behind ls es h)

-- ---- what sound rows are

rows_of_sound : (newest : ℕ) (rows : List Row) (es : List Entry) → AreSoundRows newest rows es → AreRowsOf rows es
rows_of_sound newest [] [] h = tt
rows_of_sound newest [] (e ∷ es) h = absurd h
rows_of_sound newest (row ∷ rows) [] h = absurd h
rows_of_sound newest (row ∷ rows) (e ∷ es) h = (h.0.shows, rows_of_sound newest rows es h.1)

none_unsound : (newest : ℕ) (id : ℤ × ℤ) (rows : List Row) (es : List Entry) → AreRowsOf rows es → AllByRecursion (HasRevisions newest) es → ¬ IsFirstUnsound newest id rows
none_unsound newest id [] [] h all bad = bad
none_unsound newest id [] (e ∷ es) h all bad = h
none_unsound newest id (row ∷ rows) [] h all bad = h
none_unsound newest id (row ∷ rows) (e ∷ es) h all (inl bad) = bad.1 e (record { shows = h.0; revisions = all.0 })
none_unsound newest id (row ∷ rows) (e ∷ es) h all (inr more) = none_unsound newest id rows es h.1 all.1 more.1

pub sound_told : (newest : ℕ) (cs : List Command) (rows : List Row) (es : List Entry) (new : State) (r : Result (Vec StoredVersion Global) RegisterFault) → AreRowsOf rows es → (newest ≡ length cs → AllByRecursion (HasRevisions newest) es) → StandsFor new cs
    → IfOk r (λ found. AreSoundRows newest rows (map entry_of found.items)) → IfErr r (IsUnsoundIn newest rows)
    → MatchResult r (λ found. (map entry_of found.items ≡ es) × StandsFor new cs) (λ f. (newest ≡ length cs → IsStoreFault f) × (IsTrue new.is_open → StandsFor new cs))
sound_told newest cs rows es new (Ok found) are dated stands sound cause = (entries_same rows (map entry_of found.items) es (rows_of_sound newest rows (map entry_of found.items) sound) are, stands)
sound_told newest cs rows es new (Err (fault.Damaged object number)) are dated stands sound cause = (λ e. absurd (none_unsound newest (object, number) rows es are (dated e) cause), λ _. stands)
sound_told newest cs rows es new (Err fault.Memory) are dated stands sound cause = (λ e. tt, λ _. stands)
sound_told newest cs rows es new (Err other) are dated stands sound cause = absurd cause

-- ---- whatever the disk returns

pub unsound_cause : (newest : ℕ) (rows : List Row) (r : Result (Vec StoredVersion Global) RegisterFault) → IfErr r (IsUnsoundIn newest rows) → IfErr r IsReadingFault
unsound_cause newest rows (Ok found) h = tt
unsound_cause newest rows (Err (fault.Damaged object number)) h = tt
unsound_cause newest rows (Err fault.Memory) h = tt
unsound_cause newest rows (Err cause) h = absurd h

pub sound_read : (old new : State) (behind up_to newest : ℕ) (rows : List Row) (r : Result (Vec StoredVersion Global) RegisterFault) → AreShownBetween old new behind up_to rows
    → IfOk r (λ found. AreSoundRows newest rows (map entry_of found.items)) → IfErr r (IsUnsoundIn newest rows) → ReadsSound old new behind up_to newest r
sound_read old new behind up_to newest rows (Ok found) are sound cause = (rows, are, sound)
sound_read old new behind up_to newest rows (Err (fault.Damaged object number)) are sound cause = (rows, are, cause)
sound_read old new behind up_to newest rows (Err fault.Memory) are sound cause = tt
sound_read old new behind up_to newest rows (Err cause) are sound bad = absurd bad

pub store_sound : (old new : State) (behind up_to newest : ℕ) (cause : RegisterFault) → IsStoreFault cause → ReadsSound old new behind up_to newest (Err cause)
store_sound old new behind up_to newest fault.Store is = tt
store_sound old new behind up_to newest fault.Memory is = tt
store_sound old new behind up_to newest cause is = absurd is
