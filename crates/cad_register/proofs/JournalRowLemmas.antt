-- Rows in order, told one after another, and what they tell of the commands that a register stands for.
use Rattle.std.proofs.Common.{◌≡◌, ℕ, ◌+◌, ◌-◌, ◌≤◌, ◌<◌, ℤ, List, [], ◌∷◌, ◌++◌, length, map, take, drop, get_or, Vec, Global, Option, Some, None, Result, Ok, Err, MatchResult, IfErr, IsTrue, refl, sym, ap, ap₂, ◌∙◌, subst, arith}
use Rattle.std.proofs.lemmas.List.{length-append}
use Rattle.std.proofs.lemmas.Slice.Zip.{AllZip-long}
use Rattle.sqlite_value.specs.Order.{Row}
use Rattle.sqlite.specs.State.{State}
use Rattle.cad_versions.specs.declared.command.Command.{Command}
use Rattle.cad_versions.specs.declared.fault.RegisterFault.{RegisterFault}
use Rattle.cad_versions.specs.declared.fault.RegisterFault.TheVariants as fault
use Rattle.cad_versions.specs.Entries.{Entry, entries_of}
use Rattle.cad_versions.specs.AsOf.{entries_listed}
use Rattle.cad_versions.specs.Refusals.{AreAccepted}
use Rattle.cad_register.specs.declared.gathering.Gathering.{Gathering}
use Rattle.cad_register.specs.Journal.{commands_behind}
use Rattle.cad_register.specs.inner.Gathering.{Gathers, IsGivenBy}
use Rattle.cad_register.proofs.GatheringLemmas.{some_same}
use Rattle.cad_register.proofs.JournalOrderLemmas.{listings_give}
use Rattle.cad_register.specs.declared.found.FoundRow.{FoundRow}
use Rattle.cad_register.specs.declared.place.Place.{Place}
use Rattle.cad_register.specs.Damage.{place_of, IsNext, AreSound, AreInOrder, IsFirstDamaged, IsCauseIn, AreShown}
use Rattle.cad_register.specs.inner.Found.{IsReadOf, AreReadOf}
use Rattle.cad_register.specs.StoredVersions.{IsRowOf, AreRowsOf}
use Rattle.cad_register.specs.Stands.{StandsFor, IsStoreFault}
use Rattle.cad_register.specs.JournalRows.{GivesCommands, GivesJournal, IsJournalFault}
use Rattle.cad_register.proofs.DamageLemmas.{damaged_step, take_all, take_row}
use Rattle.cad_register.proofs.KeptLemmas.{entry_same}
use Rattle.cad_register.proofs.SoundLemmas.{listed_sound, sound_cause}

-- ---- rows and their entries

rows_push : (rows : List Row) (es : List Entry) (row : Row) (e : Entry) → AreRowsOf rows es → IsRowOf row e → AreRowsOf (rows ++ row ∷ []) (es ++ e ∷ [])
rows_push [] [] row e h here = (here, tt)
rows_push [] (f ∷ es) row e h here = absurd h
rows_push (r ∷ rows) [] row e h here = absurd h
rows_push (r ∷ rows) (f ∷ es) row e h here = (h.0, rows_push rows es row e h.1 here)

pub entries_same : (rows : List Row) (es fs : List Entry) → AreRowsOf rows es → AreRowsOf rows fs → es ≡ fs
entries_same [] [] [] h k = refl
entries_same [] [] (f ∷ fs) h k = absurd k
entries_same [] (e ∷ es) fs h k = absurd h
entries_same (row ∷ rows) [] fs h k = absurd h
entries_same (row ∷ rows) (e ∷ es) [] h k = absurd k
entries_same (row ∷ rows) (e ∷ es) (f ∷ fs) h k = ap₂ ◌∷◌ (entry_same row e f h.0 k.0) (entries_same rows es fs h.1 k.1)

-- ---- one row after another

-- so many rows were told, the last of which has this place
pub record AreGathered (behind newest : ℕ) (rows : List Row) (before : Option Place) (at : ℕ) (journal : Gathering) : Type 0 where
  pub damaged : (id : ℤ × ℤ) → IsFirstDamaged newest id before at (drop at rows) → IsFirstDamaged newest id None 0 rows
  pub entries : List Entry
  pub stand : AreRowsOf (take at rows) entries
  pub gathers : Gathers behind (newest - behind) entries journal

pub none_gathered : (behind newest : ℕ) (rows : List Row) (journal : Gathering) → Gathers behind (newest - behind) [] journal → AreGathered behind newest rows None 0 journal
none_gathered behind newest rows journal gathers = record { damaged = λ id rest. rest; entries = []; stand = tt; gathers = gathers }

pub one_gathered : (behind newest : ℕ) (rows : List Row) (before : Option Place) (at : ℕ) (old new : Gathering) (row : Row) (e : Entry) → at < length rows → row ≡ get_or rows at row → IsNext newest before at row e
    → ((b count : ℕ) (es : List Entry) → Gathers b count es old → Gathers b count (es ++ e ∷ []) new) → AreGathered behind newest rows before at old → AreGathered behind newest rows (Some (place_of e.version)) (at + 1) new
one_gathered behind newest rows before at old new row e low here next notes so_far = record {
  damaged = λ id rest. so_far.damaged id (damaged_step newest id rows at row before e low here next rest);
  entries = so_far.entries ++ e ∷ [];
  stand = subst (λ l. AreRowsOf l (so_far.entries ++ e ∷ [])) (sym (take_row rows at row low here)) (rows_push (take at rows) so_far.entries row e so_far.stand next.shows);
  gathers = notes behind (newest - behind) so_far.entries so_far.gathers;
}

pub all_gathered : (behind newest : ℕ) (rows : List Row) (found yielded rest : List FoundRow) (before : Option Place) (journal : Gathering) → AreReadOf rows found → found ≡ yielded ++ rest → length rest ≡ 0 → AreGathered behind newest rows before (length yielded) journal
    → (es : List Entry) × AreRowsOf rows es × Gathers behind (newest - behind) es journal
all_gathered behind newest rows found yielded rest before journal read all ended so_far =
    let whole : length rows ≤ length yielded = omega (arith, AllZip-long IsReadOf rows found read, ap length all, length-append yielded rest, ended) in
    (so_far.entries, subst (λ l. AreRowsOf l so_far.entries) (take_all rows (length yielded) whole) so_far.stand, so_far.gathers)

-- ---- all rows

pub rows_given : (behind newest : ℕ) (shown rows : List Row) (journal : Gathering) (r : Result (Vec Command Global) RegisterFault) → AreInOrder shown rows → (es : List Entry) → AreRowsOf rows es → Gathers behind (newest - behind) es journal → IsGivenBy journal r
    → GivesCommands behind newest shown r
rows_given behind newest shown rows journal (Ok found) order es stand gathers told = (rows, es, order, stand, told behind (newest - behind) es gathers)
rows_given behind newest shown rows journal (Err fault.NotARegister) order es stand gathers told = (rows, es, order, stand, told behind (newest - behind) es gathers)
rows_given behind newest shown rows journal (Err other) order es stand gathers told = absurd told

pub rows_damaged : (behind newest : ℕ) (shown rows : List Row) (cause : RegisterFault) → AreInOrder shown rows → IsCauseIn newest rows cause → GivesCommands behind newest shown (Err cause)
rows_damaged behind newest shown rows (fault.Damaged object number) order cause = (rows, order, cause)
rows_damaged behind newest shown rows fault.Memory order cause = tt
rows_damaged behind newest shown rows other order cause = absurd cause

-- what the rows of a register tell are its commands
commands_of_rows : (behind : ℕ) (cs : List Command) (rows : List Row) (es : List Entry) (newest : ℕ) → behind ≤ newest → AreAccepted [] cs → newest ≡ length cs → AreRowsOf rows (entries_listed newest (entries_of cs)) → AreRowsOf rows es → commands_behind behind (newest - behind) es ≡ map Some (drop behind cs)
commands_of_rows behind cs rows es newest low accepted counts stand read =
    ap (commands_behind behind (newest - behind)) (entries_same rows es (entries_listed newest (entries_of cs)) read stand)
    ∙ subst (λ n. behind ≤ n → commands_behind behind (n - behind) (entries_listed n (entries_of cs)) ≡ map Some (drop behind cs)) (sym counts) (listings_give cs accepted behind) low

pub journal_given : (behind newest : ℕ) (cs : List Command) (shown : List Row) (new : State) (r : Result (Vec Command Global) RegisterFault) → behind ≤ newest → ((rows : List Row) → AreInOrder shown rows → AreRowsOf rows (entries_listed newest (entries_of cs))) → StandsFor new cs
    → GivesCommands behind newest shown r
    → MatchResult r (λ found. (newest ≡ length cs → found.items ≡ drop behind cs) × StandsFor new cs) (λ f. (newest ≡ length cs → IsStoreFault f) × (IsTrue new.is_open → StandsFor new cs))
journal_given behind newest cs shown new (Ok found) low are stands told = (
  λ e. some_same found.items (drop behind cs) (told.4 ∙ commands_of_rows behind cs told.0 told.1 newest low stands.accepted e (are told.0 told.2) told.3),
  stands,
)
journal_given behind newest cs shown new (Err (fault.Damaged object number)) low are stands told = (
  λ e. sound_cause newest told.0 (fault.Damaged object number) (subst (λ n. AreSound n None 0 told.0) (sym e) (listed_sound newest cs told.0 stands.accepted (are told.0 told.1))) told.2,
  λ _. stands,
)
journal_given behind newest cs shown new (Err fault.NotARegister) low are stands told = (
  λ e. absurd (told.4 (drop behind cs) (sym (commands_of_rows behind cs told.0 told.1 newest low stands.accepted e (are told.0 told.2) told.3))),
  λ _. stands,
)
journal_given behind newest cs shown new (Err fault.Memory) low are stands told = (λ e. tt, λ _. stands)
journal_given behind newest cs shown new (Err other) low are stands told = absurd told

-- ---- whatever the disk returns

pub rows_cause : (behind newest : ℕ) (shown : List Row) (r : Result (Vec Command Global) RegisterFault) → GivesCommands behind newest shown r → IfErr r IsJournalFault
rows_cause behind newest shown (Ok found) h = tt
rows_cause behind newest shown (Err (fault.Damaged object number)) h = tt
rows_cause behind newest shown (Err fault.NotARegister) h = tt
rows_cause behind newest shown (Err fault.Memory) h = tt
rows_cause behind newest shown (Err cause) h = absurd h

pub store_cause : (cause : RegisterFault) → IsStoreFault cause → IsJournalFault cause
store_cause fault.Store is = tt
store_cause fault.Memory is = tt
store_cause cause is = absurd is

pub shown_given : (old new : State) (behind newest : ℕ) (shown : List Row) (r : Result (Vec Command Global) RegisterFault) → AreShown old new newest shown → GivesCommands behind newest shown r → GivesJournal old new behind newest r
shown_given old new behind newest shown (Ok found) are h = (shown, are, h)
shown_given old new behind newest shown (Err fault.Store) are h = tt
shown_given old new behind newest shown (Err fault.Memory) are h = tt
shown_given old new behind newest shown (Err cause) are h = (shown, are, h)

pub store_gives : (old new : State) (behind newest : ℕ) (cause : RegisterFault) → IsStoreFault cause → GivesJournal old new behind newest (Err cause)
store_gives old new behind newest fault.Store is = tt
store_gives old new behind newest fault.Memory is = tt
store_gives old new behind newest cause is = absurd is
