-- One row more.
use Rattle.std.proofs.Common.{◌≡◌, ℕ, ◌+◌, ◌<◌, ◌≤◌, ℤ, zero, suc, List, [], ◌∷◌, ◌++◌, length, map, take, drop, get_or, Option, Some, None, Result, Ok, Err, IfOk, IfErr, Vec, Global, refl, sym, ap, ap₂, ◌∙◌, subst, arith, inl, inr, add-one}
use Rattle.std.proofs.Math.Seq.{drop-cons}
use Rattle.sqlite_value.specs.Order.{Row}
use Rattle.cad_versions.specs.VersionedObject.{VersionedObject}
use Rattle.cad_versions.specs.Entries.{Entry, seen_at}
use Rattle.cad_register.specs.StoredVersions.{IsRowOf, AreRowsOf}
use Rattle.cad_register.specs.declared.place.Place.{Place}
use Rattle.cad_versions.specs.declared.fault.RegisterFault.{RegisterFault}
use Rattle.cad_versions.specs.declared.fault.RegisterFault.TheVariants as fault
use Rattle.cad_register.specs.declared.found.FoundRow.{FoundRow}
use Rattle.cad_register.specs.Damage.{identifier_in, place_of, IsNext, AreInOrder, AreSound, AreSeenAt, IsFirstDamaged, IsCauseIn, ListsRows, ListsStored}
use Rattle.cad_register.specs.inner.Found.{IsReadOf, AreReadOf}
use Rattle.cad_register.proofs.KeptLemmas.{entry_same}

pub drop_row : (rows : List Row) (at : ℕ) (row : Row) → at < length rows → row ≡ get_or rows at row → drop at rows ≡ row ∷ drop (at + 1) rows
drop_row rows at row h is = drop-cons rows at row h ∙ ap₂ ◌∷◌ (sym is) (ap (λ n. drop n rows) (sym (add-one at)))

pub sound_step : (newest : ℕ) (rows : List Row) (at : ℕ) (row : Row) (before : Option Place) (e : Entry) → at < length rows → row ≡ get_or rows at row → IsNext newest before at row e
    → AreSound newest (Some (place_of e.version)) (at + 1) (drop (at + 1) rows) → AreSound newest before at (drop at rows)
sound_step newest rows at row before e h is next rest = subst (AreSound newest before at) (sym (drop_row rows at row h is)) (e, next, rest)

pub damaged_step : (newest : ℕ) (id : ℤ × ℤ) (rows : List Row) (at : ℕ) (row : Row) (before : Option Place) (e : Entry) → at < length rows → row ≡ get_or rows at row → IsNext newest before at row e
    → IsFirstDamaged newest id (Some (place_of e.version)) (at + 1) (drop (at + 1) rows) → IsFirstDamaged newest id before at (drop at rows)
damaged_step newest id rows at row before e h is next rest = subst (IsFirstDamaged newest id before at) (sym (drop_row rows at row h is)) (inr (e, next, rest))

pub damaged_here : (newest : ℕ) (rows : List Row) (at : ℕ) (row : Row) (before : Option Place) → at < length rows → row ≡ get_or rows at row → ((e : Entry) → IsNext newest before at row e → ⊥) → IsFirstDamaged newest (identifier_in row) before at (drop at rows)
damaged_here newest rows at row before h is bad = subst (IsFirstDamaged newest (identifier_in row) before at) (sym (drop_row rows at row h is)) (inl (refl, bad))

pub take_all : {X : Type 0} (rows : List X) (n : ℕ) → length rows ≤ n → take n rows ≡ rows
take_all [] zero h = refl
take_all [] (suc n) h = refl
take_all (r ∷ rows) zero h = absurd (omega arith)
take_all (r ∷ rows) (suc n) h = ap (λ l. r ∷ l) (take_all rows n (omega arith))

-- what is seen is that of the entries for which the rows stand
pub seen_of : (revision : ℕ) (rows : List Row) (entries : List Entry) (vs : List VersionedObject) → AreRowsOf rows entries → AreSeenAt revision rows vs → vs ≡ map (seen_at revision) entries
seen_of revision [] [] [] are seen = refl
seen_of revision [] [] (v ∷ vs) are seen = absurd seen
seen_of revision [] (e ∷ entries) vs are seen = absurd are
seen_of revision (r ∷ rows) [] vs are seen = absurd are
seen_of revision (r ∷ rows) (e ∷ entries) [] are seen = absurd seen
seen_of revision (r ∷ rows) (e ∷ entries) (v ∷ vs) are seen = ap₂ ◌∷◌ (seen.0.2 ∙ ap (seen_at revision) (entry_same r seen.0.0 e seen.0.1 are.0)) (seen_of revision rows entries vs are.1 seen.1)

-- what the rows of entries show at a revision
pub rows_seen : (revision : ℕ) (rows : List Row) (entries : List Entry) → AreRowsOf rows entries → AreSeenAt revision rows (map (seen_at revision) entries)
rows_seen revision [] [] are = tt
rows_seen revision [] (e ∷ entries) are = absurd are
rows_seen revision (r ∷ rows) [] are = absurd are
rows_seen revision (r ∷ rows) (e ∷ entries) are = ((e, are.0, refl), rows_seen revision rows entries are.1)

-- they represent no other entries
pub entries_same : (rows : List Row) (entries others : List Entry) → AreRowsOf rows entries → AreRowsOf rows others → entries ≡ others
entries_same [] [] [] are all = refl
entries_same [] [] (d ∷ others) are all = absurd all
entries_same [] (e ∷ entries) others are all = absurd are
entries_same (r ∷ rows) [] others are all = absurd are
entries_same (r ∷ rows) (e ∷ entries) [] are all = absurd all
entries_same (r ∷ rows) (e ∷ entries) (d ∷ others) are all = ap₂ ◌∷◌ (entry_same r e d are.0 all.0) (entries_same rows entries others are.1 all.1)

-- one entry more is the one of its row
rows_push : (rows : List Row) (es : List Entry) (row : Row) (e : Entry) → AreRowsOf rows es → IsRowOf row e → AreRowsOf (rows ++ row ∷ []) (es ++ e ∷ [])
rows_push [] [] row e so_far here = (here, tt)
rows_push [] (d ∷ es) row e so_far here = absurd so_far
rows_push (r ∷ rows) [] row e so_far here = absurd so_far
rows_push (r ∷ rows) (d ∷ es) row e so_far here = (so_far.0, rows_push rows es row e so_far.1 here)

pub take_row : (rows : List Row) (at : ℕ) (row : Row) → at < length rows → row ≡ get_or rows at row → take (at + 1) rows ≡ take at rows ++ row ∷ []
take_row [] at row h is = absurd (omega arith)
take_row (r ∷ rows) zero row h is = ap (λ x. x ∷ []) (sym is)
take_row (r ∷ rows) (suc at) row h is = ap (λ n. take n (r ∷ rows)) (add-one (suc at)) ∙ ap (λ l. r ∷ l) (ap (λ n. take n rows) (sym (add-one at)) ∙ take_row rows at row (omega arith) is)

pub rows_step : (rows : List Row) (at : ℕ) (row : Row) (e : Entry) (es : List Entry) → at < length rows → row ≡ get_or rows at row → IsRowOf row e → AreRowsOf (take at rows) es → AreRowsOf (take (at + 1) rows) (es ++ e ∷ [])
rows_step rows at row e es h here is so_far = subst (λ l. AreRowsOf l (es ++ e ∷ [])) (sym (take_row rows at row h here)) (rows_push (take at rows) es row e so_far is)

pub rows_all : (rows : List Row) (n : ℕ) (es : List Entry) → length rows ≤ n → AreRowsOf (take n rows) es → AreRowsOf rows es
rows_all rows n es h so_far = subst (λ l. AreRowsOf l es) (take_all rows n h) so_far

-- what is made of the rows in order
pub lists_rows : (revision newest : ℕ) (shown rows : List Row) (r : Result (Vec VersionedObject Global) RegisterFault) → AreInOrder shown rows → IfOk r (λ _. AreSound newest None 0 rows) → IfOk r (λ vs. AreSeenAt revision rows vs.items) → IfErr r (IsCauseIn newest rows)
    → ListsRows revision newest shown r
lists_rows revision newest shown rows (Ok vs) order sound seen cause = (rows, order, sound, seen)
lists_rows revision newest shown rows (Err (fault.Damaged object number)) order sound seen cause = (rows, order, cause)
lists_rows revision newest shown rows (Err fault.Memory) order sound seen cause = tt
lists_rows revision newest shown rows (Err other) order sound seen cause = absurd cause

-- the same of stored versions
pub lists_stored : (newest : ℕ) (shown rows : List Row) (r : Result (Vec Entry Global) RegisterFault) → AreInOrder shown rows → IfOk r (λ _. AreSound newest None 0 rows) → IfOk r (λ found. AreRowsOf rows found.items) → IfErr r (IsCauseIn newest rows)
    → ListsStored newest shown r
lists_stored newest shown rows (Ok found) order sound are cause = (rows, order, sound, are)
lists_stored newest shown rows (Err why) order sound are cause = lists_rows newest newest shown rows (Err why) order tt tt cause

-- the row that is read at a place
pub record RowAt (rows : List Row) (at : ℕ) (x : FoundRow) : Type 0 where
  pub row : Row
  pub low : at < length rows
  pub here : row ≡ get_or rows at row
  pub read : IsReadOf row x

pub row_at : (rows : List Row) (front : List FoundRow) (x : FoundRow) (back : List FoundRow) → AreReadOf rows (front ++ x ∷ back) → RowAt rows (length front) x
row_at [] [] x back h = absurd h
row_at [] (y ∷ front) x back h = absurd h
row_at (r ∷ rows) [] x back h = record { row = r; low = omega arith; here = refl; read = h.0 }
row_at (r ∷ rows) (y ∷ front) x back h =
    let rest = row_at rows front x back h.1 in
    record { row = rest.row; low = omega (arith, rest.low); here = rest.here; read = rest.read }
