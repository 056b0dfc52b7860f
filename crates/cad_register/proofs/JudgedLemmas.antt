-- Rows in order, judged one after another.
use Rattle.std.proofs.Common.{◌≡◌, ℕ, zero, suc, ◌+◌, ◌≤◌, ◌<◌, ℤ, List, [], ◌∷◌, ◌++◌, map, length, take, drop, Option, Some, None, refl, sym, ap, subst, arith, get_or}
use Rattle.std.proofs.lemmas.List.{length-append, length-map, map-append}
use Rattle.sqlite_value.specs.Order.{Row}
use Rattle.cad_versions.specs.Entries.{Entry, version_in}
use Rattle.cad_versions.specs.Listing.{IsListing}
use Rattle.std.proofs.lemmas.Slice.Zip.{AllZip-long}
use Rattle.cad_register.specs.inner.Found.{IsReadOf, AreReadOf}
use Rattle.cad_register.specs.declared.found.FoundRow.{FoundRow}
use Rattle.cad_register.specs.declared.place.Place.{Place}
use Rattle.cad_register.specs.Damage.{place_of, IsNext, AreSound, IsFirstDamaged}
use Rattle.cad_register.specs.StoredVersions.{AreRowsOf}
use Rattle.cad_register.proofs.DamageLemmas.{sound_step, damaged_step, rows_step, rows_all}
use Rattle.cad_register.proofs.ListedLemmas.{AreListed, none_listed, one_listed}

-- so many rows were judged, the last of which has this place, and represent these entries
pub record AreJudged (newest : ℕ) (rows : List Row) (before : Option Place) (at : ℕ) (es : List Entry) : Type 0 where
  pub few : length es ≤ 2147483647
  pub listed : AreListed before (map version_in es)
  pub sound : AreSound newest before at (drop at rows) → AreSound newest None 0 rows
  pub damaged : (id : ℤ × ℤ) → IsFirstDamaged newest id before at (drop at rows) → IsFirstDamaged newest id None 0 rows
  pub shown : AreRowsOf (take at rows) es

pub none_judged : (newest : ℕ) (rows : List Row) → AreJudged newest rows None 0 []
none_judged newest rows = record { few = omega arith; listed = none_listed; sound = λ rest. rest; damaged = λ id rest. rest; shown = tt }

pub one_judged : (newest : ℕ) (rows : List Row) (before : Option Place) (at : ℕ) (es : List Entry) (row : Row) (e : Entry) → length es ≡ at → at < length rows → row ≡ get_or rows at row → IsNext newest before at row e
    → AreJudged newest rows before at es → AreJudged newest rows (Some (place_of e.version)) (at + 1) (es ++ e ∷ [])
one_judged newest rows before at es row e count low here next so_far = record {
  few = rw length-append (omega (arith, next.keeps.room, count));
  listed = subst (AreListed (Some (place_of e.version))) (sym (map-append version_in es (e ∷ []))) (one_listed before e (map version_in es) next.shows.version next.keeps.follows so_far.listed);
  sound = λ rest. so_far.sound (sound_step newest rows at row before e low here next rest);
  damaged = λ id rest. so_far.damaged id (damaged_step newest id rows at row before e low here next rest);
  shown = rows_step rows at row e es low here next.shows so_far.shown;
}

drop_all : {X : Type 0} (n : ℕ) (xs : List X) → length xs ≤ n → drop n xs ≡ []
drop_all zero [] h = refl
drop_all zero (x ∷ xs) h = absurd (omega arith)
drop_all (suc n) [] h = refl
drop_all (suc n) (x ∷ xs) h = drop_all n xs (omega (arith, h))

-- none is left
module _ (newest : ℕ) (rows : List Row) (found : List FoundRow) (before : Option Place) (yielded rest : List FoundRow) (es : List Entry) (read : AreReadOf rows found) (all : found ≡ yielded ++ rest) (ended : length rest ≡ 0)
    (judged : AreJudged newest rows before (length yielded) es) where
  whole : length rows ≡ length yielded
  whole = omega (arith, AllZip-long IsReadOf rows found read, ap length all, length-append yielded rest, ended)

  pub judged_sound : AreSound newest None 0 rows
  judged_sound = judged.sound (rw (drop_all (length yielded) rows (omega (arith, whole))) tt)

  pub judged_shown : AreRowsOf rows es
  judged_shown = rows_all rows (length yielded) es (omega (arith, whole)) judged.shown

pub judged_listing : (newest : ℕ) (rows : List Row) (before : Option Place) (at : ℕ) (es : List Entry) → AreJudged newest rows before at es → IsListing (map version_in es)
judged_listing newest rows before at es judged = record { few = omega (arith, judged.few, length-map es version_in); ascending = judged.listed.ascending; each = judged.listed.each }
