-- Rows that stand for entries, and what is picked, ordered and changed of both.
use Rattle.std.proofs.Common.{◌≡◌, ℕ, pos, Bool, true, false, true≢false, cond, List, [], ◌∷◌, ◌++◌, map, filter, is_gt, refl, sym, ap, ap₂, int_cmp, int_le}
use Rattle.std.specs.List.{AllByRecursion}
use Rattle.std.specs.Ordering.{ordering_then}
use Rattle.sqlite_trees.specs.Tree.{IsAscending}
use Rattle.sqlite_keyed.specs.Lists.{sort_by, insert_sorted}
use Rattle.cad_tables.specs.VersionRow.{VersionRow, cells_of}
use Rattle.cad_tables.specs.Listing.{identifier_order, lines_at, listing, outline_of}
use Rattle.cad_versions.specs.Objects.{object_number}
use Rattle.cad_versions.specs.Entries.{Entry, version_in, entries_at}
use Rattle.cad_versions.specs.Sorting.{insert_sorted as insert_in_order, sort_by as in_order}
use Rattle.cad_versions.specs.AsOf.{entry_order, entries_listed}
use Rattle.cad_register.specs.StoredVersions.{IsRowOf, AreRowsOf}
use Rattle.cad_register.specs.Outlines.{outline}
use Rattle.cad_register.proofs.PartLemmas.{count_cell}

abbrev pub IsLineOf : VersionRow → Entry → Type 0
IsLineOf line e = IsRowOf (cells_of line) e

abbrev pub AreLinesOf : List VersionRow → List Entry → Type 0
AreLinesOf lines entries = AreRowsOf (map cells_of lines) entries

-- ---- one line

pub object_same : (l : VersionRow) (e : Entry) → IsLineOf l e → l.object ≡ object_number e.version.object
object_same l e h = count_cell l.object (object_number e.version.object) h.object

pub number_same : (l : VersionRow) (e : Entry) → IsLineOf l e → l.number ≡ e.version.number
number_same l e h = count_cell l.number e.version.number h.number

entered_same : (l : VersionRow) (e : Entry) → IsLineOf l e → l.entered ≡ e.entered
entered_same l e h = count_cell l.entered e.entered h.entered.0

outline_same : (l : VersionRow) (e : Entry) → IsLineOf l e → outline_of l ≡ outline e.version
outline_same l e h = λ i. h.number i ∷ h.class i ∷ h.first i ∷ h.last i ∷ []

pub order_same : (l m : VersionRow) (e f : Entry) → IsLineOf l e → IsLineOf m f → identifier_order l m ≡ entry_order e f
order_same l m e f h k =
    ap₂ ordering_then (ap₂ (λ a b. int_cmp (pos a) (pos b)) (object_same l e h) (object_same m f k)) (ap₂ (λ a b. int_cmp (pos a) (pos b)) (number_same l e h) (number_same m f k))

-- ---- lists of lines

pub lines_joined : (ls ms : List VersionRow) (es fs : List Entry) → AreLinesOf ls es → AreLinesOf ms fs → AreLinesOf (ls ++ ms) (es ++ fs)
lines_joined [] ms [] fs h k = k
lines_joined [] ms (e ∷ es) fs h k = absurd h
lines_joined (l ∷ ls) ms [] fs h k = absurd h
lines_joined (l ∷ ls) ms (e ∷ es) fs h k = (h.0, lines_joined ls ms es fs h.1 k)

pub lines_filtered : (p : VersionRow → Bool) (q : Entry → Bool) → ((l : VersionRow) (e : Entry) → IsLineOf l e → p l ≡ q e) → (ls : List VersionRow) (es : List Entry) → AreLinesOf ls es → AreLinesOf (filter p ls) (filter q es)
lines_filtered p q same [] [] h = tt
lines_filtered p q same [] (e ∷ es) h = absurd h
lines_filtered p q same (l ∷ ls) [] h = absurd h
lines_filtered p q same (l ∷ ls) (e ∷ es) h = go (p l) (q e) (same l e h.0) (lines_filtered p q same ls es h.1)
  where
    go : (s t : Bool) → s ≡ t → AreLinesOf (filter p ls) (filter q es) → AreLinesOf (cond s (l ∷ filter p ls) (filter p ls)) (cond t (e ∷ filter q es) (filter q es))
    go true true is more = (h.0, more)
    go false false is more = more
    go true false is more = absurd (true≢false is)
    go false true is more = absurd (true≢false (sym is))

pub lines_changed : (f : VersionRow → VersionRow) (g : Entry → Entry) (P : Entry → Type 0) → ((l : VersionRow) (e : Entry) → P e → IsLineOf l e → IsLineOf (f l) (g e)) → (ls : List VersionRow) (es : List Entry) → AllByRecursion P es → AreLinesOf ls es → AreLinesOf (map f ls) (map g es)
lines_changed f g P stays [] [] all h = tt
lines_changed f g P stays [] (e ∷ es) all h = absurd h
lines_changed f g P stays (l ∷ ls) [] all h = absurd h
lines_changed f g P stays (l ∷ ls) (e ∷ es) all h = (stays l e all.0 h.0, lines_changed f g P stays ls es all.1 h.1)

-- the one line of one entry
pub lone_line : (ls : List VersionRow) (e : Entry) → AreLinesOf ls (e ∷ []) → (l : VersionRow) × (ls ≡ l ∷ [])
lone_line [] e h = absurd h
lone_line (l ∷ []) e h = (l, refl)
lone_line (l ∷ (m ∷ ls)) e h = absurd h.1

-- what holds between entries holds between their lines
module _ (R : VersionRow → VersionRow → Type 0) (S : Entry → Entry → Type 0) (told : (l m : VersionRow) (e f : Entry) → IsLineOf l e → IsLineOf m f → S e f → R l m) where
  lines_below : (l : VersionRow) (e : Entry) → IsLineOf l e → (ls : List VersionRow) (es : List Entry) → AreLinesOf ls es → AllByRecursion (S e) es → AllByRecursion (R l) ls
  lines_below l e here [] [] h all = tt
  lines_below l e here [] (f ∷ es) h all = absurd h
  lines_below l e here (m ∷ ls) [] h all = absurd h
  lines_below l e here (m ∷ ls) (f ∷ es) h all = (told l m e f here h.0 all.0, lines_below l e here ls es h.1 all.1)

  pub lines_ascend : (ls : List VersionRow) (es : List Entry) → AreLinesOf ls es → IsAscending S es → IsAscending R ls
  lines_ascend [] [] h up = tt
  lines_ascend [] (e ∷ es) h up = absurd h
  lines_ascend (l ∷ ls) [] h up = absurd h
  lines_ascend (l ∷ ls) (e ∷ es) h up = (lines_below l e h.0 ls es h.1 up.0, lines_ascend ls es h.1 up.1)

-- ---- the lines of a revision

lines_inserted : (l : VersionRow) (e : Entry) → IsLineOf l e → (ls : List VersionRow) (es : List Entry) → AreLinesOf ls es → AreLinesOf (insert_sorted identifier_order l ls) (insert_in_order entry_order e es)
lines_inserted l e here [] [] h = (here, tt)
lines_inserted l e here [] (f ∷ es) h = absurd h
lines_inserted l e here (m ∷ ls) [] h = absurd h
lines_inserted l e here (m ∷ ls) (f ∷ es) h = go (is_gt (identifier_order l m)) (is_gt (entry_order e f)) (ap is_gt (order_same l m e f here h.0)) (lines_inserted l e here ls es h.1)
  where
    go : (s t : Bool) → s ≡ t → AreLinesOf (insert_sorted identifier_order l ls) (insert_in_order entry_order e es)
        → AreLinesOf (cond s (m ∷ insert_sorted identifier_order l ls) (l ∷ (m ∷ ls))) (cond t (f ∷ insert_in_order entry_order e es) (e ∷ (f ∷ es)))
    go true true is more = (h.0, more)
    go false false is more = (here, h)
    go true false is more = absurd (true≢false is)
    go false true is more = absurd (true≢false (sym is))

lines_sorted : (ls : List VersionRow) (es : List Entry) → AreLinesOf ls es → AreLinesOf (sort_by identifier_order ls) (in_order entry_order es)
lines_sorted [] [] h = tt
lines_sorted [] (e ∷ es) h = absurd h
lines_sorted (l ∷ ls) [] h = absurd h
lines_sorted (l ∷ ls) (e ∷ es) h = lines_inserted l e h.0 (sort_by identifier_order ls) (in_order entry_order es) (lines_sorted ls es h.1)

pub rows_listed : (revision : ℕ) (ls : List VersionRow) (es : List Entry) → AreLinesOf ls es → AreLinesOf (listing revision ls) (entries_listed revision es)
rows_listed revision ls es h =
    lines_sorted (lines_at revision ls) (entries_at revision es)
    (lines_filtered (λ (l : VersionRow). int_le (pos l.entered) (pos revision)) (λ (e : Entry). int_le (pos e.entered) (pos revision)) (λ l e is. ap (λ n. int_le (pos n) (pos revision)) (entered_same l e is)) ls es h)

pub outlines_same : (ls : List VersionRow) (es : List Entry) → AreLinesOf ls es → map outline_of ls ≡ map outline (map version_in es)
outlines_same [] [] h = refl
outlines_same [] (e ∷ es) h = absurd h
outlines_same (l ∷ ls) [] h = absurd h
outlines_same (l ∷ ls) (e ∷ es) h = ap₂ ◌∷◌ (outline_same l e h.0) (outlines_same ls es h.1)
