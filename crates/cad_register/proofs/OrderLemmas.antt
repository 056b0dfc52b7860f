-- The versions of an object rise by their numbers, so no two rows have one key.
use Rattle.std.proofs.Common.{◌≡◌, ℕ, ◌<◌, pos, Bool, true, false, cond, List, [], ◌∷◌, map, filter, refl, sym, ap, ◌∙◌, subst, arith, is_eq, Ordering, Less, int_cmp, int_eq}
use Rattle.std.specs.List.{IsDistinct}
use Rattle.std.specs.Ordering.{eq_by_cmp}
use Rattle.sqlite_trees.specs.Tree.{IsAscending}
use Rattle.sqlite_keyed.specs.Lists.{sort_by, insert_sorted}
use Rattle.sqlite_keyed.proofs.ListLemmas.{filter-map, all-filter}
use Rattle.cad_tables.specs.VersionRow.{VersionRow}
use Rattle.cad_tables.specs.Listing.{identifier_order, number_order, HaveNoTies, lines_at, lines_of_object, history as known, outline_of}
use Rattle.cad_versions.specs.declared.object_id.ObjectId.{ObjectId}
use Rattle.cad_versions.specs.declared.command.Command.{Command}
use Rattle.cad_versions.specs.Objects.{object_number}
use Rattle.cad_versions.specs.VersionedObject.{VersionedObject}
use Rattle.cad_versions.specs.Versions.{is_of, history, versions}
use Rattle.cad_versions.specs.Entries.{Entry, version_in, entries_of}
use Rattle.cad_versions.specs.Identifiers.{by_identifier}
use Rattle.cad_versions.specs.AsOf.{entry_order}
use Rattle.cad_versions.specs.lemmas.EntryLemmas.{versions_of_entries}
use Rattle.cad_versions.specs.lemmas.ListLemmas.{all_unmapped}
use Rattle.cad_versions.specs.lemmas.HistoryLemmas.{HasHistories}
use Rattle.cad_versions.specs.lemmas.OrderLemmas.{NumbersRise, numbers_rise, cmp_less, identifiers_apart}
use Rattle.cad_register.specs.Outlines.{outline}
use Rattle.cad_register.proofs.RowLemmas.{IsLineOf, AreLinesOf, object_same, number_same, order_same, lines_filtered, lines_ascend, outlines_same}

module _ {A B : Type 0} (R : B → B → Type 0) (f : A → B) where
  ascending_unmap : (xs : List A) → IsAscending R (map f xs) → IsAscending (λ a b. R (f a) (f b)) xs
  ascending_unmap [] h = tt
  ascending_unmap (x ∷ xs) h = (all_unmapped (R (f x)) f xs h.0, ascending_unmap xs h.1)

ascending-filter : {A : Type 0} (R : A → A → Type 0) (p : A → Bool) (xs : List A) → IsAscending R xs → IsAscending R (filter p xs)
ascending-filter R p [] h = tt
ascending-filter R p (x ∷ xs) h = elim (p x) as (λ b. IsAscending R (cond b (x ∷ filter p xs) (filter p xs))) [ true ↦ (all-filter (R x) p xs h.0, ascending-filter R p xs h.1) | false ↦ ascending-filter R p xs h.1 ]

-- ---- numbers and identifiers of versions, as those of sqlite's lists

abbrev Below : VersionedObject → VersionedObject → Type 0
Below a b = a.number < b.number

numbers_ascend : (vs : List VersionedObject) → NumbersRise vs → IsAscending Below vs
numbers_ascend [] h = tt
numbers_ascend (v ∷ vs) h = (h.0, numbers_ascend vs h.1)

abbrev Untied : VersionedObject → VersionedObject → Type 0
Untied a b = is_eq (by_identifier a b) ≡ false

distinct_untied : (vs : List VersionedObject) → IsDistinct (eq_by_cmp by_identifier) vs → IsAscending Untied vs
unfolding IsDistinct
distinct_untied [] h = tt
distinct_untied (v ∷ vs) h = (h.0, distinct_untied vs h.1)

-- ---- the rows of a revision

abbrev Apart : Entry → Entry → Type 0
Apart a b = is_eq (entry_order a b) ≡ false

all_untied : (cs : List Command) → HasHistories (versions cs) → IsAscending Apart (entries_of cs)
all_untied cs all = ascending_unmap Untied version_in (entries_of cs) (subst (IsAscending Untied) (sym (versions_of_entries cs)) (distinct_untied (versions cs) (identifiers_apart (versions cs) all)))

pub listing_untied : (r : ℕ) (lines : List VersionRow) (cs : List Command) → AreLinesOf lines (entries_of cs) → HasHistories (versions cs) → HaveNoTies identifier_order (lines_at r lines)
listing_untied r lines cs rows all =
    ascending-filter (λ a b. is_eq (identifier_order a b) ≡ false) _ lines
    (lines_ascend (λ a b. is_eq (identifier_order a b) ≡ false) Apart (λ l m e f h k apart. ap is_eq (order_same l m e f h k) ∙ apart) lines (entries_of cs) rows (all_untied cs all))

-- ---- the rows of an object

-- what rises is sorted
sorted : {A : Type 0} (cmp : A → A → Ordering) (xs : List A) → IsAscending (λ a b. cmp a b ≡ Less) xs → sort_by cmp xs ≡ xs
sorted cmp [] h = refl
sorted cmp (x ∷ []) h = refl
sorted cmp (x ∷ (y ∷ xs)) h = ap (insert_sorted cmp x) (sorted cmp (y ∷ xs) h.1) ∙ rw h.0.0 refl

abbrev kept_of : ObjectId → List Entry → List Entry
kept_of object es = filter (λ entry. is_of object (version_in entry)) es

versions_kept : (object : ObjectId) (cs : List Command) → map version_in (kept_of object (entries_of cs)) ≡ history object (versions cs)
versions_kept object cs = sym (filter-map (is_of object) version_in (entries_of cs)) ∙ ap (history object) (versions_of_entries cs)

numbers_kept : (object : ObjectId) (cs : List Command) → HasHistories (versions cs) → IsAscending (λ (a b : Entry). a.version.number < b.version.number) (kept_of object (entries_of cs))
numbers_kept object cs all = ascending_unmap Below version_in (kept_of object (entries_of cs)) (subst (IsAscending Below) (sym (versions_kept object cs)) (numbers_ascend (history object (versions cs)) (numbers_rise 1 (history object (versions cs)) (all object))))

cmp_not_equal : (m n : ℕ) → m < n → is_eq (int_cmp (pos m) (pos n)) ≡ false
cmp_not_equal m n h = rw (cmp_less m n h) refl

-- the lines of an object are those of its versions
own_lines : (object : ObjectId) (lines : List VersionRow) (cs : List Command) → AreLinesOf lines (entries_of cs) → AreLinesOf (lines_of_object (object_number object) lines) (kept_of object (entries_of cs))
own_lines object lines cs rows = lines_filtered _ _ (λ l e h. ap (λ n. int_eq (pos n) (pos (object_number object))) (object_same l e h)) lines (entries_of cs) rows

abbrev Lower : Entry → Entry → Type 0
Lower a b = a.version.number < b.version.number

rises : (l m : VersionRow) (e f : Entry) → IsLineOf l e → IsLineOf m f → Lower e f → l.number < m.number
rises l m e f h k low = omega (arith, number_same l e h, number_same m f k, low)

pub history_untied : (object : ObjectId) (lines : List VersionRow) (cs : List Command) → AreLinesOf lines (entries_of cs) → HasHistories (versions cs) → HaveNoTies number_order (lines_of_object (object_number object) lines)
history_untied object lines cs rows all =
    lines_ascend (λ a b. is_eq (number_order a b) ≡ false) Lower (λ l m e f h k low. cmp_not_equal l.number m.number (rises l m e f h k low))
    (lines_of_object (object_number object) lines) (kept_of object (entries_of cs)) (own_lines object lines cs rows) (numbers_kept object cs all)

pub history_rows : (object : ObjectId) (lines : List VersionRow) (cs : List Command) → AreLinesOf lines (entries_of cs) → HasHistories (versions cs) → map outline_of (known (object_number object) lines) ≡ map outline (history object (versions cs))
history_rows object lines cs rows all =
    let own = own_lines object lines cs rows in
    let risen = lines_ascend (λ a b. number_order a b ≡ Less) Lower (λ l m e f h k low. cmp_less l.number m.number (rises l m e f h k low)) (lines_of_object (object_number object) lines) (kept_of object (entries_of cs)) own (numbers_kept object cs all) in
    ap (map outline_of) (sorted number_order (lines_of_object (object_number object) lines) risen) ∙ outlines_same (lines_of_object (object_number object) lines) (kept_of object (entries_of cs)) own ∙ ap (map outline) (versions_kept object cs)
