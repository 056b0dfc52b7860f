-- What a query over one table finds.
use Rattle.std.proofs.Common.{◌≡◌, ℕ, pos, ◌+◌, ◌<ℤ◌, List, [], ◌∷◌, map, filter, Bool, true, false, cond, None, refl, sym, ap, subst, ◌∙◌, IsPermutation, Ordering, Less, int_cmp, is_eq}
use Rattle.std.specs.List.{list_all, enumerate_from}
use Rattle.sqlite_value.specs.Order.{Row}
use Rattle.sqlite_trees.specs.Tree.{Trees}
use Rattle.sqlite_sql.specs.Term.{Term, Env, eval_all, holds}
use Rattle.sqlite_sql.specs.Query.{Query, inner, end, matches, IsAnswer, IsKept, output, output_cmp, page, Output}
use Rattle.sqlite_sql.specs.Group.{IsGrouped}
use Rattle.std.proofs.lemmas.List.Sorted.{IsPermutation-map}
use Rattle.sqlite.proofs.Callers.{one_permutation}
use Rattle.sqlite_typed.proofs.AnswerLemmas.{Source, at_end, last_table}
use Rattle.sqlite_keyed.specs.Lists.{sort_by}
use Rattle.sqlite_keyed.proofs.ListLemmas.{filter-map, filter_same, map-map, map_same, ascending-map, ascending_weaker, ascending_from_map, ascending-filter}
use Rattle.sqlite_keyed.proofs.SortLemmas.{sorted_is-sort_by, sort_by-map, sorted_unique}
use Rattle.sqlite_sql.proofs.QueryLemmas.{output_cmp_total}
use Rattle.cad_tables.specs.Holding.{row_of, rows_of}
use Rattle.cad_tables.specs.VersionRow.{VersionRow}
use Rattle.cad_tables.specs.Listing.{HaveNoTies}
use Rattle.cad_tables.proofs.Places.{place, lines_keyed, less_place}

-- a query that is not grouped and keeps what is alike, and matches once
pub one_answer : (q : Query) (db : Trees) (params : Row) (env : Env) (rows : List Row) → q.group ≡ None → q.distinct ≡ false
    → matches db q.filter q.from (params ∷ []) ≡ env ∷ [] → IsAnswer q db params rows → rows ≡ page q params (eval_all q.project env ∷ [])
one_answer q db params env rows no_group no_distinct found a =
    let staged = subst (λ g. IsGrouped g params (matches db q.filter q.from (params ∷ [])) a.staged) no_group a.grouped in
    let kept = subst (λ d. IsKept d q.collations (map (output q) a.staged) a.kept) no_distinct a.distinct in
    let all : a.kept ≡ output q env ∷ [] = kept ∙ ap (map (output q)) (staged ∙ found) in
    let ordered = one_permutation (output q env) a.ordered (subst (λ k. IsPermutation k a.ordered) all a.same) in
    a.shown ∙ ap (λ xs. page q params (map (λ (p : Output). p.1) xs)) ordered

-- the lines that pass a test, without their places
tests_kept : (test : VersionRow → Bool) (n : ℕ) (ys : List VersionRow) → map (λ (line : ℕ × VersionRow). line.1) (filter (λ (line : ℕ × VersionRow). test line.1) (enumerate_from n ys)) ≡ filter test ys
tests_kept test n [] = refl
tests_kept test n (y ∷ ys) = elim (test y) as (λ b. map (λ (line : ℕ × VersionRow). line.1) (cond b ((n, y) ∷ filter (λ (line : ℕ × VersionRow). test line.1) (enumerate_from (n + 1) ys)) (filter (λ (line : ℕ × VersionRow). test line.1) (enumerate_from (n + 1) ys))) ≡ cond b (y ∷ filter test ys) (filter test ys))
    [ true ↦ ap (λ l. y ∷ l) (tests_kept test (n + 1) ys) | false ↦ tests_kept test (n + 1) ys ]

module _ (db : Trees) (tree : ℕ) (xs : List VersionRow) (stored : db tree ≡ rows_of xs) where
  abbrev pub the_table : Source db (inner tree end) (ℕ × VersionRow)
  the_table = last_table db tree (row_of) place (enumerate_from 1 xs) stored (lines_keyed 1 xs) (at_end db)

  -- what WHERE finds, by a test on the lines
  pub finds : (terms : List Term) (params : Row) (p : ℕ × VersionRow → Bool) → ((line : ℕ × VersionRow) → list_all (holds (params ∷ row_of line ∷ [])) terms ≡ p line)
      → matches db terms (inner tree end) (params ∷ []) ≡ map (λ line. params ∷ row_of line ∷ []) (filter p (enumerate_from 1 xs))
  finds terms params p tests = the_table.covers terms (params ∷ []) ∙ filter-map _ _ (enumerate_from 1 xs) ∙ ap (map (λ line. params ∷ row_of line ∷ [])) (filter_same _ p tests (enumerate_from 1 xs))

-- A query in no order.
module _ (db : Trees) (tree : ℕ) (xs : List VersionRow) (stored : db tree ≡ rows_of xs)
    (q : Query) (from_it : q.from ≡ inner tree end) (no_group : q.group ≡ None) (no_distinct : q.distinct ≡ false) (params : Row)
    (test : VersionRow → Bool) (tests : (line : ℕ × VersionRow) → list_all (holds (params ∷ row_of line ∷ [])) q.filter ≡ test line.1)
    (show : VersionRow → Row) (shows : (a : ℕ × VersionRow) → eval_all q.project (params ∷ row_of a ∷ []) ≡ show a.1) where
  pub in_any_order : (rows : List Row) → IsAnswer q db params rows → (all : List Row) × IsPermutation (map show (filter test xs)) all × (rows ≡ page q params all)
  in_any_order rows a =
      let lines = filter (λ (line : ℕ × VersionRow). test line.1) (enumerate_from 1 xs) in
      let found = subst (λ f. matches db q.filter f (params ∷ []) ≡ map (λ line. params ∷ row_of line ∷ []) lines) (sym from_it) (finds db tree xs stored q.filter params (λ line. test line.1) tests) in
      let staged = subst (λ g. IsGrouped g params (matches db q.filter q.from (params ∷ [])) a.staged) no_group a.grouped in
      let kept = subst (λ d. IsKept d q.collations (map (output q) a.staged) a.kept) no_distinct a.distinct in
      let shown_line = λ (line : ℕ × VersionRow). output q (params ∷ row_of line ∷ []) in
      let all : a.kept ≡ map shown_line lines = kept ∙ ap (map (output q)) (staged ∙ found) ∙ map-map (output q) _ lines in
      let all_shown : map (λ (o : Output). o.1) (map shown_line lines) ≡ map show (filter test xs) =
      map-map (λ (o : Output). o.1) shown_line lines ∙ map_same _ (λ (line : ℕ × VersionRow). show line.1) shows lines ∙ sym (map-map show (λ (line : ℕ × VersionRow). line.1) lines) ∙ ap (map show) (tests_kept test 1 xs) in (
        map (λ (o : Output). o.1) a.ordered,
        subst (λ l. IsPermutation l (map (λ (o : Output). o.1) a.ordered)) all_shown (IsPermutation-map (λ (o : Output). o.1) (map shown_line lines) a.ordered (subst (λ k. IsPermutation k a.ordered) all a.same)),
        a.shown,
      )

-- A query in an order that leaves no ties among the rows that it finds.
module _ (db : Trees) (tree : ℕ) (xs : List VersionRow) (stored : db tree ≡ rows_of xs)
    (q : Query) (from_it : q.from ≡ inner tree end) (no_group : q.group ≡ None) (no_distinct : q.distinct ≡ false) (params : Row)
    (test : VersionRow → Bool) (tests : (line : ℕ × VersionRow) → list_all (holds (params ∷ row_of line ∷ [])) q.filter ≡ test line.1)
    (order : VersionRow → VersionRow → Ordering) (orders : (a b : ℕ × VersionRow) → output_cmp q (output q (params ∷ row_of a ∷ [])) (output q (params ∷ row_of b ∷ [])) ≡ order a.1 b.1)
    (show : VersionRow → Row) (shows : (a : ℕ × VersionRow) → eval_all q.project (params ∷ row_of a ∷ []) ≡ show a.1) where
  abbrev shown_line : ℕ × VersionRow → Output
  shown_line line = output q (params ∷ row_of line ∷ [])

  pub in_order : (rows : List Row) → HaveNoTies order (filter test xs) → IsAnswer q db params rows → rows ≡ page q params (map show (sort_by order (filter test xs)))
  in_order rows apart a =
      let lines = filter (λ (line : ℕ × VersionRow). test line.1) (enumerate_from 1 xs) in
      let found = subst (λ f. matches db q.filter f (params ∷ []) ≡ map (λ line. params ∷ row_of line ∷ []) lines) (sym from_it) (finds db tree xs stored q.filter params (λ line. test line.1) tests) in
      let staged = subst (λ g. IsGrouped g params (matches db q.filter q.from (params ∷ [])) a.staged) no_group a.grouped in
      let kept = subst (λ d. IsKept d q.collations (map (output q) a.staged) a.kept) no_distinct a.distinct in
      let all : a.kept ≡ map shown_line lines = kept ∙ ap (map (output q)) (staged ∙ found) ∙ map-map (output q) _ lines in
      let untied : HaveNoTies order (map (λ (line : ℕ × VersionRow). line.1) lines) = subst (HaveNoTies order) (sym (tests_kept test 1 xs)) apart in
      let apart_lines = ascending-map (λ x y. is_eq (output_cmp q x y) ≡ false) shown_line lines
      (ascending_weaker _ (λ x y. is_eq (output_cmp q (shown_line x) (shown_line y)) ≡ false) (λ x y h. ap is_eq (orders x y) ∙ h) lines
      (ascending_from_map (λ x y. is_eq (order x y) ≡ false) (λ (line : ℕ × VersionRow). line.1) lines untied)) in
      let ordered = sorted_is-sort_by (output_cmp q) (output_cmp_total q) _ a.ordered apart_lines (subst (λ k. IsPermutation k a.ordered) all a.same) a.sorted
      ∙ sort_by-map (output_cmp q) shown_line lines ∙ (λ i. map shown_line (sort_by (λ x y. orders x y i) lines)) in
      let sorted_lines = sort_by (λ (x y : ℕ × VersionRow). order x.1 y.1) lines in
      let all_shown : map (λ (o : Output). o.1) (map shown_line sorted_lines) ≡ map show (sort_by order (filter test xs)) =
      map-map (λ (o : Output). o.1) shown_line sorted_lines ∙ map_same _ (λ (line : ℕ × VersionRow). show line.1) shows sorted_lines ∙ sym (map-map show (λ (line : ℕ × VersionRow). line.1) sorted_lines)
      ∙ ap (map show) (sym (sort_by-map order (λ (line : ℕ × VersionRow). line.1) lines) ∙ ap (sort_by order) (tests_kept test 1 xs)) in
      a.shown ∙ ap (λ l. page q params (map (λ (o : Output). o.1) l)) ordered ∙ ap (page q params) all_shown

-- A query in the order of the places.
module _ (db : Trees) (tree : ℕ) (xs : List VersionRow) (stored : db tree ≡ rows_of xs)
    (q : Query) (from_it : q.from ≡ inner tree end) (no_group : q.group ≡ None) (no_distinct : q.distinct ≡ false) (params : Row)
    (test : ℕ × VersionRow → Bool) (tests : (line : ℕ × VersionRow) → list_all (holds (params ∷ row_of line ∷ [])) q.filter ≡ test line)
    (orders : (a b : ℕ × VersionRow) → output_cmp q (output q (params ∷ row_of a ∷ [])) (output q (params ∷ row_of b ∷ [])) ≡ int_cmp (pos a.0) (pos b.0))
    (show : VersionRow → Row) (shows : (a : ℕ × VersionRow) → eval_all q.project (params ∷ row_of a ∷ []) ≡ show a.1) where
  abbrev shown_at : ℕ × VersionRow → Output
  shown_at line = output q (params ∷ row_of line ∷ [])

  pub in_place : (rows : List Row) → IsAnswer q db params rows → rows ≡ page q params (map show (map (λ (line : ℕ × VersionRow). line.1) (filter test (enumerate_from 1 xs))))
  in_place rows a =
      let lines = filter test (enumerate_from 1 xs) in
      let found = subst (λ f. matches db q.filter f (params ∷ []) ≡ map (λ line. params ∷ row_of line ∷ []) lines) (sym from_it) (finds db tree xs stored q.filter params test tests) in
      let staged = subst (λ g. IsGrouped g params (matches db q.filter q.from (params ∷ [])) a.staged) no_group a.grouped in
      let kept = subst (λ d. IsKept d q.collations (map (output q) a.staged) a.kept) no_distinct a.distinct in
      let all : a.kept ≡ map shown_at lines = kept ∙ ap (map (output q)) (staged ∙ found) ∙ map-map (output q) _ lines in
      let rising = ascending-map (λ x y. output_cmp q x y ≡ Less) shown_at lines
      (ascending_weaker (λ x y. pos x.0 <ℤ pos y.0) (λ x y. output_cmp q (shown_at x) (shown_at y) ≡ Less) (λ x y h. orders x y ∙ less_place x.0 y.0 h) lines
      (ascending-filter (λ x y. pos x.0 <ℤ pos y.0) test (enumerate_from 1 xs) (lines_keyed 1 xs))) in
      let ordered = sorted_unique (output_cmp q) (output_cmp_total q) (map shown_at lines) a.ordered rising (subst (λ k. IsPermutation k a.ordered) all a.same) a.sorted in
      let all_shown : map (λ (o : Output). o.1) (map shown_at lines) ≡ map show (map (λ (line : ℕ × VersionRow). line.1) lines) =
      map-map (λ (o : Output). o.1) shown_at lines ∙ map_same _ (λ (line : ℕ × VersionRow). show line.1) shows lines ∙ sym (map-map show (λ (line : ℕ × VersionRow). line.1) lines) in
      a.shown ∙ ap (λ l. page q params (map (λ (o : Output). o.1) l)) ordered ∙ ap (page q params) all_shown
