-- The equalities of an IN, one after the other.
use Rattle.std.proofs.Common.{◌≡◌, ◌∙◌, ap, sym, refl, ℕ, suc, ◌+◌, ◌≤◌, List, map, length, get_or, drop, add-one, drop-cons, Bool, true, false, ◌||◌, arith}
use Rattle.std.specs.List.{list_any}
use Rattle.std.proofs.lemmas.List.{drop_all}
use Rattle.cad_feature.specs.Features.{Item}
use Rattle.cql_meaning.specs.Sides.{Sides}
use Rattle.cql_types.specs.declared.filter.Filter.{Filter}
use Rattle.cql_rewrite.specs.declared.form.Normal.{Normal}
use Rattle.cql_rewrite.specs.Costs.{any_equal, bound, bound_on, count_in, count_of, IsCounted, least, least_of_some, total}
use Rattle.cql_rewrite.specs.Meets.{Written, meets}
use Rattle.cql_rewrite.proofs.Forms.{or_assoc, or_false}
use Rattle.cql_rewrite.proofs.Least.{count_alike, least_under}

module _ {T : Type 0} (equal : Item → T → T → Sides) (a : T) where
  pub any_next : (x : Item) (forms new : List Normal) (n : Normal) (item : T) (items : List T) (i : ℕ) {whole : Bool} → suc i ≤ length items → item ≡ get_or items i item → list_any (meets x) new ≡ (list_any (meets x) forms || meets x n) → meets x n ≡ (equal x a item).yes →
      (list_any (meets x) forms || any_equal equal x a (drop i items)) ≡ whole → (list_any (meets x) new || any_equal equal x a (drop (i + 1) items)) ≡ whole
  any_next x forms new n item items i h at added same so_far =
      let left : any_equal equal x a (drop i items) ≡ ((equal x a item).yes || any_equal equal x a (drop (i + 1) items)) = rw (add-one, drop-cons items i item, ← at) refl in
      let more : list_any (meets x) new ≡ (list_any (meets x) forms || (equal x a item).yes) = added ∙ ap (λ b. list_any (meets x) forms || b) same in
      ap (λ b. b || any_equal equal x a (drop (i + 1) items)) more
      ∙ or_assoc (list_any (meets x) forms) (equal x a item).yes (any_equal equal x a (drop (i + 1) items))
      ∙ ap (λ b. list_any (meets x) forms || b) (sym left)
      ∙ so_far

  pub any_done : (x : Item) (forms : List Normal) (items : List T) (i : ℕ) {whole : Bool} → length items ≤ i → (list_any (meets x) forms || any_equal equal x a (drop i items)) ≡ whole → list_any (meets x) forms ≡ whole
  any_done x forms items i h so_far =
      sym (or_false (list_any (meets x) forms)) ∙ sym (ap (λ l. list_any (meets x) forms || any_equal equal x a l) (drop_all i items h)) ∙ so_far

  -- one equality costs no more than how many have the item's value
  pub one_costs : (t : List Written) (n : Normal) (item : T) → IsCounted n → ((x : Item) → meets x n ≡ (equal x a item).yes) → least t n ≤ count_of t equal a item
  one_costs t n item counted same =
      let alike : least t n ≡ count_of t equal a item = counted t ∙ count_alike (λ (x : Written). meets x.item n) (λ (x : Written). (equal x.item a item).yes) t (λ x. same x.item) in
      omega (arith, alike)

  pub sum_next : (t : List Written) (forms new : List Normal) (n : Normal) (item : T) (items : List T) (i : ℕ) {whole : ℕ} → suc i ≤ length items → item ≡ get_or items i item → total (map (least t) new) ≤ total (map (least t) forms) + least t n → least t n ≤ count_of t equal a item →
      total (map (least t) forms) + total (map (count_of t equal a) (drop i items)) ≤ whole → total (map (least t) new) + total (map (count_of t equal a) (drop (i + 1) items)) ≤ whole
  sum_next t forms new n item items i h at added part so_far =
      let left : total (map (count_of t equal a) (drop i items)) ≡ count_of t equal a item + total (map (count_of t equal a) (drop (i + 1) items)) = rw (add-one, drop-cons items i item, ← at) refl in
      omega (arith, left, added, part, so_far)

  pub sum_done : (t : List Written) (forms : List Normal) (n : Normal) (items : List T) (i : ℕ) → length items ≤ i → least t n ≤ least_of_some t forms →
      total (map (least t) forms) + total (map (count_of t equal a) (drop i items)) ≤ total (map (count_of t equal a) items) → least t n ≤ count_in true t equal a items
  sum_done t forms n items i h under so_far =
      let left : total (map (count_of t equal a) (drop i items)) ≡ 0 = ap (λ l. total (map (count_of t equal a) l)) (drop_all i items h) in
      omega (arith, left, under, so_far)

  pub member_costs : (side plain : Bool) (t : List Written) (n : Normal) (f : Filter) (items : List T) → bound t f ≡ count_in plain t equal a items → (side ≡ true → plain ≡ true → least t n ≤ count_in true t equal a items) → least t n ≤ bound_on side t f
  member_costs false plain t n f items b h = least_under t n
  member_costs true false t n f items b h = rw b (least_under t n)
  member_costs true true t n f items b h = rw b (h refl refl)
