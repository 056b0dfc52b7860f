-- Keys read beside their positions, sorted and parted.
use Rattle.std.proofs.Common.{◌≡◌, ◌∙◌, ℕ, zero, suc, ◌+◌, ◌<◌, Bool, true, false, List, [], ◌∷◌, ◌++◌, length, map, get_or, drop, drop-cons, add-one, append_assoc, ap, sym, refl, arith, Some}
use Rattle.std.specs.List.{zip, All}
use Rattle.std.specs.List.Sorted.{IsPermutation, IsSortedBy}
use Rattle.std.specs.declared.cmp.Ordering.{Ordering}
use Rattle.std.specs.declared.cmp.Ordering.TheVariants.{Less, Equal, Greater}
use Rattle.std.specs.Ordering.{is_lt, is_le, nat_cmp, ordering_then, ordering_reverse}
use Rattle.std.specs.Cmp.{IsTotalOrder}
use Rattle.std.proofs.lemmas.Bool.{false≢true}
use Rattle.std.proofs.lemmas.Cmp.{then_total, on_total, nat_cmp_total}
use Rattle.std.proofs.lemmas.List.{length-map, get_or-map, map-append}
use Rattle.std.proofs.lemmas.List.Elements.{All-get_or, All-tail}
use Rattle.std.proofs.lemmas.List.Sorted.{IsPermutation-map, ranks_by, sorted_far}
use Rattle.cad_feature.specs.Features.{Item}
use Rattle.cad_feature.specs.Values.{Datum, null, a_text, a_whole, a_flag, a_day, a_span, a_spot, an_area, IsOfKind}
use Rattle.cad_schema.specs.declared.property.PropertyKind.{PropertyKind}
use Rattle.cad_schema.specs.declared.property.PropertyKind.TheVariants as kind
use Rattle.cad_range.specs.Ranges.{compared, has_order}
use Rattle.cad_ordered.specs.Ranged.{column, value_at}
use Rattle.cad_ordered.specs.Columns.{keyed_from, IsAscending, IsOrderOf, AreOrdered}

-- ---- values of a kind that has an order

orders : PropertyKind → Bool
orders kind.Text = true
orders kind.Whole = true
orders kind.Flag = false
orders kind.Day = true
orders kind.Span = false
orders kind.Spot = false
orders kind.Area = false

null_or : (k : PropertyKind) (d : Datum) → orders k ≡ true → IsOfKind k d → has_order d ≡ false → d ≡ null
unfolding orders
null_or k null p u h = refl
null_or k (a_text x) p u h = absurd (false≢true (sym h))
null_or k (a_whole x) p u h = absurd (false≢true (sym h))
null_or k (a_day x) p u h = absurd (false≢true (sym h))
null_or k (a_flag x) p u h = absurd (false≢true (sym (ap orders u) ∙ p))
null_or k (a_span x) p u h = absurd (false≢true (sym (ap orders u) ∙ p))
null_or k (a_spot x) p u h = absurd (false≢true (sym (ap orders u) ∙ p))
null_or k (an_area x) p u h = absurd (false≢true (sym (ap orders u) ∙ p))

ordered_column : (k : PropertyKind) (place : ℕ) (xs : List Item) → orders k ≡ true → All (λ x. IsOfKind k (value_at place x)) xs → AreOrdered (column place xs)
ordered_column k place [] o all p h = refl
ordered_column k place (x ∷ xs) o all zero h = null_or k (value_at place x) o (All-get_or (λ y. IsOfKind k (value_at place y)) (x ∷ xs) 0 x (omega arith) all) h
ordered_column k place (x ∷ xs) o all (suc p) h = ordered_column k place xs o (All-tail (λ y. IsOfKind k (value_at place y)) x xs all) p h

pub texts_ordered : (place : ℕ) (xs : List Item) → All (λ x. IsOfKind kind.Text (value_at place x)) xs → AreOrdered (column place xs)
unfolding orders
texts_ordered place xs all = ordered_column kind.Text place xs refl all

pub wholes_ordered : (place : ℕ) (xs : List Item) → All (λ x. IsOfKind kind.Whole (value_at place x)) xs → AreOrdered (column place xs)
unfolding orders
wholes_ordered place xs all = ordered_column kind.Whole place xs refl all

pub days_ordered : (place : ℕ) (xs : List Item) → All (λ x. IsOfKind kind.Day (value_at place x)) xs → AreOrdered (column place xs)
unfolding orders
days_ordered place xs all = ordered_column kind.Day place xs refl all

-- ---- reading

pub has_order_from : (d : Datum) (o : Ordering) → compared d d ≡ Some o → has_order d ≡ true
has_order_from null o e = cc
has_order_from (a_text x) o e = refl
has_order_from (a_whole x) o e = refl
has_order_from (a_day x) o e = refl
has_order_from (a_flag x) o e = cc
has_order_from (a_span x) o e = cc
has_order_from (a_spot x) o e = cc
has_order_from (an_area x) o e = cc

module _ {K : Type 0} (f : K → Datum) where
  pub read_some : (pairs : List (K × ℕ)) (vs : List Datum) (p : ℕ) (k : K) (all : List (Datum × ℕ)) → p < length vs → f k ≡ get_or vs p null → has_order (get_or vs p null) ≡ true → map (λ (e : K × ℕ). (f e.0, e.1)) pairs ++ keyed_from p (drop p vs) ≡ all → map (λ (e : K × ℕ). (f e.0, e.1)) (pairs ++ (k, p) ∷ []) ++ keyed_from (p + 1) (drop (p + 1) vs) ≡ all
  read_some pairs vs p k all h e t i =
      let d : keyed_from p (drop p vs) ≡ (f k, p) ∷ keyed_from (p + 1) (drop (p + 1) vs) = rw (drop-cons vs p null, t, e, add-one) refl in
      rw map-append (append_assoc (map (λ (e : K × ℕ). (f e.0, e.1)) pairs) ((f k, p) ∷ []) (keyed_from (p + 1) (drop (p + 1) vs)) ∙ ap (λ xs. map (λ (e : K × ℕ). (f e.0, e.1)) pairs ++ xs) (sym d) ∙ i)

  pub read_none : (pairs : List (K × ℕ)) (vs : List Datum) (p : ℕ) (all : List (Datum × ℕ)) → p < length vs → has_order (get_or vs p null) ≡ false → map (λ (e : K × ℕ). (f e.0, e.1)) pairs ++ keyed_from p (drop p vs) ≡ all → map (λ (e : K × ℕ). (f e.0, e.1)) pairs ++ keyed_from (p + 1) (drop (p + 1) vs) ≡ all
  read_none pairs vs p all h t i =
      let d : keyed_from p (drop p vs) ≡ keyed_from (p + 1) (drop (p + 1) vs) = rw (drop-cons vs p null, t, add-one) refl in
      ap (λ xs. map (λ (e : K × ℕ). (f e.0, e.1)) pairs ++ xs) (sym d) ∙ i

  zip_map : (ks : List K) (ps : List ℕ) → map (λ (e : K × ℕ). (f e.0, e.1)) (zip ks ps) ≡ zip (map f ks) ps
  zip_map [] ps = refl
  zip_map (k ∷ ks) [] = refl
  zip_map (k ∷ ks) (p ∷ ps) = ap (λ xs. (f k, p) ∷ xs) (zip_map ks ps)

  zip_at : (ks : List K) (ps : List ℕ) (i : ℕ) (d : K × ℕ) → length ks ≡ length ps → i < length ps → get_or (zip ks ps) i d ≡ (get_or ks i d.0, get_or ps i d.1)
  zip_at [] [] i d h l = absurd (omega arith)
  zip_at [] (p ∷ ps) i d h l = absurd (omega arith)
  zip_at (x ∷ ks) [] i d h l = absurd (omega arith)
  zip_at (x ∷ ks) (p ∷ ps) zero d h l = refl
  zip_at (x ∷ ks) (p ∷ ps) (suc i) d h l = zip_at ks ps i d (omega arith) (omega arith)

  zip_length : (ks : List K) (ps : List ℕ) → length ks ≡ length ps → length (zip ks ps) ≡ length ps
  zip_length [] [] h = refl
  zip_length [] (p ∷ ps) h = absurd (omega arith)
  zip_length (d ∷ ks) [] h = absurd (omega arith)
  zip_length (d ∷ ks) (p ∷ ps) h = ap suc (zip_length ks ps (omega arith))

  at_most : (a b : Ordering) (o : Ordering) → a ≡ ordering_reverse b → is_lt (ordering_then b o) ≡ false → is_le a ≡ true
  at_most a Less o e h = absurd (false≢true (sym h))
  at_most a Equal o e h = rw e refl
  at_most a Greater o e h = rw e refl

  module _ {R : K → K → Ordering} (o : IsTotalOrder R) (law : (x y : K) → compared (f x) (f y) ≡ Some (R x y)) where
    ascends_by : (ks : List K) (ps : List ℕ) → length ks ≡ length ps → IsSortedBy (λ (x y : K × ℕ). is_lt (ordering_then (R x.0 y.0) (nat_cmp x.1 y.1))) (zip ks ps) → IsAscending (map f ks)
    ascends_by [] ps e up i j h l = absurd (omega arith)
    ascends_by (k ∷ ks) ps e up i j h l =
        let n : length (map f (k ∷ ks)) ≡ length (k ∷ ks) = length-map (k ∷ ks) f in
        let total = then_total (on_total (λ (x : K × ℕ). x.0) o) (on_total (λ (x : K × ℕ). x.1) nat_cmp_total) in
        let far = sorted_far (λ (x y : K × ℕ). is_lt (ordering_then (R x.0 y.0) (nat_cmp x.1 y.1))) (ranks_by total (λ (x : K × ℕ). x)) (zip (k ∷ ks) ps) up i j (k, 0) h (omega (arith, zip_length (k ∷ ks) ps e)) in
        let apart = rw (zip_at (k ∷ ks) ps i (k, 0) e (omega arith), zip_at (k ∷ ks) ps j (k, 0) e (omega arith)) at far in
        rw (get_or-map f (k ∷ ks) i k null (omega arith), get_or-map f (k ∷ ks) j k null (omega arith), law (get_or (k ∷ ks) i k) (get_or (k ∷ ks) j k)) (at_most _ _ _ (o.antisymm (get_or (k ∷ ks) i k) (get_or (k ∷ ks) j k)) apart)

    pub order_found : (pairs sorted : List (K × ℕ)) (ks : List K) (ps : List ℕ) (vs : List Datum) → map (λ (e : K × ℕ). (f e.0, e.1)) pairs ≡ keyed_from 0 vs → IsPermutation pairs sorted → IsSortedBy (λ (x y : K × ℕ). is_lt (ordering_then (R x.0 y.0) (nat_cmp x.1 y.1))) sorted → zip ks ps ≡ sorted → length ks ≡ length ps → IsOrderOf (map f ks) ps vs
    order_found pairs sorted ks ps vs given moved up parts e = record {
      ascends = ascends_by ks ps e (rw (← parts) at up);
      same = rw (← zip_map ks ps, parts, ← given) (IsPermutation-map (λ (e : K × ℕ). (f e.0, e.1)) pairs sorted moved);
      beside = length-map ks f ∙ e;
    }

pub zip_push : {K : Type 0} → (ks : List K) (ps : List ℕ) (k : K) (p : ℕ) → length ks ≡ length ps → zip (ks ++ k ∷ []) (ps ++ p ∷ []) ≡ zip ks ps ++ (k, p) ∷ []
zip_push [] [] k p e = refl
zip_push [] (q ∷ ps) k p e = absurd (omega arith)
zip_push (x ∷ ks) [] k p e = absurd (omega arith)
zip_push (x ∷ ks) (q ∷ ps) k p e = ap (λ xs. (x, q) ∷ xs) (zip_push ks ps k p (omega arith))
