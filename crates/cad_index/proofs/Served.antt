-- What the index of a property says of the features' values, and what lies in no range and near no box.
use Rattle.std.proofs.Common.{◌≡◌, ◌∙◌, ℕ, zero, suc, ◌+◌, Bool, true, false, List, [], ◌∷◌, length, map, get_or, ap, sym, refl, subst, arith, true≢false, Option, Some, None}
use Rattle.std.specs.Prelude.{◌&&◌, ⊤}
use Rattle.std.specs.List.{All, range_with_len}
use Rattle.std.proofs.lemmas.List.Elements.{All-tail}
use Rattle.cad_schema.specs.declared.collection.Collection.{Collection}
use Rattle.cad_schema.specs.declared.property.PropertyKind.{PropertyKind}
use Rattle.cad_schema.specs.declared.property.PropertyKind.TheVariants as kind
use Rattle.cad_schema.specs.Attributes.{Named}
use Rattle.cad_schema.specs.Schema.{schema_of}
use Rattle.cad_feature.specs.Features.{Item, datum_at, FitSchema, AreFeaturesOf}
use Rattle.cad_feature.specs.Limits.{Limit, limit_of, scalar_datum}
use Rattle.cad_feature.specs.Values.{Datum, null, a_text, a_whole, a_flag, a_day, a_span, a_spot, an_area, IsOfKind}
use Rattle.cad_feature.specs.declared.range.Edge.{Edge}
use Rattle.cad_feature.specs.declared.range.Edge.TheVariants as edge
use Rattle.cad_feature.specs.declared.range.Scalar.{Scalar}
use Rattle.cad_feature.specs.declared.range.Scalar.TheVariants as scalar
use Rattle.cad_grid.specs.Blocks.{Block}
use Rattle.cad_grid.specs.Near.{block_in, block_at_place, is_candidate}
use Rattle.cad_grid.specs.Grids.{blocks_at, near_positions}
use Rattle.cad_range.specs.Ranges.{compared, has_order, is_above, is_under, lies_between}
use Rattle.cad_ordered.specs.Columns.{Column}
use Rattle.cad_ordered.specs.Edges.{IsEdgeOf, scalar_kind}
use Rattle.cad_ordered.specs.Ranged.{column, range_positions, value_at}
use Rattle.cad_index.specs.declared.index.Index.TheVariants.{Unindexed}
use Rattle.cad_index.specs.declared.indexes.Indexes.{Indexes}
use Rattle.cad_index.specs.Indexed.{index_of, indexes_from, indexes_of, index_at, ordered_in, grid_in, AreIndexesOf}
use Rattle.cad_positions.specs.lemmas.PositionSetLemmas.{none_kept}

-- ---- the values of a property, by its index

-- of an ordered index they are of its kind, and without one they have no order
abbrev pub SaysOrder : Option Column → Datum → Type 0
SaysOrder None d = has_order d ≡ false
SaysOrder (Some o) d = IsOfKind o.kind d

-- without a grid they are no shapes
abbrev pub SaysPlace : Option (List (Option Block)) → Datum → Type 0
SaysPlace None d = block_in d ≡ None
SaysPlace (Some g) d = ⊤

-- an ordered index has them by position
abbrev pub IsColumnOf : Option Column → ℕ → List Item → Type 0
IsColumnOf None place xs = ⊤
IsColumnOf (Some o) place xs = o.values ≡ column place xs

-- and so has a grid their cells
abbrev pub IsGridOf : Option (List (Option Block)) → ℕ → List Item → Type 0
IsGridOf None place xs = ⊤
IsGridOf (Some g) place xs = g ≡ blocks_at place xs

abbrev ordered_kind : PropertyKind → Bool
ordered_kind kind.Text = true
ordered_kind kind.Whole = true
ordered_kind kind.Flag = false
ordered_kind kind.Day = true
ordered_kind kind.Span = false
ordered_kind kind.Spot = false
ordered_kind kind.Area = false

abbrev shape_kind : PropertyKind → Bool
shape_kind kind.Text = false
shape_kind kind.Whole = false
shape_kind kind.Flag = false
shape_kind kind.Day = false
shape_kind kind.Span = false
shape_kind kind.Spot = true
shape_kind kind.Area = true

no_order : (k : PropertyKind) (d : Datum) → IsOfKind k d → ordered_kind k ≡ false → has_order d ≡ false
no_order k null h e = refl
no_order k (a_text t) h e = absurd (true≢false (sym (ap ordered_kind h.0) ∙ e))
no_order k (a_whole n) h e = absurd (true≢false (sym (ap ordered_kind h.0) ∙ e))
no_order k (a_flag b) h e = refl
no_order k (a_day day) h e = absurd (true≢false (sym (ap ordered_kind h) ∙ e))
no_order k (a_span days) h e = refl
no_order k (a_spot p) h e = refl
no_order k (an_area region) h e = refl

no_shape : (k : PropertyKind) (d : Datum) → IsOfKind k d → shape_kind k ≡ false → block_in d ≡ None
no_shape k null h e = refl
no_shape k (a_text t) h e = refl
no_shape k (a_whole n) h e = refl
no_shape k (a_flag b) h e = refl
no_shape k (a_day day) h e = refl
no_shape k (a_span days) h e = refl
no_shape k (a_spot p) h e = absurd (true≢false (sym (ap shape_kind h) ∙ e))
no_shape k (an_area region) h e = absurd (true≢false (sym (ap shape_kind h) ∙ e))

order_here : (k : PropertyKind) (place : ℕ) (xs : List Item) (d : Datum) → IsOfKind k d → SaysOrder (ordered_in (index_of k place xs)) d
order_here kind.Text place xs d h = h
order_here kind.Whole place xs d h = h
order_here kind.Flag place xs d h = no_order kind.Flag d h refl
order_here kind.Day place xs d h = h
order_here kind.Span place xs d h = no_order kind.Span d h refl
order_here kind.Spot place xs d h = no_order kind.Spot d h refl
order_here kind.Area place xs d h = no_order kind.Area d h refl

place_here : (k : PropertyKind) (place : ℕ) (xs : List Item) (d : Datum) → IsOfKind k d → SaysPlace (grid_in (index_of k place xs)) d
place_here kind.Text place xs d h = no_shape kind.Text d h refl
place_here kind.Whole place xs d h = no_shape kind.Whole d h refl
place_here kind.Flag place xs d h = no_shape kind.Flag d h refl
place_here kind.Day place xs d h = no_shape kind.Day d h refl
place_here kind.Span place xs d h = no_shape kind.Span d h refl
place_here kind.Spot place xs d h = tt
place_here kind.Area place xs d h = tt

column_here : (k : PropertyKind) (place : ℕ) (xs : List Item) → IsColumnOf (ordered_in (index_of k place xs)) place xs
column_here kind.Text place xs = refl
column_here kind.Whole place xs = refl
column_here kind.Flag place xs = tt
column_here kind.Day place xs = refl
column_here kind.Span place xs = tt
column_here kind.Spot place xs = tt
column_here kind.Area place xs = tt

grid_here : (k : PropertyKind) (place : ℕ) (xs : List Item) → IsGridOf (grid_in (index_of k place xs)) place xs
grid_here kind.Text place xs = tt
grid_here kind.Whole place xs = tt
grid_here kind.Flag place xs = tt
grid_here kind.Day place xs = tt
grid_here kind.Span place xs = tt
grid_here kind.Spot place xs = refl
grid_here kind.Area place xs = refl

order_from : (ps : List Named) (ds : List Datum) (a k : ℕ) (xs : List Item) → FitSchema ps ds → SaysOrder (ordered_in (get_or (indexes_from a ps xs) k Unindexed)) (get_or ds k null)
order_from [] [] a k xs f = refl
order_from [] (d ∷ ds) a k xs f = absurd f
order_from (p ∷ ps) [] a k xs f = absurd f
order_from (p ∷ ps) (d ∷ ds) a zero xs f = order_here p.1 a xs d f.0
order_from (p ∷ ps) (d ∷ ds) a (suc k) xs f = order_from ps ds (a + 1) k xs f.1

place_from : (ps : List Named) (ds : List Datum) (a k : ℕ) (xs : List Item) → FitSchema ps ds → SaysPlace (grid_in (get_or (indexes_from a ps xs) k Unindexed)) (get_or ds k null)
place_from [] [] a k xs f = refl
place_from [] (d ∷ ds) a k xs f = absurd f
place_from (p ∷ ps) [] a k xs f = absurd f
place_from (p ∷ ps) (d ∷ ds) a zero xs f = place_here p.1 a xs d f.0
place_from (p ∷ ps) (d ∷ ds) a (suc k) xs f = place_from ps ds (a + 1) k xs f.1

column_from : (ps : List Named) (a k : ℕ) (xs : List Item) → IsColumnOf (ordered_in (get_or (indexes_from a ps xs) k Unindexed)) (a + k) xs
column_from [] a k xs = tt
column_from (p ∷ ps) a zero xs = let n : a + 0 ≡ a = omega arith in rw n (column_here p.1 a xs)
column_from (p ∷ ps) a (suc k) xs = let n : a + suc k ≡ (a + 1) + k = omega arith in rw n (column_from ps (a + 1) k xs)

grid_from : (ps : List Named) (a k : ℕ) (xs : List Item) → IsGridOf (grid_in (get_or (indexes_from a ps xs) k Unindexed)) (a + k) xs
grid_from [] a k xs = tt
grid_from (p ∷ ps) a zero xs = let n : a + 0 ≡ a = omega arith in rw n (grid_here p.1 a xs)
grid_from (p ∷ ps) a (suc k) xs = let n : a + suc k ≡ (a + 1) + k = omega arith in rw n (grid_from ps (a + 1) k xs)

-- ---- values of another kind than an end

apart : (k : PropertyKind) (s : Scalar) (d : Datum) → IsOfKind k d → ¬ (scalar_kind s ≡ k) → compared d (scalar_datum s) ≡ None
apart k (scalar.Text t) null h other = refl
apart k (scalar.Text t) (a_text u) h other = absurd (other (sym h.0))
apart k (scalar.Text t) (a_whole n) h other = refl
apart k (scalar.Text t) (a_flag b) h other = refl
apart k (scalar.Text t) (a_day day) h other = refl
apart k (scalar.Text t) (a_span days) h other = refl
apart k (scalar.Text t) (a_spot p) h other = refl
apart k (scalar.Text t) (an_area region) h other = refl
apart k (scalar.Whole m) null h other = refl
apart k (scalar.Whole m) (a_text u) h other = refl
apart k (scalar.Whole m) (a_whole n) h other = absurd (other (sym h.0))
apart k (scalar.Whole m) (a_flag b) h other = refl
apart k (scalar.Whole m) (a_day day) h other = refl
apart k (scalar.Whole m) (a_span days) h other = refl
apart k (scalar.Whole m) (a_spot p) h other = refl
apart k (scalar.Whole m) (an_area region) h other = refl
apart k (scalar.Day last) null h other = refl
apart k (scalar.Day last) (a_text u) h other = refl
apart k (scalar.Day last) (a_whole n) h other = refl
apart k (scalar.Day last) (a_flag b) h other = refl
apart k (scalar.Day last) (a_day day) h other = absurd (other (sym h))
apart k (scalar.Day last) (a_span days) h other = refl
apart k (scalar.Day last) (a_spot p) h other = refl
apart k (scalar.Day last) (an_area region) h other = refl

not_above : (k : PropertyKind) (low : Edge) (d : Datum) → IsOfKind k d → ¬ (IsEdgeOf k low) → is_above (limit_of low) d ≡ false
not_above k edge.Free d h other = absurd (other tt)
not_above k (edge.With s) d h other = rw (apart k s d h other) refl
not_above k (edge.Without s) d h other = rw (apart k s d h other) refl

not_under : (k : PropertyKind) (high : Edge) (d : Datum) → IsOfKind k d → ¬ (IsEdgeOf k high) → is_under (limit_of high) d ≡ false
not_under k edge.Free d h other = absurd (other tt)
not_under k (edge.With s) d h other = rw (apart k s d h other) refl
not_under k (edge.Without s) d h other = rw (apart k s d h other) refl

first_out : (a b c : Bool) → b ≡ false → (a && (b && c)) ≡ false
first_out true b c e = rw e refl
first_out false b c e = refl

second_out : (a b c : Bool) → c ≡ false → (a && (b && c)) ≡ false
second_out true true c e = e
second_out true false c e = refl
second_out false b c e = refl

low_apart : (k : PropertyKind) (low high : Edge) (d : Datum) → IsOfKind k d → ¬ (IsEdgeOf k low) → lies_between (limit_of low) (limit_of high) d ≡ false
low_apart k low high d h other = first_out (has_order d) (is_above (limit_of low) d) (is_under (limit_of high) d) (not_above k low d h other)

high_apart : (k : PropertyKind) (low high : Edge) (d : Datum) → IsOfKind k d → ¬ (IsEdgeOf k high) → lies_between (limit_of low) (limit_of high) d ≡ false
high_apart k low high d h other = second_out (has_order d) (is_above (limit_of low) d) (is_under (limit_of high) d) (not_under k high d h other)

unordered : (low high : Limit) (d : Datum) → has_order d ≡ false → lies_between low high d ≡ false
unordered low high d e = rw e refl

-- ---- positions that none have

module _ {A : Type 0} (f : Item → A) (none : A) (P : A → Type 0) (here : P none) where
  each : (xs : List Item) → All (λ x. P (f x)) xs → (p : ℕ) → P (get_or (map f xs) p none)
  each [] all p = here
  each (x ∷ xs) all zero = all 0 x (omega arith)
  each (x ∷ xs) all (suc p) = each xs (All-tail (λ y. P (f y)) x xs all) p

no_positions : (place : ℕ) (xs : List Item) (low high : Limit) → All (λ x. lies_between low high (datum_at x place) ≡ false) xs → [] ≡ range_positions (column place xs) low high
unfolding range_positions
no_positions place xs low high all = sym (none_kept (λ p. lies_between low high (get_or (column place xs) p null)) (range_with_len 0 (length (column place xs)))
    (each (value_at place) null (λ d. lies_between low high d ≡ false) refl xs all))

nothing_near : (asked : Block) (b : Option Block) → b ≡ None → is_candidate asked b ≡ false
nothing_near asked b e = rw e refl

pub no_near : (place : ℕ) (xs : List Item) (asked : Block) → All (λ x. block_at_place place x ≡ None) xs → [] ≡ near_positions (blocks_at place xs) asked
unfolding near_positions
no_near place xs asked all = sym (none_kept (λ p. is_candidate asked (get_or (blocks_at place xs) p None)) (range_with_len 0 (length (blocks_at place xs)))
    (each (block_at_place place) None (λ b. is_candidate asked b ≡ false) refl xs (λ k d h. nothing_near asked _ (all k d h))))

-- ---- what the indexes of a collection's features say

module _ (collection : Collection) (xs : List Item) (listed : AreFeaturesOf collection xs) (indexes : Indexes) (made : AreIndexesOf collection xs indexes) (place : ℕ) where
  order_of : (o : Option Column) → o ≡ ordered_in (index_at indexes.properties.items place) → All (λ x. SaysOrder o (datum_at x place)) xs
  order_of o e = λ k d h.
      let all : SaysOrder (ordered_in (index_at (indexes_of collection xs) place)) (datum_at (get_or xs k d) place) = order_from (schema_of collection) _ 0 place xs (listed.each k d h).fits in
      subst (λ c. SaysOrder c (datum_at (get_or xs k d) place)) (sym (e ∙ ap (λ is. ordered_in (index_at is place)) made.properties)) all

  shape_of : (g : Option (List (Option Block))) → g ≡ grid_in (index_at indexes.properties.items place) → All (λ x. SaysPlace g (datum_at x place)) xs
  shape_of g e = λ k d h.
      let all : SaysPlace (grid_in (index_at (indexes_of collection xs) place)) (datum_at (get_or xs k d) place) = place_from (schema_of collection) _ 0 place xs (listed.each k d h).fits in
      subst (λ c. SaysPlace c (datum_at (get_or xs k d) place)) (sym (e ∙ ap (λ is. grid_in (index_at is place)) made.properties)) all

  start : 0 + place ≡ place
  start = omega arith

  values_of : (o : Option Column) → o ≡ ordered_in (index_at indexes.properties.items place) → IsColumnOf o place xs
  values_of o e =
      let all : IsColumnOf (ordered_in (index_at (indexes_of collection xs) place)) place xs = rw start at (column_from (schema_of collection) 0 place xs) in
      subst (λ c. IsColumnOf c place xs) (sym (e ∙ ap (λ is. ordered_in (index_at is place)) made.properties)) all

  pub without_order : (low high : Limit) → None ≡ ordered_in (index_at indexes.properties.items place) → [] ≡ range_positions (column place xs) low high
  without_order low high e = no_positions place xs low high (λ k d h. unordered low high _ (order_of None e k d h))

  pub with_order : (o : Column) (low high : Limit) → Some o ≡ ordered_in (index_at indexes.properties.items place) → range_positions o.values low high ≡ range_positions (column place xs) low high
  with_order o low high e = ap (λ vs. range_positions vs low high) (values_of (Some o) e)

  pub low_misfit : (o : Column) (low high : Edge) → Some o ≡ ordered_in (index_at indexes.properties.items place) → ¬ (IsEdgeOf o.kind low) → [] ≡ range_positions (column place xs) (limit_of low) (limit_of high)
  low_misfit o low high e other = no_positions place xs (limit_of low) (limit_of high) (λ k d h. low_apart o.kind low high _ (order_of (Some o) e k d h) other)

  pub high_misfit : (o : Column) (low high : Edge) → Some o ≡ ordered_in (index_at indexes.properties.items place) → ¬ (IsEdgeOf o.kind high) → [] ≡ range_positions (column place xs) (limit_of low) (limit_of high)
  high_misfit o low high e other = no_positions place xs (limit_of low) (limit_of high) (λ k d h. high_apart o.kind low high _ (order_of (Some o) e k d h) other)

  blocks_of : (g : Option (List (Option Block))) → g ≡ grid_in (index_at indexes.properties.items place) → IsGridOf g place xs
  blocks_of g e =
      let all : IsGridOf (grid_in (index_at (indexes_of collection xs) place)) place xs = rw start at (grid_from (schema_of collection) 0 place xs) in
      subst (λ c. IsGridOf c place xs) (sym (e ∙ ap (λ is. grid_in (index_at is place)) made.properties)) all

  pub with_grid : (g : List (Option Block)) (asked : Block) → Some g ≡ grid_in (index_at indexes.properties.items place) → near_positions g asked ≡ near_positions (blocks_at place xs) asked
  with_grid g asked e = ap (λ bs. near_positions bs asked) (blocks_of (Some g) e)

  pub without_grid : (asked : Block) → None ≡ grid_in (index_at indexes.properties.items place) → [] ≡ near_positions (blocks_at place xs) asked
  without_grid asked e = no_near place xs asked (shape_of None e)
