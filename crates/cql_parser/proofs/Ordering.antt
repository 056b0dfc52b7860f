-- The places of a tree ascend where those of its tokens do.
use Rattle.std.proofs.Common.{◌≡◌, ℕ, ◌+◌, ◌<◌, ◌≤◌, Bool, List, [], ◌∷◌, refl, arith}
use Rattle.cql_lexer.specs.Mark.{Mark, at}
use Rattle.cql_tree.specs.Syntax.{Syntax, Parts, part, parts_of, joined, node, Op, or_op, and_op, not_op, compare_op, like_op, between_op, in_op, is_null_op, computed_op, casei_op, date_op, interval_op, point_op, polygon_op, ring_op, bbox_op, spatial_op, temporal_op, keyed, place_of}
use Rattle.cql_parser.specs.Grammar.{IsWhole, number_rule, plus_rule, minus_rule, IsBound, text_bound, name_bound, IsCornersRest, corners_end, corners_more, IsRing, ring_rule, IsRingsRest, rings_end, rings_more, IsNegation, plain, negated, IsOr, or_rule, IsOrRest, or_end, or_more, IsAnd, and_rule, IsAndRest, and_end, and_more, IsNot, not_rule, plain_rule, IsPredicate, predicate_rule, IsTail, no_tail, compare_tail, like_tail, between_tail, in_tail, null_tail, IsItemsRest, items_end, items_more, IsSum, sum_rule, IsSumRest, sum_end, sum_more, IsProduct, product_rule, IsProductRest, product_end, product_more, IsPrimary, paren_rule, name_rule, text_rule, whole_rule, true_rule, false_rule, casei_rule, date_rule, interval_rule, point_rule, polygon_rule, bbox_rule, spatial_rule, temporal_rule}
use Rattle.cql_tree.specs.declared.expression.Operation.{Operation}
use Rattle.cql_tree.specs.Order.{Ascend, InOrder, leaf_in_order, node_in_order, AreInOrder, no_part, one_part, IsOrdered}
use Rattle.cql_tree.specs.lemmas.OrderLemmas.{are_not_beyond}

-- ---- orders

same : (n : ℕ) → n ≤ n
same n = omega (arith)

above : {from to : ℕ} {t : Syntax} → InOrder from t to → from ≤ place_of t
above (leaf_in_order h g) = h
above (node_in_order h g f ps) = h

below : {from to : ℕ} {t : Syntax} → InOrder from t to → place_of t < to
below (leaf_in_order h g) = g
below (node_in_order h g f ps) = omega (arith, g, f)

earlier : {from to : ℕ} {t : Syntax} (first : ℕ) → first ≤ from → InOrder from t to → InOrder first t to
earlier first e (leaf_in_order h g) = leaf_in_order (omega (arith, e, h)) g
earlier first e (node_in_order h g f ps) = node_in_order (omega (arith, e, h)) g f ps

tight : {from to : ℕ} {t : Syntax} → InOrder from t to → InOrder (place_of t) t to
tight (leaf_in_order h g) = leaf_in_order (omega (arith)) g
tight (node_in_order h g f ps) = node_in_order (omega (arith)) g f ps

mutual
  later : {from to : ℕ} {t : Syntax} (last : ℕ) → to ≤ last → InOrder from t to → InOrder from t last
  later last e (leaf_in_order h g) = leaf_in_order h (omega (arith, e, g))
  later last e (node_in_order h g f ps) = node_in_order h g (omega (arith, e, f)) (all_later last e ps)

  all_later : {from to : ℕ} {ts : Parts} (last : ℕ) → to ≤ last → AreInOrder from ts to → AreInOrder from ts last
  all_later last e (no_part h) = no_part (omega (arith, e, h))
  all_later last e (one_part t ts) = one_part t (all_later last e ts)

-- a node at its first part's place
node_orders : {from middle to : ℕ} {f : Syntax} {ts : Parts} (op : Op) → ((n : ℕ) → keyed op n ≡ n) →
    InOrder from f middle → AreInOrder middle ts to → InOrder from (node op (part f ts)) to
node_orders {f} op e t ts =
    let a = above t in let b = below t in let c = are_not_beyond ts in
    node_in_order (rw (e (place_of f)) a) (rw (e (place_of f)) (omega (arith))) (omega (arith, b, c)) (one_part (tight t) ts)

-- a node at its keyword's place
keyed_orders : {from middle to : ℕ} {f : Syntax} {ts : Parts} (op : Op) (p : ℕ) → ((n : ℕ) → keyed op n ≡ p) → from ≤ p →
    InOrder (p + 1) f middle → AreInOrder middle ts to → InOrder from (node op (part f ts)) to
keyed_orders {f} op p e h t ts =
    let a = above t in let b = below t in let c = are_not_beyond ts in
    node_in_order (rw (e (place_of f)) h) (rw (e (place_of f)) (omega (arith, a))) (omega (arith, b, c))
    (one_part (tight t) ts)

joined_orders : {from middle to : ℕ} {f : Syntax} (op : Op) (ts : List Syntax) → ((n : ℕ) → keyed op n ≡ n) →
    InOrder from f middle → AreInOrder middle (parts_of ts) to → InOrder from (joined op (f ∷ ts)) to
joined_orders {to = to} op [] e t (no_part h) = later to h t
joined_orders op (u ∷ us) e t ts = node_orders op e t ts

-- ---- tokens

-- the tree's places lie before those of what is left
abbrev Ordered : ℕ → Syntax → List Mark → Type 0
Ordered from t ys = (to : ℕ) × InOrder from t to × Ascend to ys

abbrev AllOrdered : ℕ → List Syntax → List Mark → Type 0
AllOrdered from ts ys = (to : ℕ) × AreInOrder from (parts_of ts) to × Ascend to ys

lower : (xs : List Mark) (first from : ℕ) → first ≤ from → Ascend from xs → Ascend first xs
lower [] first from e h = tt
lower (at p s ∷ xs) first from e h = let g = h.0 in (omega (arith, e, g), h.1)

-- with a token behind it
closed_orders : {from q : ℕ} {t : Syntax} (to : ℕ) → InOrder from t to → to ≤ q → InOrder from t (q + 1)
closed_orders {q = q} to t h = later (q + 1) (omega (arith, h)) t

whole_orders : {xs ys : List Mark} {t : Syntax} (from : ℕ) → IsWhole xs t ys → Ascend from xs → Ordered from t ys
whole_orders from (number_rule {p}) h = (p + 1, leaf_in_order h.0 (omega (arith)), h.1)
whole_orders from (plus_rule {p} {q}) h =
    let a = h.0 in let b = h.1.0 in (q + 1, leaf_in_order (omega (arith, a, b)) (omega (arith)), h.1.1)
whole_orders from (minus_rule {p} {q}) h =
    let a = h.0 in let b = h.1.0 in (q + 1, leaf_in_order (omega (arith, a, b)) (omega (arith)), h.1.1)

bound_orders : {xs ys : List Mark} {t : Syntax} (from : ℕ) → IsBound xs t ys → Ascend from xs → Ordered from t ys
bound_orders from (text_bound {p}) h = (p + 1, leaf_in_order h.0 (omega (arith)), h.1)
bound_orders from (name_bound {p}) h = (p + 1, leaf_in_order h.0 (omega (arith)), h.1)

corners_order : {xs ys : List Mark} {ts : List Syntax} (from : ℕ) → IsCornersRest xs ts ys → Ascend from xs →
    AllOrdered from ts ys
corners_order from (corners_end {p}) h = let a = h.0 in (p + 1, no_part (omega (arith, a)), h.1)
corners_order from (corners_more {p} x y rest) h =
    let a = h.0 in
    let u = whole_orders (p + 1) x h.1 in
    let v = whole_orders u.0 y u.2 in
    let r = corners_order v.0 rest v.2 in
    (r.0, one_part (earlier from (omega (arith, a)) u.1) (one_part v.1 r.1), r.2)

ring_orders : {xs ys : List Mark} {t : Syntax} (from : ℕ) → IsRing xs t ys → Ascend from xs → Ordered from t ys
ring_orders from (ring_rule {p} x y rest) h =
    let a = h.0 in
    let u = whole_orders (p + 1) x h.1 in
    let v = whole_orders u.0 y u.2 in
    let r = corners_order v.0 rest v.2 in
    (r.0, node_orders ring_op (λ n. refl) (earlier from (omega (arith, a)) u.1) (one_part v.1 r.1), r.2)

rings_order : {xs ys : List Mark} {ts : List Syntax} (from : ℕ) → IsRingsRest xs ts ys → Ascend from xs →
    AllOrdered from ts ys
rings_order from (rings_end {p}) h = let a = h.0 in (p + 1, no_part (omega (arith, a)), h.1)
rings_order from (rings_more {p} ring rest) h =
    let a = h.0 in
    let f = ring_orders (p + 1) ring h.1 in
    let r = rings_order f.0 rest f.2 in
    (r.0, one_part (earlier from (omega (arith, a)) f.1) r.1, r.2)

negation_orders : {n : Bool} {xs ys : List Mark} (from : ℕ) → IsNegation n xs ys → Ascend from xs → Ascend from ys
negation_orders from plain h = h
negation_orders from (negated {p} {xs}) h = let a = h.0 in lower xs from (p + 1) (omega (arith, a)) h.1

mutual
  or_orders : {xs ys : List Mark} {t : Syntax} (from : ℕ) → IsOr xs t ys → Ascend from xs → Ordered from t ys
  or_orders from (or_rule {ts = ts} a rest) h =
      let f = and_orders from a h in
      let r = or_rest f.0 rest f.2 in
      (r.0, joined_orders or_op ts (λ n. refl) f.1 r.1, r.2)

  or_rest : {xs ys : List Mark} {ts : List Syntax} (from : ℕ) → IsOrRest xs ts ys → Ascend from xs → AllOrdered from ts ys
  or_rest from or_end h = (from, no_part (same _), h)
  or_rest from (or_more {p} a rest) h =
      let e = h.0 in
      let f = and_orders (p + 1) a h.1 in
      let r = or_rest f.0 rest f.2 in
      (r.0, one_part (earlier from (omega (arith, e)) f.1) r.1, r.2)

  and_orders : {xs ys : List Mark} {t : Syntax} (from : ℕ) → IsAnd xs t ys → Ascend from xs → Ordered from t ys
  and_orders from (and_rule {ts = ts} a rest) h =
      let f = not_orders from a h in
      let r = and_rest f.0 rest f.2 in
      (r.0, joined_orders and_op ts (λ n. refl) f.1 r.1, r.2)

  and_rest : {xs ys : List Mark} {ts : List Syntax} (from : ℕ) → IsAndRest xs ts ys → Ascend from xs → AllOrdered from ts ys
  and_rest from and_end h = (from, no_part (same _), h)
  and_rest from (and_more {p} a rest) h =
      let e = h.0 in
      let f = not_orders (p + 1) a h.1 in
      let r = and_rest f.0 rest f.2 in
      (r.0, one_part (earlier from (omega (arith, e)) f.1) r.1, r.2)

  not_orders : {xs ys : List Mark} {t : Syntax} (from : ℕ) → IsNot xs t ys → Ascend from xs → Ordered from t ys
  not_orders from (not_rule {p} a) h =
      let f = predicate_orders (p + 1) a h.1 in
      (f.0, keyed_orders (not_op p) p (λ n. refl) h.0 f.1 (no_part (same _)), f.2)
  not_orders from (plain_rule a) h = predicate_orders from a h

  predicate_orders : {xs ys : List Mark} {t : Syntax} (from : ℕ) → IsPredicate xs t ys → Ascend from xs → Ordered from t ys
  predicate_orders from (predicate_rule a tail) h = let f = sum_orders from a h in tail_orders from f.0 f.1 tail f.2

  tail_orders : {xs ys : List Mark} {a t : Syntax} (from middle : ℕ) → InOrder from a middle → IsTail a xs t ys →
      Ascend middle xs → Ordered from t ys
  tail_orders from middle o no_tail h = (middle, o, h)
  tail_orders from middle o (compare_tail {p} {c} b) h =
      let e = h.0 in
      let f = sum_orders (p + 1) b h.1 in (
        f.0,
        node_orders (compare_op c) (λ n. refl) o
            (one_part (earlier middle (omega (arith, e)) f.1) (no_part (same _))),
        f.2,
      )
  tail_orders from middle o (like_tail {p} {n} neg b) h =
      let g = negation_orders middle neg h in
      let e = g.0 in
      let f = sum_orders (p + 1) b g.1 in (
        f.0,
        node_orders (like_op n) (λ m. refl) o
            (one_part (earlier middle (omega (arith, e)) f.1) (no_part (same _))),
        f.2,
      )
  tail_orders from middle o (between_tail {p} {q} {n} neg b c) h =
      let g = negation_orders middle neg h in
      let e = g.0 in
      let f = sum_orders (p + 1) b g.1 in
      let d = f.2.0 in
      let k = sum_orders (q + 1) c f.2.1 in (
        k.0,
        node_orders (between_op n) (λ m. refl) o
            (one_part (earlier middle (omega (arith, e)) f.1)
            (one_part (earlier f.0 (omega (arith, d)) k.1) (no_part (same _)))),
        k.2,
      )
  tail_orders from middle o (in_tail {p} {q} {n} neg b rest) h =
      let g = negation_orders middle neg h in
      let e = g.0 in
      let d = g.1.0 in
      let f = sum_orders (q + 1) b g.1.1 in
      let r = items_order f.0 rest f.2 in
      (r.0, node_orders (in_op n) (λ m. refl) o (one_part (earlier middle (omega (arith, e, d)) f.1) r.1), r.2)
  tail_orders from middle o (null_tail {p} {q} {n} {xs = us} neg) h =
      let e = h.0 in
      let g = negation_orders (p + 1) neg h.1 in
      let d = g.0 in
      (q + 1, node_orders (is_null_op n) (λ m. refl) o (no_part (omega (arith, e, d))), g.1)

  items_order : {xs ys : List Mark} {ts : List Syntax} (from : ℕ) → IsItemsRest xs ts ys → Ascend from xs →
      AllOrdered from ts ys
  items_order from (items_end {p}) h = let a = h.0 in (p + 1, no_part (omega (arith, a)), h.1)
  items_order from (items_more {p} b rest) h =
      let e = h.0 in
      let f = sum_orders (p + 1) b h.1 in
      let r = items_order f.0 rest f.2 in
      (r.0, one_part (earlier from (omega (arith, e)) f.1) r.1, r.2)

  sum_orders : {xs ys : List Mark} {t : Syntax} (from : ℕ) → IsSum xs t ys → Ascend from xs → Ordered from t ys
  sum_orders from (sum_rule {operations = operations} {ts = ts} a rest) h =
      let f = product_orders from a h in
      let r = sum_rest f.0 rest f.2 in
      (r.0, joined_orders (computed_op operations) ts (λ n. refl) f.1 r.1, r.2)

  sum_rest : {xs ys : List Mark} {operations : List Operation} {ts : List Syntax} (from : ℕ) → IsSumRest xs operations ts ys → Ascend from xs →
      AllOrdered from ts ys
  sum_rest from sum_end h = (from, no_part (same _), h)
  sum_rest from (sum_more {p} s a rest) h =
      let e = h.0 in
      let f = product_orders (p + 1) a h.1 in
      let r = sum_rest f.0 rest f.2 in
      (r.0, one_part (earlier from (omega (arith, e)) f.1) r.1, r.2)

  product_orders : {xs ys : List Mark} {t : Syntax} (from : ℕ) → IsProduct xs t ys → Ascend from xs → Ordered from t ys
  product_orders from (product_rule {operations = operations} {ts = ts} a rest) h =
      let f = primary_orders from a h in
      let r = product_rest f.0 rest f.2 in
      (r.0, joined_orders (computed_op operations) ts (λ n. refl) f.1 r.1, r.2)

  product_rest : {xs ys : List Mark} {operations : List Operation} {ts : List Syntax} (from : ℕ) → IsProductRest xs operations ts ys →
      Ascend from xs → AllOrdered from ts ys
  product_rest from product_end h = (from, no_part (same _), h)
  product_rest from (product_more {p} s a rest) h =
      let e = h.0 in
      let f = primary_orders (p + 1) a h.1 in
      let r = product_rest f.0 rest f.2 in
      (r.0, one_part (earlier from (omega (arith, e)) f.1) r.1, r.2)

  primary_orders : {xs ys : List Mark} {t : Syntax} (from : ℕ) → IsPrimary xs t ys → Ascend from xs → Ordered from t ys
  primary_orders from (paren_rule {p} {q} a) h =
      let e = h.0 in
      let f = or_orders (p + 1) a h.1 in
      (q + 1, earlier from (omega (arith, e)) (closed_orders f.0 f.1 f.2.0), f.2.1)
  primary_orders from (name_rule {p}) h = (p + 1, leaf_in_order h.0 (omega (arith)), h.1)
  primary_orders from (text_rule {p}) h = (p + 1, leaf_in_order h.0 (omega (arith)), h.1)
  primary_orders from (whole_rule w) h = whole_orders from w h
  primary_orders from (true_rule {p}) h = (p + 1, leaf_in_order h.0 (omega (arith)), h.1)
  primary_orders from (false_rule {p}) h = (p + 1, leaf_in_order h.0 (omega (arith)), h.1)
  primary_orders from (casei_rule {p} {q} {r} a) h =
      let e = h.1.0 in
      let f = sum_orders (q + 1) a h.1.1 in (
        r + 1,
        keyed_orders (casei_op p) p (λ n. refl) h.0
            (earlier (p + 1) (omega (arith, e)) (closed_orders f.0 f.1 f.2.0)) (no_part (same _)),
        f.2.1,
      )
  primary_orders from (date_rule {p} {q} {r} {u}) h =
      let e = h.1.0 in
      let d = h.1.1.0 in
      let c = h.1.1.1.0 in (
        u + 1,
        keyed_orders (date_op p) p (λ n. refl) h.0
            (leaf_in_order (omega (arith, e, d)) (omega (arith, c))) (no_part (same _)),
        h.1.1.1.1,
      )
  primary_orders from (interval_rule {p} {q} {r} {u} a b) h =
      let e = h.1.0 in
      let f = bound_orders (q + 1) a h.1.1 in
      let d = f.2.0 in
      let g = bound_orders (r + 1) b f.2.1 in (
        u + 1,
        keyed_orders (interval_op p) p (λ n. refl) h.0 (earlier (p + 1) (omega (arith, e)) f.1)
            (one_part (earlier f.0 (omega (arith, d)) (closed_orders g.0 g.1 g.2.0)) (no_part (same _))),
        g.2.1,
      )
  primary_orders from (point_rule {p} {q} {r} a b) h =
      let e = h.1.0 in
      let f = whole_orders (q + 1) a h.1.1 in
      let g = whole_orders f.0 b f.2 in (
        r + 1,
        keyed_orders (point_op p) p (λ n. refl) h.0 (earlier (p + 1) (omega (arith, e)) f.1)
            (one_part (closed_orders g.0 g.1 g.2.0) (no_part (same _))),
        g.2.1,
      )
  primary_orders from (polygon_rule {p} {q} a rest) h =
      let e = h.1.0 in
      let f = ring_orders (q + 1) a h.1.1 in
      let g = rings_order f.0 rest f.2 in
      (g.0, keyed_orders (polygon_op p) p (λ n. refl) h.0 (earlier (p + 1) (omega (arith, e)) f.1) g.1, g.2)
  primary_orders from (bbox_rule {p} {q} {r} {u} {v} {w} a b c d) h =
      let e = h.1.0 in
      let f = whole_orders (q + 1) a h.1.1 in
      let f' = f.2.0 in
      let g = whole_orders (r + 1) b f.2.1 in
      let g' = g.2.0 in
      let k = whole_orders (u + 1) c g.2.1 in
      let k' = k.2.0 in
      let l = whole_orders (v + 1) d k.2.1 in (
        w + 1,
        keyed_orders (bbox_op p) p (λ n. refl) h.0 (earlier (p + 1) (omega (arith, e)) f.1)
            (one_part (earlier f.0 (omega (arith, f')) g.1)
            (one_part (earlier g.0 (omega (arith, g')) k.1)
            (one_part (earlier k.0 (omega (arith, k')) (closed_orders l.0 l.1 l.2.0)) (no_part (same _))))),
        l.2.1,
      )
  primary_orders from (spatial_rule {p} {q} {r} {u} {c} a b) h =
      let e = h.1.0 in
      let f = sum_orders (q + 1) a h.1.1 in
      let d = f.2.0 in
      let g = sum_orders (r + 1) b f.2.1 in (
        u + 1,
        keyed_orders (spatial_op p c) p (λ n. refl) h.0 (earlier (p + 1) (omega (arith, e)) f.1)
            (one_part (earlier f.0 (omega (arith, d)) (closed_orders g.0 g.1 g.2.0)) (no_part (same _))),
        g.2.1,
      )
  primary_orders from (temporal_rule {p} {q} {r} {u} {c} a b) h =
      let e = h.1.0 in
      let f = sum_orders (q + 1) a h.1.1 in
      let d = f.2.0 in
      let g = sum_orders (r + 1) b f.2.1 in (
        u + 1,
        keyed_orders (temporal_op p c) p (λ n. refl) h.0 (earlier (p + 1) (omega (arith, e)) f.1)
            (one_part (earlier f.0 (omega (arith, d)) (closed_orders g.0 g.1 g.2.0)) (no_part (same _))),
        g.2.1,
      )

-- a tree that is read from tokens whose places ascend
pub is_ordered : (xs ys : List Mark) (t : Syntax) → IsOr xs t ys → Ascend 0 xs → IsOrdered t
is_ordered xs ys t r h = let o = or_orders 0 r h in ∣ (0, o.0, o.1) ∣₁
