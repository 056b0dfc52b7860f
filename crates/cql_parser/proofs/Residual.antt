-- What completes each state, and that one step keeps it.
use Rattle.std.proofs.Common.{◌≡◌, ℕ, Bool, true, false, List, [], ◌∷◌, ◌++◌, append_assoc, append-nil}
use Rattle.cad_day.specs.declared.relation.Relation.{Relation}
use Rattle.cql_lexer.specs.Mark.{Mark, at, opening, closing, comma, plus, minus, times, modulo, compare, word, name, text, number}
use Rattle.cql_lexer.specs.declared.token.SpatialRelation.{SpatialRelation}
use Rattle.cql_lexer.specs.declared.token.Keyword.TheVariants.{And, Or, Not, Like, Between, In, Is, Null, True, False, Div, Casei, Date, Interval, Point, Polygon, Bbox, Spatial, Temporal}
use Rattle.cql_tree.specs.declared.expression.Operation.{Operation}
use Rattle.cql_tree.specs.declared.expression.Operation.TheVariants as operation
use Rattle.cql_tree.specs.Syntax.{Syntax, joined, leaf, name_leaf, number_leaf, day_leaf, bound_leaf, Op, or_op, and_op, computed_op, casei_op, date_op, interval_op, point_op, polygon_op, ring_op, bbox_op, spatial_op, temporal_op}
use Rattle.cql_parser.specs.Grammar.{IsWhole, number_rule, plus_rule, minus_rule, IsBound, text_bound, name_bound, IsCornersRest, corners_end, corners_more, IsRing, ring_rule, IsRingsRest, rings_end, rings_more, IsNegation, negated, IsOr, or_rule, IsOrRest, or_end, or_more, IsAnd, and_rule, IsAndRest, and_end, and_more, IsNot, not_rule, plain_rule, IsPredicate, predicate_rule, IsTail, no_tail, compare_tail, like_tail, between_tail, in_tail, null_tail, IsItemsRest, items_end, items_more, IsSum, sum_rule, IsSumRest, sum_end, sum_more, plus_adds, minus_adds, IsProduct, product_rule, IsProductRest, product_end, product_more, times_multiplies, div_multiplies, modulo_multiplies, IsPrimary, paren_rule, name_rule, text_rule, whole_rule, true_rule, false_rule, casei_rule, date_rule, interval_rule, point_rule, polygon_rule, bbox_rule, spatial_rule, temporal_rule}
use Rattle.cql_parser.specs.Grammar as grammar
use Rattle.cql_parser.specs.Machine.{Sign, comma_sign, close_sign, Slot, open_slot, sign_slot, text_slot, bound_slot, whole_slot, corners_slot, sum_slot, ForOr, whole, in_paren, ForAnd, or_part, ForNot, and_part, ForPredicate, plain, under_not, ForSum, left, right, pattern, low, high, item, argument, ForProduct, sum_part, ForPrimary, product_part, ring_part, ForWhole, as_primary, as_slot, State, want_not, want_primary, after_sign, after_not, after_in, after_is, want_null, want_slot, have_factors, have_terms, have_sum, have_items, have_rings, have_ands, have_ors, have_or, want_product, want_sum, want_predicate, want_and, want_or, have_primary, have_predicate, have_whole, want_slots, not_node, compare_node, like_node, between_node, in_node, null_node, filled, Inner, tails, computes, Role, joins_or, joins_and, inner, role_of, Step, refuse, whole_tree, go_on, or_step, ors_step, and_step, ands_step, not_step, predicate_step, left_step, low_step, item_step, sign_step, sum_step, terms_step, product_step, factors_step, two_sums, date_slots, interval_slots, point_slots, ring_slots, polygon_slots, bbox_slots, begin_digits, begin_whole, begin_primary, begin_not, begin_negated, begin_items, begin_null, begin_is, slot_step, rings_step, on_first, step}

-- ---- the parts of a rule that no line of the grammar names

pub data Takes : Sign → List Mark → List Mark → Type 0 where
  closed : {p : ℕ} {xs : List Mark} → Takes close_sign (at p closing ∷ xs) xs
  parted : {p : ℕ} {xs : List Mark} → Takes comma_sign (at p comma ∷ xs) xs

pub data IsDigits : Bool → List Mark → Syntax → List Mark → Type 0 where
  digits : {n : Bool} {p : ℕ} {s : List ℕ} {xs : List Mark} →
      IsDigits n (at p (number s) ∷ xs) (leaf p (number_leaf n s)) xs

-- AND sum
pub data IsHigh : List Mark → Syntax → List Mark → Type 0 where
  high_end : {p : ℕ} {t : Syntax} {xs ys : List Mark} → IsSum xs t ys → IsHigh (at p (word And) ∷ xs) t ys

-- "(" sum { "," sum } ")"
pub data IsItems : List Mark → List Syntax → List Mark → Type 0 where
  items : {p : ℕ} {t : Syntax} {ts : List Syntax} {xs ys zs : List Mark} → IsSum xs t ys → IsItemsRest ys ts zs →
      IsItems (at p opening ∷ xs) (t ∷ ts) zs

-- [ NOT ] NULL
pub data IsNull : Bool → List Mark → List Mark → Type 0 where
  is_null : {p : ℕ} {xs : List Mark} → IsNull false (at p (word Null) ∷ xs) xs
  is_not_null : {p q : ℕ} {xs : List Mark} → IsNull true (at p (word Not) ∷ at q (word Null) ∷ xs) xs

pub data TakesNull : List Mark → List Mark → Type 0 where
  null : {p : ℕ} {xs : List Mark} → TakesNull (at p (word Null) ∷ xs) xs

-- what may follow a tail's NOT
pub data IsNegated : Syntax → List Mark → Syntax → List Mark → Type 0 where
  not_like : {p : ℕ} {a b : Syntax} {xs ys : List Mark} → IsSum xs b ys →
      IsNegated a (at p (word Like) ∷ xs) (like_node true a b) ys
  not_between : {p : ℕ} {a b c : Syntax} {xs ys zs : List Mark} → IsSum xs b ys → IsHigh ys c zs →
      IsNegated a (at p (word Between) ∷ xs) (between_node true a b c) zs
  not_in : {p : ℕ} {a : Syntax} {ts : List Syntax} {xs ys : List Mark} → IsItems xs ts ys →
      IsNegated a (at p (word In) ∷ xs) (in_node true a ts) ys

-- what stands in the slots of a function or a literal: its parts, and what is left
pub data Fills : List Slot → List Mark → List Syntax → List Mark → Type 0 where
  fill_end : {xs : List Mark} → Fills [] xs [] xs
  fill_open : {p : ℕ} {ss : List Slot} {ts : List Syntax} {xs ys : List Mark} → Fills ss xs ts ys →
      Fills (open_slot ∷ ss) (at p opening ∷ xs) ts ys
  fill_sign : {s : Sign} {ss : List Slot} {ts : List Syntax} {xs ys zs : List Mark} → Takes s xs ys → Fills ss ys ts zs →
      Fills (sign_slot s ∷ ss) xs ts zs
  fill_text : {p : ℕ} {w : List ℕ} {ss : List Slot} {ts : List Syntax} {xs ys : List Mark} → Fills ss xs ts ys →
      Fills (text_slot ∷ ss) (at p (text w) ∷ xs) (leaf p (day_leaf w) ∷ ts) ys
  fill_bound : {t : Syntax} {ss : List Slot} {ts : List Syntax} {xs ys zs : List Mark} → IsBound xs t ys →
      Fills ss ys ts zs → Fills (bound_slot ∷ ss) xs (t ∷ ts) zs
  fill_whole : {t : Syntax} {ss : List Slot} {ts : List Syntax} {xs ys zs : List Mark} → IsWhole xs t ys →
      Fills ss ys ts zs → Fills (whole_slot ∷ ss) xs (t ∷ ts) zs
  fill_last : {p : ℕ} {ss : List Slot} {ts : List Syntax} {xs ys : List Mark} → Fills ss xs ts ys →
      Fills (corners_slot ∷ ss) (at p closing ∷ xs) ts ys
  fill_corner : {p : ℕ} {ss : List Slot} {ts : List Syntax} {xs ys : List Mark} →
      Fills (whole_slot ∷ whole_slot ∷ corners_slot ∷ ss) xs ts ys → Fills (corners_slot ∷ ss) (at p comma ∷ xs) ts ys
  fill_sum : {s : Sign} {t : Syntax} {ss : List Slot} {ts : List Syntax} {xs ys zs ws : List Mark} → IsSum xs t ys →
      Takes s ys zs → Fills ss zs ts ws → Fills (sum_slot s ∷ ss) xs (t ∷ ts) ws

-- ---- what completes a part

-- after the part, these tokens complete the whole as this tree
abbrev mutual
  pub GetsOr : ForOr → Syntax → List Mark → Syntax → Type 0
  GetsOr whole t xs tree = (xs ≡ []) × (tree ≡ t)
  GetsOr (in_paren k) t xs tree = (ys : List Mark) × Takes close_sign xs ys × GetsPrimary k t ys tree

  pub GetsAnd : ForAnd → Syntax → List Mark → Syntax → Type 0
  GetsAnd (or_part us k) t xs tree =
      (ts : List Syntax) × (ys : List Mark) × IsOrRest xs ts ys × GetsOr k (joined or_op ((us ++ t ∷ []) ++ ts)) ys tree

  pub GetsNot : ForNot → Syntax → List Mark → Syntax → Type 0
  GetsNot (and_part us k) t xs tree =
      (ts : List Syntax) × (ys : List Mark) × IsAndRest xs ts ys × GetsAnd k (joined and_op ((us ++ t ∷ []) ++ ts)) ys tree

  pub GetsPredicate : ForPredicate → Syntax → List Mark → Syntax → Type 0
  GetsPredicate (plain k) t xs tree = GetsNot k t xs tree
  GetsPredicate (under_not p k) t xs tree = GetsNot k (not_node p t) xs tree

  pub GetsSum : ForSum → Syntax → List Mark → Syntax → Type 0
  GetsSum (left k) t xs tree = (r : Syntax) × (ys : List Mark) × IsTail t xs r ys × GetsPredicate k r ys tree
  GetsSum (right c a k) t xs tree = GetsPredicate k (compare_node c a t) xs tree
  GetsSum (pattern n a k) t xs tree = GetsPredicate k (like_node n a t) xs tree
  GetsSum (low n a k) t xs tree =
      (c : Syntax) × (ys : List Mark) × IsHigh xs c ys × GetsPredicate k (between_node n a t c) ys tree
  GetsSum (high n a b k) t xs tree = GetsPredicate k (between_node n a b t) xs tree
  GetsSum (item n a us k) t xs tree =
      (ts : List Syntax) × (ys : List Mark) × IsItemsRest xs ts ys ×
      GetsPredicate k (in_node n a ((us ++ t ∷ []) ++ ts)) ys tree
  GetsSum (argument s ss op us k) t xs tree =
      (ys : List Mark) × Takes s xs ys × (ts : List Syntax) × (zs : List Mark) × Fills ss ys ts zs ×
      GetsPrimary k (filled op ((us ++ t ∷ []) ++ ts)) zs tree

  pub GetsProduct : ForProduct → Syntax → List Mark → Syntax → Type 0
  GetsProduct (sum_part js us k) t xs tree =
      (operations : List Operation) × (ts : List Syntax) × (ys : List Mark) × IsSumRest xs operations ts ys ×
      GetsSum k (joined (computed_op (js ++ operations)) ((us ++ t ∷ []) ++ ts)) ys tree

  pub GetsPrimary : ForPrimary → Syntax → List Mark → Syntax → Type 0
  GetsPrimary (product_part ms us k) t xs tree =
      (operations : List Operation) × (ts : List Syntax) × (ys : List Mark) × IsProductRest xs operations ts ys ×
      GetsProduct k (joined (computed_op (ms ++ operations)) ((us ++ t ∷ []) ++ ts)) ys tree
  GetsPrimary (ring_part p us k) t xs tree =
      (ts : List Syntax) × (ys : List Mark) × IsRingsRest xs ts ys ×
      GetsPrimary k (filled (polygon_op p) ((us ++ t ∷ []) ++ ts)) ys tree

-- the slots are filled, and the tokens behind them complete the whole
abbrev pub GetsSlots : List Slot → Op → List Syntax → ForPrimary → List Mark → Syntax → Type 0
GetsSlots ss op us k xs tree =
    (ts : List Syntax) × (ys : List Mark) × Fills ss xs ts ys × GetsPrimary k (filled op (us ++ ts)) ys tree

abbrev pub GetsWhole : ForWhole → Syntax → List Mark → Syntax → Type 0
GetsWhole (as_primary k) t xs tree = GetsPrimary k t xs tree
GetsWhole (as_slot ss op us k) t xs tree = GetsSlots ss op (us ++ t ∷ []) k xs tree

-- these tokens complete the state as this tree
abbrev pub Completes : State → List Mark → Syntax → Type 0
Completes (want_not k) xs tree = (t : Syntax) × (ys : List Mark) × IsNot xs t ys × GetsNot k t ys tree
Completes (want_primary k) xs tree = (t : Syntax) × (ys : List Mark) × IsPrimary xs t ys × GetsPrimary k t ys tree
Completes (after_sign n k) xs tree = (t : Syntax) × (ys : List Mark) × IsDigits n xs t ys × GetsWhole k t ys tree
Completes (after_not a k) xs tree = (r : Syntax) × (ys : List Mark) × IsNegated a xs r ys × GetsPredicate k r ys tree
Completes (after_in n a k) xs tree =
    (ts : List Syntax) × (ys : List Mark) × IsItems xs ts ys × GetsPredicate k (in_node n a ts) ys tree
Completes (after_is a k) xs tree =
    (n : Bool) × (ys : List Mark) × IsNull n xs ys × GetsPredicate k (null_node n a) ys tree
Completes (want_null n a k) xs tree =
    (ys : List Mark) × TakesNull xs ys × GetsPredicate k (null_node n a) ys tree
Completes (want_slot s ss op us k) xs tree = GetsSlots (s ∷ ss) op us k xs tree
Completes (have_factors k ms us) xs tree =
    (operations : List Operation) × (ts : List Syntax) × (ys : List Mark) × IsProductRest xs operations ts ys ×
    GetsProduct k (joined (computed_op (ms ++ operations)) (us ++ ts)) ys tree
Completes (have_terms k js us) xs tree =
    (operations : List Operation) × (ts : List Syntax) × (ys : List Mark) × IsSumRest xs operations ts ys ×
    GetsSum k (joined (computed_op (js ++ operations)) (us ++ ts)) ys tree
Completes (have_sum k t) xs tree = GetsSum k t xs tree
Completes (have_items n a us k) xs tree =
    (ts : List Syntax) × (ys : List Mark) × IsItemsRest xs ts ys × GetsPredicate k (in_node n a (us ++ ts)) ys tree
Completes (have_rings p us k) xs tree =
    (ts : List Syntax) × (ys : List Mark) × IsRingsRest xs ts ys × GetsPrimary k (filled (polygon_op p) (us ++ ts)) ys tree
Completes (have_ands k us) xs tree =
    (ts : List Syntax) × (ys : List Mark) × IsAndRest xs ts ys × GetsAnd k (joined and_op (us ++ ts)) ys tree
Completes (have_ors k us) xs tree =
    (ts : List Syntax) × (ys : List Mark) × IsOrRest xs ts ys × GetsOr k (joined or_op (us ++ ts)) ys tree
Completes (have_or k t) xs tree = GetsOr k t xs tree

-- what a step leaves to be completed
abbrev pub Follows : Step → List Mark → Syntax → Type 0
Follows refuse xs tree = ⊥
Follows (whole_tree t) xs tree = (xs ≡ []) × (tree ≡ t)
Follows (go_on s) [] tree = ⊥
Follows (go_on s) (x ∷ xs) tree = Completes s xs tree

-- ---- a part that was read, and the state that has it

primary_completes : (k : ForPrimary) (t : Syntax) (xs : List Mark) (tree : Syntax) → GetsPrimary k t xs tree →
    Completes (have_primary k t) xs tree
primary_completes (product_part ms us k) t xs tree h = h
primary_completes (ring_part p us k) t xs tree h = h

primary_gets : (k : ForPrimary) (t : Syntax) (xs : List Mark) (tree : Syntax) → Completes (have_primary k t) xs tree →
    GetsPrimary k t xs tree
primary_gets (product_part ms us k) t xs tree h = h
primary_gets (ring_part p us k) t xs tree h = h

predicate_completes : (k : ForPredicate) (t : Syntax) (xs : List Mark) (tree : Syntax) → GetsPredicate k t xs tree →
    Completes (have_predicate k t) xs tree
predicate_completes (plain (and_part us k)) t xs tree h = h
predicate_completes (under_not p (and_part us k)) t xs tree h = h

predicate_gets : (k : ForPredicate) (t : Syntax) (xs : List Mark) (tree : Syntax) →
    Completes (have_predicate k t) xs tree → GetsPredicate k t xs tree
predicate_gets (plain (and_part us k)) t xs tree h = h
predicate_gets (under_not p (and_part us k)) t xs tree h = h

-- ---- what comes next, rule by rule

want_product_to : {xs ys : List Mark} {t : Syntax} (k : ForProduct) (tree : Syntax) → IsProduct xs t ys →
    GetsProduct k t ys tree → Completes (want_product k) xs tree
want_product_to k tree (product_rule f rest) g = (_, _, f, (_, _, _, rest, g))

want_product_from : (k : ForProduct) (xs : List Mark) (tree : Syntax) → Completes (want_product k) xs tree →
    (t : Syntax) × (ys : List Mark) × IsProduct xs t ys × GetsProduct k t ys tree
want_product_from k xs tree h = (_, _, product_rule h.2 h.3.3, h.3.4)

want_sum_to : {xs ys : List Mark} {t : Syntax} (k : ForSum) (tree : Syntax) → IsSum xs t ys →
    GetsSum k t ys tree → Completes (want_sum k) xs tree
want_sum_to k tree (sum_rule f rest) g = want_product_to (sum_part [] [] k) tree f (_, _, _, rest, g)

want_sum_from : (k : ForSum) (xs : List Mark) (tree : Syntax) → Completes (want_sum k) xs tree →
    (t : Syntax) × (ys : List Mark) × IsSum xs t ys × GetsSum k t ys tree
want_sum_from k xs tree h =
    let w = want_product_from (sum_part [] [] k) xs tree h in
    (_, _, sum_rule w.2 w.3.3, w.3.4)

want_predicate_to : {xs ys : List Mark} {t : Syntax} (k : ForPredicate) (tree : Syntax) →
    IsPredicate xs t ys → GetsPredicate k t ys tree → Completes (want_predicate k) xs tree
want_predicate_to k tree (predicate_rule a tail) g = want_sum_to (left k) tree a (_, _, tail, g)

want_predicate_from : (k : ForPredicate) (xs : List Mark) (tree : Syntax) →
    Completes (want_predicate k) xs tree →
    (t : Syntax) × (ys : List Mark) × IsPredicate xs t ys × GetsPredicate k t ys tree
want_predicate_from k xs tree h =
    let w = want_sum_from (left k) xs tree h in
    (_, _, predicate_rule w.2 w.3.2, w.3.3)

want_and_to : {xs ys : List Mark} {t : Syntax} (k : ForAnd) (tree : Syntax) → IsAnd xs t ys →
    GetsAnd k t ys tree → Completes (want_and k) xs tree
want_and_to k tree (and_rule n rest) g = (_, _, n, (_, _, rest, g))

want_and_from : (k : ForAnd) (xs : List Mark) (tree : Syntax) → Completes (want_and k) xs tree →
    (t : Syntax) × (ys : List Mark) × IsAnd xs t ys × GetsAnd k t ys tree
want_and_from k xs tree h = (_, _, and_rule h.2 h.3.2, h.3.3)

pub want_or_to : {xs ys : List Mark} {t : Syntax} (k : ForOr) (tree : Syntax) → IsOr xs t ys →
    GetsOr k t ys tree → Completes (want_or k) xs tree
want_or_to k tree (or_rule a rest) g = want_and_to (or_part [] k) tree a (_, _, rest, g)

pub want_or_from : (k : ForOr) (xs : List Mark) (tree : Syntax) → Completes (want_or k) xs tree →
    (t : Syntax) × (ys : List Mark) × IsOr xs t ys × GetsOr k t ys tree
want_or_from k xs tree h =
    let w = want_and_from (or_part [] k) xs tree h in
    (_, _, or_rule w.2 w.3.2, w.3.3)

want_slots_to : {ss : List Slot} {xs ys : List Mark} {us : List Syntax} (op : Op) (ts : List Syntax) (k : ForPrimary)
    (tree : Syntax) → Fills ss xs us ys → GetsPrimary k (filled op (ts ++ us)) ys tree →
    Completes (want_slots ss op ts k) xs tree
want_slots_to {xs = xs} op ts k tree fill_end g = primary_completes k (filled op ts) xs tree (rw (append-nil ts) at g)
want_slots_to op ts k tree (fill_open f) g = (_, _, fill_open f, g)
want_slots_to op ts k tree (fill_sign s f) g = (_, _, fill_sign s f, g)
want_slots_to op ts k tree (fill_text f) g = (_, _, fill_text f, g)
want_slots_to op ts k tree (fill_bound b f) g = (_, _, fill_bound b f, g)
want_slots_to op ts k tree (fill_whole w f) g = (_, _, fill_whole w f, g)
want_slots_to op ts k tree (fill_last f) g = (_, _, fill_last f, g)
want_slots_to op ts k tree (fill_corner f) g = (_, _, fill_corner f, g)
want_slots_to op ts k tree (fill_sum {s} {t} {ss} {ts = us} a sign f) g =
    want_sum_to (argument s ss op ts k) tree a (_, sign, _, _, f, rw (append_assoc ts (t ∷ []) us) g)

want_slots_from : (ss : List Slot) (op : Op) (ts : List Syntax) (k : ForPrimary) (xs : List Mark) (tree : Syntax) →
    Completes (want_slots ss op ts k) xs tree → GetsSlots ss op ts k xs tree
want_slots_from [] op ts k xs tree h =
    ([], xs, fill_end, rw (append-nil ts) (primary_gets k (filled op ts) xs tree h))
want_slots_from (open_slot ∷ ss) op ts k xs tree h = h
want_slots_from (sign_slot s ∷ ss) op ts k xs tree h = h
want_slots_from (text_slot ∷ ss) op ts k xs tree h = h
want_slots_from (bound_slot ∷ ss) op ts k xs tree h = h
want_slots_from (whole_slot ∷ ss) op ts k xs tree h = h
want_slots_from (corners_slot ∷ ss) op ts k xs tree h = h
want_slots_from (sum_slot s ∷ ss) op ts k xs tree h =
    let w = want_sum_from (argument s ss op ts k) xs tree h in
    (w.0 ∷ w.3.2, w.3.3, fill_sum w.2 w.3.1 w.3.4, rw (append_assoc ts (w.0 ∷ []) w.3.2) at w.3.5)

whole_completes : (k : ForWhole) (t : Syntax) (xs : List Mark) (tree : Syntax) → GetsWhole k t xs tree →
    Completes (have_whole k t) xs tree
whole_completes (as_primary k) t xs tree h = primary_completes k t xs tree h
whole_completes (as_slot ss op us k) t xs tree h = want_slots_to op (us ++ t ∷ []) k tree h.2 h.3

whole_gets : (k : ForWhole) (t : Syntax) (xs : List Mark) (tree : Syntax) → Completes (have_whole k t) xs tree →
    GetsWhole k t xs tree
whole_gets (as_primary k) t xs tree h = primary_gets k t xs tree h
whole_gets (as_slot ss op us k) t xs tree h = want_slots_from ss op (us ++ t ∷ []) k xs tree h

-- ---- or

or_paren_to : {xs ys : List Mark} (k : ForPrimary) (t tree : Syntax) → Takes close_sign xs ys →
    GetsPrimary k t ys tree → Follows (or_step (role_of xs) (in_paren k) t) xs tree
or_paren_to {ys} k t tree closed g = primary_completes k t ys tree g

or_to : (k : ForOr) (t : Syntax) (xs : List Mark) (tree : Syntax) → GetsOr k t xs tree →
    Follows (or_step (role_of xs) k t) xs tree
or_to whole t [] tree h = h
or_to whole t (x ∷ xs) tree h = let e = h.0 in cc
or_to (in_paren k) t xs tree h = or_paren_to k t tree h.1 h.2

or_from : (k : ForOr) (t : Syntax) (xs : List Mark) (tree : Syntax) →
    Follows (or_step (role_of xs) k t) xs tree → GetsOr k t xs tree
or_from whole t [] tree h = h
or_from whole t (at p closing ∷ xs) tree h = absurd h
or_from (in_paren k) t (at p closing ∷ xs) tree h = (xs, closed, primary_gets k t xs tree h)
or_from k t (at p (word And) ∷ xs) tree h = absurd h
or_from k t xs tree h = absurd h

ors_pass : (r : Role) (k : ForOr) (us : List Syntax) (xs : List Mark) (tree : Syntax) →
    Follows (or_step r k (joined or_op us)) xs tree → Follows (ors_step r k us) xs tree
ors_pass joins_or k us xs tree h = absurd h
ors_pass r k us xs tree h = h

ors_go : {xs ys : List Mark} {ts : List Syntax} (k : ForOr) (us : List Syntax) (tree : Syntax) →
    IsOrRest xs ts ys → GetsOr k (joined or_op (us ++ ts)) ys tree → Follows (ors_step (role_of xs) k us) xs tree
ors_go {xs} k us tree or_end g =
    ors_pass (role_of xs) k us xs tree (or_to k (joined or_op us) xs tree (rw (append-nil us) at g))
ors_go k us tree (or_more {t} {ts} a rest) g =
    want_and_to (or_part us k) tree a (_, _, rest, rw (append_assoc us (t ∷ []) ts) g)

ors_to : (k : ForOr) (us : List Syntax) (xs : List Mark) (tree : Syntax) →
    Completes (have_ors k us) xs tree → Follows (ors_step (role_of xs) k us) xs tree
ors_to k us xs tree h = ors_go k us tree h.2 h.3

ors_from : (k : ForOr) (us : List Syntax) (xs : List Mark) (tree : Syntax) →
    Follows (ors_step (role_of xs) k us) xs tree → Completes (have_ors k us) xs tree
ors_from k us (at p (word Or) ∷ xs) tree h =
    let w = want_and_from (or_part us k) xs tree h in
    (w.0 ∷ w.3.0, w.3.1, or_more w.2 w.3.2, rw (append_assoc us (w.0 ∷ []) w.3.0) at w.3.3)
ors_from k us xs tree h = ([], xs, or_end, rw (append-nil us) (or_from k (joined or_op us) xs tree h))

-- ---- and

and_to : (k : ForAnd) (t : Syntax) (xs : List Mark) (tree : Syntax) → GetsAnd k t xs tree →
    Follows (and_step (role_of xs) k t) xs tree
and_to (or_part us k) t xs tree h = ors_to k (us ++ t ∷ []) xs tree h

and_from : (k : ForAnd) (t : Syntax) (xs : List Mark) (tree : Syntax) →
    Follows (and_step (role_of xs) k t) xs tree → GetsAnd k t xs tree
and_from (or_part us k) t xs tree h = ors_from k (us ++ t ∷ []) xs tree h

and_refuses : (k : ForAnd) (t : Syntax) (xs : List Mark) (tree : Syntax) →
    Follows (and_step joins_and k t) xs tree → ⊥
and_refuses (or_part us k) t xs tree h = h

ands_pass : (r : Role) (k : ForAnd) (us : List Syntax) (xs : List Mark) (tree : Syntax) →
    Follows (and_step r k (joined and_op us)) xs tree → Follows (ands_step r k us) xs tree
ands_pass joins_and k us xs tree h = absurd (and_refuses k (joined and_op us) xs tree h)
ands_pass r k us xs tree h = h

ands_go : {xs ys : List Mark} {ts : List Syntax} (k : ForAnd) (us : List Syntax) (tree : Syntax) →
    IsAndRest xs ts ys → GetsAnd k (joined and_op (us ++ ts)) ys tree → Follows (ands_step (role_of xs) k us) xs tree
ands_go {xs} k us tree and_end g =
    ands_pass (role_of xs) k us xs tree (and_to k (joined and_op us) xs tree (rw (append-nil us) at g))
ands_go k us tree (and_more {t} {ts} a rest) g = (_, _, a, (_, _, rest, rw (append_assoc us (t ∷ []) ts) g))

ands_to : (k : ForAnd) (us : List Syntax) (xs : List Mark) (tree : Syntax) →
    Completes (have_ands k us) xs tree → Follows (ands_step (role_of xs) k us) xs tree
ands_to k us xs tree h = ands_go k us tree h.2 h.3

ands_from : (k : ForAnd) (us : List Syntax) (xs : List Mark) (tree : Syntax) →
    Follows (ands_step (role_of xs) k us) xs tree → Completes (have_ands k us) xs tree
ands_from k us (at p (word And) ∷ xs) tree h =
    (h.0 ∷ h.3.0, h.3.1, and_more h.2 h.3.2, rw (append_assoc us (h.0 ∷ []) h.3.0) at h.3.3)
ands_from k us xs tree h = ([], xs, and_end, rw (append-nil us) (and_from k (joined and_op us) xs tree h))

-- ---- not and predicate

not_to : (k : ForNot) (t : Syntax) (xs : List Mark) (tree : Syntax) → GetsNot k t xs tree →
    Follows (not_step (role_of xs) k t) xs tree
not_to (and_part us k) t xs tree h = ands_to k (us ++ t ∷ []) xs tree h

not_from : (k : ForNot) (t : Syntax) (xs : List Mark) (tree : Syntax) →
    Follows (not_step (role_of xs) k t) xs tree → GetsNot k t xs tree
not_from (and_part us k) t xs tree h = ands_from k (us ++ t ∷ []) xs tree h

predicate_to : (k : ForPredicate) (t : Syntax) (xs : List Mark) (tree : Syntax) →
    GetsPredicate k t xs tree → Follows (predicate_step (role_of xs) k t) xs tree
predicate_to (plain k) t xs tree h = not_to k t xs tree h
predicate_to (under_not p k) t xs tree h = not_to k (not_node p t) xs tree h

predicate_from : (k : ForPredicate) (t : Syntax) (xs : List Mark) (tree : Syntax) →
    Follows (predicate_step (role_of xs) k t) xs tree → GetsPredicate k t xs tree
predicate_from (plain k) t xs tree h = not_from k t xs tree h
predicate_from (under_not p k) t xs tree h = not_from k (not_node p t) xs tree h

-- neither a tail nor a sign goes on a predicate
predicate_refuses : (x : Inner) (k : ForPredicate) (t : Syntax) (xs : List Mark) (tree : Syntax) →
    Follows (predicate_step (inner x) k t) xs tree → ⊥
predicate_refuses x (plain (and_part us (or_part vs k))) t xs tree h = h
predicate_refuses x (under_not p (and_part us (or_part vs k))) t xs tree h = h

-- ---- tails

left_pass : (r : Role) (k : ForPredicate) (t : Syntax) (xs : List Mark) (tree : Syntax) →
    Follows (predicate_step r k t) xs tree → Follows (left_step r k t) xs tree
left_pass (inner (tails x)) k t xs tree h = absurd (predicate_refuses (tails x) k t xs tree h)
left_pass r k t xs tree h = h

left_to : {a t : Syntax} {xs ys : List Mark} (k : ForPredicate) (tree : Syntax) → IsTail a xs t ys →
    GetsPredicate k t ys tree → Follows (left_step (role_of xs) k a) xs tree
left_to {a} {xs = xs} k tree no_tail g = left_pass (role_of xs) k a xs tree (predicate_to k a xs tree g)
left_to {a} k tree (compare_tail {c} b) g = want_sum_to (right c a k) tree b g
left_to {a} k tree (like_tail grammar.plain b) g = want_sum_to (pattern false a k) tree b g
left_to k tree (like_tail negated b) g = (_, _, not_like b, g)
left_to {a} k tree (between_tail grammar.plain b c) g = want_sum_to (low false a k) tree b (_, _, high_end c, g)
left_to k tree (between_tail negated b c) g = (_, _, not_between b (high_end c), g)
left_to k tree (in_tail grammar.plain b rest) g = (_, _, items b rest, g)
left_to k tree (in_tail negated b rest) g = (_, _, not_in (items b rest), g)
left_to k tree (null_tail grammar.plain) g = (_, _, is_null, g)
left_to k tree (null_tail negated) g = (_, _, is_not_null, g)

between_joins : {n : Bool} {p : ℕ} {a b c : Syntax} {xs ys zs ws : List Mark} →
    IsNegation n xs (at p (word Between) ∷ ys) → IsSum ys b zs → IsHigh zs c ws → IsTail a xs (between_node n a b c) ws
between_joins n b (high_end c) = between_tail n b c

in_joins : {n : Bool} {p : ℕ} {a : Syntax} {ts : List Syntax} {xs ys zs : List Mark} →
    IsNegation n xs (at p (word In) ∷ ys) → IsItems ys ts zs → IsTail a xs (in_node n a ts) zs
in_joins n (items b rest) = in_tail n b rest

null_joins : {n : Bool} {p : ℕ} {a : Syntax} {xs ys : List Mark} → IsNull n xs ys →
    IsTail a (at p (word Is) ∷ xs) (null_node n a) ys
null_joins is_null = null_tail grammar.plain
null_joins is_not_null = null_tail negated

negated_joins : {p : ℕ} {a t : Syntax} {xs ys : List Mark} → IsNegated a xs t ys →
    IsTail a (at p (word Not) ∷ xs) t ys
negated_joins (not_like b) = like_tail negated b
negated_joins (not_between b c) = between_joins negated b c
negated_joins (not_in ts) = in_joins negated ts

left_from : (a : Syntax) (k : ForPredicate) (xs : List Mark) (tree : Syntax) →
    Follows (left_step (role_of xs) k a) xs tree →
    (t : Syntax) × (ys : List Mark) × IsTail a xs t ys × GetsPredicate k t ys tree
left_from a k (at p (compare c) ∷ xs) tree h =
    let w = want_sum_from (right c a k) xs tree h in (_, _, compare_tail w.2, w.3)
left_from a k (at p (word Like) ∷ xs) tree h =
    let w = want_sum_from (pattern false a k) xs tree h in (_, _, like_tail grammar.plain w.2, w.3)
left_from a k (at p (word Between) ∷ xs) tree h =
    let w = want_sum_from (low false a k) xs tree h in (_, _, between_joins grammar.plain w.2 w.3.2, w.3.3)
left_from a k (at p (word In) ∷ xs) tree h = (_, _, in_joins grammar.plain h.2, h.3)
left_from a k (at p (word Is) ∷ xs) tree h = (_, _, null_joins h.2, h.3)
left_from a k (at p (word Not) ∷ xs) tree h = (_, _, negated_joins h.2, h.3)
left_from a k xs tree h = (a, xs, no_tail, predicate_from k a xs tree h)

low_to : {xs ys : List Mark} {c : Syntax} (n : Bool) (a b : Syntax) (k : ForPredicate) (tree : Syntax) →
    IsHigh xs c ys → GetsPredicate k (between_node n a b c) ys tree → Follows (low_step (role_of xs) n a k b) xs tree
low_to n a b k tree (high_end c) g = want_sum_to (high n a b k) tree c g

low_from : (n : Bool) (a b : Syntax) (k : ForPredicate) (xs : List Mark) (tree : Syntax) →
    Follows (low_step (role_of xs) n a k b) xs tree →
    (c : Syntax) × (ys : List Mark) × IsHigh xs c ys × GetsPredicate k (between_node n a b c) ys tree
low_from n a b k (at p (word And) ∷ xs) tree h =
    let w = want_sum_from (high n a b k) xs tree h in (_, _, high_end w.2, w.3)
low_from n a b k xs tree h = absurd h

items_to : {xs ys : List Mark} {ts : List Syntax} (n : Bool) (a : Syntax) (us : List Syntax) (k : ForPredicate)
    (tree : Syntax) → IsItemsRest xs ts ys → GetsPredicate k (in_node n a (us ++ ts)) ys tree →
    Follows (item_step (role_of xs) n a us k) xs tree
items_to {ys = ys} n a us k tree items_end g =
    predicate_completes k (in_node n a us) ys tree (rw (append-nil us) at g)
items_to n a us k tree (items_more {t} {ts} b rest) g =
    want_sum_to (item n a us k) tree b (_, _, rest, rw (append_assoc us (t ∷ []) ts) g)

items_from : (n : Bool) (a : Syntax) (us : List Syntax) (k : ForPredicate) (xs : List Mark) (tree : Syntax) →
    Follows (item_step (role_of xs) n a us k) xs tree →
    (ts : List Syntax) × (ys : List Mark) × IsItemsRest xs ts ys × GetsPredicate k (in_node n a (us ++ ts)) ys tree
items_from n a us k (at p closing ∷ xs) tree h =
    ([], xs, items_end, rw (append-nil us) (predicate_gets k (in_node n a us) xs tree h))
items_from n a us k (at p comma ∷ xs) tree h =
    let w = want_sum_from (item n a us k) xs tree h in
    (w.0 ∷ w.3.0, w.3.1, items_more w.2 w.3.2, rw (append_assoc us (w.0 ∷ []) w.3.0) at w.3.3)
items_from n a us k (at p (word And) ∷ xs) tree h = absurd h
items_from n a us k xs tree h = absurd h

-- ---- signs of functions and literals

sign_to : {s : Sign} {xs ys : List Mark} (n : State) (tree : Syntax) → Takes s xs ys → Completes n ys tree →
    Follows (sign_step (role_of xs) s n) xs tree
sign_to n tree closed g = g
sign_to n tree parted g = g

sign_from : (s : Sign) (n : State) (xs : List Mark) (tree : Syntax) → Follows (sign_step (role_of xs) s n) xs tree →
    (ys : List Mark) × Takes s xs ys × Completes n ys tree
sign_from close_sign n (at p closing ∷ xs) tree h = (xs, closed, h)
sign_from comma_sign n (at p comma ∷ xs) tree h = (xs, parted, h)
sign_from s n (at p (word And) ∷ xs) tree h = absurd h
sign_from s n xs tree h = absurd h

-- ---- sum

sum_to : (k : ForSum) (t : Syntax) (xs : List Mark) (tree : Syntax) → GetsSum k t xs tree →
    Follows (sum_step (role_of xs) k t) xs tree
sum_to (left k) t xs tree h = left_to k tree h.2 h.3
sum_to (right c a k) t xs tree h = predicate_to k (compare_node c a t) xs tree h
sum_to (pattern n a k) t xs tree h = predicate_to k (like_node n a t) xs tree h
sum_to (low n a k) t xs tree h = low_to n a t k tree h.2 h.3
sum_to (high n a b k) t xs tree h = predicate_to k (between_node n a b t) xs tree h
sum_to (item n a us k) t xs tree h = items_to n a (us ++ t ∷ []) k tree h.2 h.3
sum_to (argument s ss op us k) t xs tree h =
    sign_to (want_slots ss op (us ++ t ∷ []) k) tree h.1 (want_slots_to op (us ++ t ∷ []) k tree h.4 h.5)

sum_from : (k : ForSum) (t : Syntax) (xs : List Mark) (tree : Syntax) → Follows (sum_step (role_of xs) k t) xs tree →
    GetsSum k t xs tree
sum_from (left k) t xs tree h = left_from t k xs tree h
sum_from (right c a k) t xs tree h = predicate_from k (compare_node c a t) xs tree h
sum_from (pattern n a k) t xs tree h = predicate_from k (like_node n a t) xs tree h
sum_from (low n a k) t xs tree h = low_from n a t k xs tree h
sum_from (high n a b k) t xs tree h = predicate_from k (between_node n a b t) xs tree h
sum_from (item n a us k) t xs tree h = items_from n a (us ++ t ∷ []) k xs tree h
sum_from (argument s ss op us k) t xs tree h =
    let w = sign_from s (want_slots ss op (us ++ t ∷ []) k) xs tree h in
    let v = want_slots_from ss op (us ++ t ∷ []) k w.0 tree w.2 in
    (w.0, w.1, v.0, v.1, v.2, v.3)

-- a sign of sums or products goes on no sum's rule
computes_refused : (by : Operation) (k : ForSum) (t : Syntax) (xs : List Mark) (tree : Syntax) →
    Follows (sum_step (inner (computes by)) k t) xs tree → ⊥
computes_refused x (left k) t xs tree h = predicate_refuses (computes x) k t xs tree h
computes_refused x (right c a k) t xs tree h = predicate_refuses (computes x) k (compare_node c a t) xs tree h
computes_refused x (pattern n a k) t xs tree h = predicate_refuses (computes x) k (like_node n a t) xs tree h
computes_refused x (low n a k) t xs tree h = h
computes_refused x (high n a b k) t xs tree h = predicate_refuses (computes x) k (between_node n a b t) xs tree h
computes_refused x (item n a us k) t xs tree h = h
computes_refused x (argument s ss op us k) t xs tree h = h

terms_pass : (r : Role) (k : ForSum) (js : List Operation) (us : List Syntax) (xs : List Mark) (tree : Syntax) →
    Follows (sum_step r k (joined (computed_op js) us)) xs tree → Follows (terms_step r k js us) xs tree
terms_pass (inner (computes operation.Plus)) k js us xs tree h =
    absurd (computes_refused operation.Plus k (joined (computed_op js) us) xs tree h)
terms_pass (inner (computes operation.Minus)) k js us xs tree h =
    absurd (computes_refused operation.Minus k (joined (computed_op js) us) xs tree h)
terms_pass r k js us xs tree h = h

-- a list of operations and one of parts, each with one more
sum_regroups : (k : ForSum) (js bs : List Operation) (by : Operation) (us ts : List Syntax) (t : Syntax) (ys : List Mark)
    (tree : Syntax) → GetsSum k (joined (computed_op (js ++ by ∷ bs)) (us ++ t ∷ ts)) ys tree →
    GetsSum k (joined (computed_op ((js ++ by ∷ []) ++ bs)) ((us ++ t ∷ []) ++ ts)) ys tree
sum_regroups k js bs by us ts t ys tree g = rw (append_assoc js (by ∷ []) bs, append_assoc us (t ∷ []) ts) g

sum_ungroups : (k : ForSum) (js bs : List Operation) (by : Operation) (us ts : List Syntax) (t : Syntax) (ys : List Mark)
    (tree : Syntax) → GetsSum k (joined (computed_op ((js ++ by ∷ []) ++ bs)) ((us ++ t ∷ []) ++ ts)) ys tree →
    GetsSum k (joined (computed_op (js ++ by ∷ bs)) (us ++ t ∷ ts)) ys tree
sum_ungroups k js bs by us ts t ys tree g = rw (append_assoc js (by ∷ []) bs, append_assoc us (t ∷ []) ts) at g

terms_go : {xs ys : List Mark} {operations : List Operation} {ts : List Syntax} (k : ForSum) (js : List Operation)
    (us : List Syntax) (tree : Syntax) → IsSumRest xs operations ts ys →
    GetsSum k (joined (computed_op (js ++ operations)) (us ++ ts)) ys tree → Follows (terms_step (role_of xs) k js us) xs tree
terms_go {xs} k js us tree sum_end g =
    terms_pass (role_of xs) k js us xs tree
    (sum_to k (joined (computed_op js) us) xs tree (rw (append-nil js, append-nil us) at g))
terms_go {ys = ys} k js us tree (sum_more {t = t} {operations = bs} {ts = ts} plus_adds b rest) g =
    want_product_to (sum_part (js ++ operation.Plus ∷ []) us k) tree b
    (_, _, _, rest, sum_regroups k js bs operation.Plus us ts t ys tree g)
terms_go {ys = ys} k js us tree (sum_more {t = t} {operations = bs} {ts = ts} minus_adds b rest) g =
    want_product_to (sum_part (js ++ operation.Minus ∷ []) us k) tree b
    (_, _, _, rest, sum_regroups k js bs operation.Minus us ts t ys tree g)

terms_to : (k : ForSum) (js : List Operation) (us : List Syntax) (xs : List Mark) (tree : Syntax) →
    Completes (have_terms k js us) xs tree → Follows (terms_step (role_of xs) k js us) xs tree
terms_to k js us xs tree h = terms_go k js us tree h.3 h.4

terms_from : (k : ForSum) (js : List Operation) (us : List Syntax) (xs : List Mark) (tree : Syntax) →
    Follows (terms_step (role_of xs) k js us) xs tree → Completes (have_terms k js us) xs tree
terms_from k js us (at p plus ∷ xs) tree h =
    let w = want_product_from (sum_part (js ++ operation.Plus ∷ []) us k) xs tree h in (
      operation.Plus ∷ w.3.0,
      w.0 ∷ w.3.1,
      w.3.2,
      sum_more plus_adds w.2 w.3.3,
      sum_ungroups k js w.3.0 operation.Plus us w.3.1 w.0 w.3.2 tree w.3.4,
    )
terms_from k js us (at p minus ∷ xs) tree h =
    let w = want_product_from (sum_part (js ++ operation.Minus ∷ []) us k) xs tree h in (
      operation.Minus ∷ w.3.0,
      w.0 ∷ w.3.1,
      w.3.2,
      sum_more minus_adds w.2 w.3.3,
      sum_ungroups k js w.3.0 operation.Minus us w.3.1 w.0 w.3.2 tree w.3.4,
    )
terms_from k js us (at p (word And) ∷ xs) tree h = (
  [],
  [],
  at p (word And) ∷ xs,
  sum_end,
  rw (append-nil js, append-nil us) (sum_from k (joined (computed_op js) us) (at p (word And) ∷ xs) tree h),
)
terms_from k js us xs tree h =
    ([], [], xs, sum_end, rw (append-nil js, append-nil us) (sum_from k (joined (computed_op js) us) xs tree h))

-- ---- product

product_to : (k : ForProduct) (t : Syntax) (xs : List Mark) (tree : Syntax) → GetsProduct k t xs tree →
    Follows (product_step (role_of xs) k t) xs tree
product_to (sum_part js us k) t xs tree h = terms_to k js (us ++ t ∷ []) xs tree h

product_from : (k : ForProduct) (t : Syntax) (xs : List Mark) (tree : Syntax) →
    Follows (product_step (role_of xs) k t) xs tree → GetsProduct k t xs tree
product_from (sum_part js us k) t xs tree h = terms_from k js (us ++ t ∷ []) xs tree h

factors_pass : (r : Role) (k : ForProduct) (ms : List Operation) (us : List Syntax) (xs : List Mark) (tree : Syntax) →
    Follows (product_step r k (joined (computed_op ms) us)) xs tree → Follows (factors_step r k ms us) xs tree
factors_pass (inner (computes operation.Times)) (sum_part js vs k) ms us xs tree h =
    absurd (computes_refused operation.Times k (joined (computed_op js) (vs ++ joined (computed_op ms) us ∷ [])) xs tree h)
factors_pass (inner (computes operation.Div)) (sum_part js vs k) ms us xs tree h =
    absurd (computes_refused operation.Div k (joined (computed_op js) (vs ++ joined (computed_op ms) us ∷ [])) xs tree h)
factors_pass (inner (computes operation.Modulo)) (sum_part js vs k) ms us xs tree h =
    absurd (computes_refused operation.Modulo k (joined (computed_op js) (vs ++ joined (computed_op ms) us ∷ [])) xs tree h)
factors_pass r k ms us xs tree h = h

product_regroups : (k : ForProduct) (ms bs : List Operation) (by : Operation) (us ts : List Syntax) (t : Syntax)
    (ys : List Mark) (tree : Syntax) → GetsProduct k (joined (computed_op (ms ++ by ∷ bs)) (us ++ t ∷ ts)) ys tree →
    GetsProduct k (joined (computed_op ((ms ++ by ∷ []) ++ bs)) ((us ++ t ∷ []) ++ ts)) ys tree
product_regroups k ms bs by us ts t ys tree g = rw (append_assoc ms (by ∷ []) bs, append_assoc us (t ∷ []) ts) g

product_ungroups : (k : ForProduct) (ms bs : List Operation) (by : Operation) (us ts : List Syntax) (t : Syntax)
    (ys : List Mark) (tree : Syntax) →
    GetsProduct k (joined (computed_op ((ms ++ by ∷ []) ++ bs)) ((us ++ t ∷ []) ++ ts)) ys tree →
    GetsProduct k (joined (computed_op (ms ++ by ∷ bs)) (us ++ t ∷ ts)) ys tree
product_ungroups k ms bs by us ts t ys tree g = rw (append_assoc ms (by ∷ []) bs, append_assoc us (t ∷ []) ts) at g

factors_go : {xs ys : List Mark} {operations : List Operation} {ts : List Syntax} (k : ForProduct)
    (ms : List Operation) (us : List Syntax) (tree : Syntax) → IsProductRest xs operations ts ys →
    GetsProduct k (joined (computed_op (ms ++ operations)) (us ++ ts)) ys tree →
    Follows (factors_step (role_of xs) k ms us) xs tree
factors_go {xs} k ms us tree product_end g =
    factors_pass (role_of xs) k ms us xs tree
    (product_to k (joined (computed_op ms) us) xs tree (rw (append-nil ms, append-nil us) at g))
factors_go {ys = ys} k ms us tree (product_more {t = t} {operations = bs} {ts = ts} times_multiplies b rest) g =
    (_, _, b, (_, _, _, rest, product_regroups k ms bs operation.Times us ts t ys tree g))
factors_go {ys = ys} k ms us tree (product_more {t = t} {operations = bs} {ts = ts} div_multiplies b rest) g =
    (_, _, b, (_, _, _, rest, product_regroups k ms bs operation.Div us ts t ys tree g))
factors_go {ys = ys} k ms us tree (product_more {t = t} {operations = bs} {ts = ts} modulo_multiplies b rest) g =
    (_, _, b, (_, _, _, rest, product_regroups k ms bs operation.Modulo us ts t ys tree g))

factors_to : (k : ForProduct) (ms : List Operation) (us : List Syntax) (xs : List Mark) (tree : Syntax) →
    Completes (have_factors k ms us) xs tree → Follows (factors_step (role_of xs) k ms us) xs tree
factors_to k ms us xs tree h = factors_go k ms us tree h.3 h.4

factors_from : (k : ForProduct) (ms : List Operation) (us : List Syntax) (xs : List Mark) (tree : Syntax) →
    Follows (factors_step (role_of xs) k ms us) xs tree → Completes (have_factors k ms us) xs tree
factors_from k ms us (at p times ∷ xs) tree h = (
  operation.Times ∷ h.3.0,
  h.0 ∷ h.3.1,
  h.3.2,
  product_more times_multiplies h.2 h.3.3,
  product_ungroups k ms h.3.0 operation.Times us h.3.1 h.0 h.3.2 tree h.3.4,
)
factors_from k ms us (at p (word Div) ∷ xs) tree h = (
  operation.Div ∷ h.3.0,
  h.0 ∷ h.3.1,
  h.3.2,
  product_more div_multiplies h.2 h.3.3,
  product_ungroups k ms h.3.0 operation.Div us h.3.1 h.0 h.3.2 tree h.3.4,
)
factors_from k ms us (at p modulo ∷ xs) tree h = (
  operation.Modulo ∷ h.3.0,
  h.0 ∷ h.3.1,
  h.3.2,
  product_more modulo_multiplies h.2 h.3.3,
  product_ungroups k ms h.3.0 operation.Modulo us h.3.1 h.0 h.3.2 tree h.3.4,
)
factors_from k ms us xs tree h =
    ([], [], xs, product_end, rw (append-nil ms, append-nil us) (product_from k (joined (computed_op ms) us) xs tree h))

-- ---- numbers

digits_to : {n : Bool} {t : Syntax} {xs ys : List Mark} (k : ForWhole) (tree : Syntax) →
    IsDigits n xs t ys → GetsWhole k t ys tree → Follows (on_first xs (begin_digits n k)) xs tree
digits_to {t = t} {ys = ys} k tree digits g = whole_completes k t ys tree g

digits_from : (n : Bool) (k : ForWhole) (xs : List Mark) (tree : Syntax) →
    Follows (on_first xs (begin_digits n k)) xs tree →
    (t : Syntax) × (ys : List Mark) × IsDigits n xs t ys × GetsWhole k t ys tree
digits_from n k [] tree h = absurd h
digits_from n k (at p (number s) ∷ xs) tree h = (_, _, digits, whole_gets k _ xs tree h)
digits_from n k (at p s ∷ xs) tree h = absurd h

whole_begins : {t : Syntax} {xs ys : List Mark} (k : ForWhole) (tree : Syntax) → IsWhole xs t ys →
    GetsWhole k t ys tree → Follows (on_first xs (begin_whole k)) xs tree
whole_begins {t} {ys = ys} k tree number_rule g = whole_completes k t ys tree g
whole_begins k tree plus_rule g = (_, _, digits, g)
whole_begins k tree minus_rule g = (_, _, digits, g)

plus_joins : {p : ℕ} {t : Syntax} {xs ys : List Mark} → IsDigits false xs t ys → IsWhole (at p plus ∷ xs) t ys
plus_joins digits = plus_rule

minus_joins : {p : ℕ} {t : Syntax} {xs ys : List Mark} → IsDigits true xs t ys → IsWhole (at p minus ∷ xs) t ys
minus_joins digits = minus_rule

whole_began : (k : ForWhole) (xs : List Mark) (tree : Syntax) → Follows (on_first xs (begin_whole k)) xs tree →
    (t : Syntax) × (ys : List Mark) × IsWhole xs t ys × GetsWhole k t ys tree
whole_began k [] tree h = absurd h
whole_began k (at p plus ∷ xs) tree h = (_, _, plus_joins h.2, h.3)
whole_began k (at p minus ∷ xs) tree h = (_, _, minus_joins h.2, h.3)
whole_began k (at p (number s) ∷ xs) tree h = (_, _, number_rule, whole_gets k _ xs tree h)
whole_began k (at p s ∷ xs) tree h = absurd h

-- ---- functions and literals

corners_fill : {zs ys : List Mark} {ts : List Syntax} → IsCornersRest zs ts ys → Fills (corners_slot ∷ []) zs ts ys
corners_fill corners_end = fill_last fill_end
corners_fill (corners_more x y rest) = fill_corner (fill_whole x (fill_whole y (corners_fill rest)))

corners_filled : {zs ys : List Mark} {ts : List Syntax} → Fills (corners_slot ∷ []) zs ts ys → IsCornersRest zs ts ys
corners_filled (fill_last fill_end) = corners_end
corners_filled (fill_corner (fill_whole x (fill_whole y f))) = corners_more x y (corners_filled f)

ring_filled : {ts : List Syntax} {xs ys : List Mark} → Fills ring_slots xs ts ys → IsRing xs (filled ring_op ts) ys
ring_filled (fill_open (fill_whole x (fill_whole y f))) = ring_rule x y (corners_filled f)

casei_joins : {p : ℕ} {ts : List Syntax} {xs ys : List Mark} → Fills (open_slot ∷ sum_slot close_sign ∷ []) xs ts ys →
    IsPrimary (at p (word Casei) ∷ xs) (filled (casei_op p) ts) ys
casei_joins (fill_open (fill_sum a closed fill_end)) = casei_rule a

date_joins : {p : ℕ} {ts : List Syntax} {xs ys : List Mark} → Fills date_slots xs ts ys →
    IsPrimary (at p (word Date) ∷ xs) (filled (date_op p) ts) ys
date_joins (fill_open (fill_text (fill_sign closed fill_end))) = date_rule

interval_joins : {p : ℕ} {ts : List Syntax} {xs ys : List Mark} → Fills interval_slots xs ts ys →
    IsPrimary (at p (word Interval) ∷ xs) (filled (interval_op p) ts) ys
interval_joins (fill_open (fill_bound a (fill_sign parted (fill_bound b (fill_sign closed fill_end))))) = interval_rule a b

point_joins : {p : ℕ} {ts : List Syntax} {xs ys : List Mark} → Fills point_slots xs ts ys →
    IsPrimary (at p (word Point) ∷ xs) (filled (point_op p) ts) ys
point_joins (fill_open (fill_whole x (fill_whole y (fill_sign closed fill_end)))) = point_rule x y

polygon_joins : {p : ℕ} {ts us : List Syntax} {xs ys zs : List Mark} → Fills polygon_slots xs ts ys → IsRingsRest ys us zs →
    IsPrimary (at p (word Polygon) ∷ xs) (filled (polygon_op p) (filled ring_op ts ∷ us)) zs
polygon_joins (fill_open f) rest = polygon_rule (ring_filled f) rest

bbox_joins : {p : ℕ} {ts : List Syntax} {xs ys : List Mark} → Fills bbox_slots xs ts ys →
    IsPrimary (at p (word Bbox) ∷ xs) (filled (bbox_op p) ts) ys
bbox_joins
    (fill_open (fill_whole a (fill_sign parted (fill_whole b (fill_sign parted (fill_whole c (fill_sign parted (fill_whole d
    (fill_sign closed fill_end))))))))) = bbox_rule a b c d

spatial_joins : {p : ℕ} {c : SpatialRelation} {ts : List Syntax} {xs ys : List Mark} → Fills two_sums xs ts ys →
    IsPrimary (at p (word (Spatial c)) ∷ xs) (filled (spatial_op p c) ts) ys
spatial_joins (fill_open (fill_sum a parted (fill_sum b closed fill_end))) = spatial_rule a b

temporal_joins : {p : ℕ} {c : Relation} {ts : List Syntax} {xs ys : List Mark} → Fills two_sums xs ts ys →
    IsPrimary (at p (word (Temporal c)) ∷ xs) (filled (temporal_op p c) ts) ys
temporal_joins (fill_open (fill_sum a parted (fill_sum b closed fill_end))) = temporal_rule a b

-- ---- behind a ring

rings_to : {xs ys : List Mark} {ts : List Syntax} (p : ℕ) (us : List Syntax) (k : ForPrimary) (tree : Syntax) →
    IsRingsRest xs ts ys → GetsPrimary k (filled (polygon_op p) (us ++ ts)) ys tree →
    Follows (rings_step (role_of xs) p us k) xs tree
rings_to {ys = ys} p us k tree rings_end g =
    primary_completes k (filled (polygon_op p) us) ys tree (rw (append-nil us) at g)
rings_to p us k tree (rings_more {t} {ts} (ring_rule x y corners) rest) g = (
  _,
  _,
  fill_open (fill_whole x (fill_whole y (corners_fill corners))),
  (_, _, rest, rw (append_assoc us (t ∷ []) ts) g),
)

rings_from : (p : ℕ) (us : List Syntax) (k : ForPrimary) (xs : List Mark) (tree : Syntax) →
    Follows (rings_step (role_of xs) p us k) xs tree →
    (ts : List Syntax) × (ys : List Mark) × IsRingsRest xs ts ys × GetsPrimary k (filled (polygon_op p) (us ++ ts)) ys tree
rings_from p us k (at q closing ∷ xs) tree h =
    ([], xs, rings_end, rw (append-nil us) (primary_gets k (filled (polygon_op p) us) xs tree h))
rings_from p us k (at q comma ∷ xs) tree h = (
  filled ring_op h.0 ∷ h.3.0,
  h.3.1,
  rings_more (ring_filled h.2) h.3.2,
  rw (append_assoc us (filled ring_op h.0 ∷ []) h.3.0) at h.3.3,
)
rings_from p us k (at q (word And) ∷ xs) tree h = absurd h
rings_from p us k xs tree h = absurd h

-- ---- a primary begins

primary_begins : {t : Syntax} {xs ys : List Mark} (k : ForPrimary) (tree : Syntax) → IsPrimary xs t ys →
    GetsPrimary k t ys tree → Follows (on_first xs (begin_primary k)) xs tree
primary_begins k tree (paren_rule o) g = want_or_to (in_paren k) tree o (_, closed, g)
primary_begins {t} {ys = ys} k tree name_rule g = primary_completes k t ys tree g
primary_begins {t} {ys = ys} k tree text_rule g = primary_completes k t ys tree g
primary_begins {t} {ys = ys} k tree (whole_rule number_rule) g = primary_completes k t ys tree g
primary_begins k tree (whole_rule plus_rule) g = (_, _, digits, g)
primary_begins k tree (whole_rule minus_rule) g = (_, _, digits, g)
primary_begins {t} {ys = ys} k tree true_rule g = primary_completes k t ys tree g
primary_begins {t} {ys = ys} k tree false_rule g = primary_completes k t ys tree g
primary_begins k tree (casei_rule a) g = (_, _, fill_open (fill_sum a closed fill_end), g)
primary_begins k tree date_rule g = (_, _, fill_open (fill_text (fill_sign closed fill_end)), g)
primary_begins k tree (interval_rule a b) g =
    (_, _, fill_open (fill_bound a (fill_sign parted (fill_bound b (fill_sign closed fill_end)))), g)
primary_begins k tree (point_rule x y) g = (_, _, fill_open (fill_whole x (fill_whole y (fill_sign closed fill_end))), g)
primary_begins k tree (polygon_rule (ring_rule x y corners) rest) g =
    (_, _, fill_open (fill_open (fill_whole x (fill_whole y (corners_fill corners)))), (_, _, rest, g))
primary_begins k tree (bbox_rule a b c d) g = (
  _,
  _,
  fill_open (fill_whole a (fill_sign parted (fill_whole b (fill_sign parted (fill_whole c (fill_sign parted
      (fill_whole d (fill_sign closed fill_end)))))))),
  g,
)
primary_begins k tree (spatial_rule a b) g = (_, _, fill_open (fill_sum a parted (fill_sum b closed fill_end)), g)
primary_begins k tree (temporal_rule a b) g = (_, _, fill_open (fill_sum a parted (fill_sum b closed fill_end)), g)

-- an expression and what closes it are a primary
paren_joins : {p : ℕ} {t : Syntax} {xs ys zs : List Mark} → IsOr xs t ys → Takes close_sign ys zs →
    IsPrimary (at p opening ∷ xs) t zs
paren_joins o closed = paren_rule o

primary_began : (k : ForPrimary) (xs : List Mark) (tree : Syntax) →
    Follows (on_first xs (begin_primary k)) xs tree →
    (t : Syntax) × (ys : List Mark) × IsPrimary xs t ys × GetsPrimary k t ys tree
primary_began k [] tree h = absurd h
primary_began k (at p opening ∷ xs) tree h =
    let w = want_or_from (in_paren k) xs tree h in
    (_, _, paren_joins w.2 w.3.1, w.3.2)
primary_began k (at p (name s) ∷ xs) tree h = (_, _, name_rule, primary_gets k _ xs tree h)
primary_began k (at p (text s) ∷ xs) tree h = (_, _, text_rule, primary_gets k _ xs tree h)
primary_began k (at p plus ∷ xs) tree h = (_, _, whole_rule (plus_joins h.2), h.3)
primary_began k (at p minus ∷ xs) tree h = (_, _, whole_rule (minus_joins h.2), h.3)
primary_began k (at p (number s) ∷ xs) tree h = (_, _, whole_rule number_rule, primary_gets k _ xs tree h)
primary_began k (at p (word True) ∷ xs) tree h = (_, _, true_rule, primary_gets k _ xs tree h)
primary_began k (at p (word False) ∷ xs) tree h = (_, _, false_rule, primary_gets k _ xs tree h)
primary_began k (at p (word Casei) ∷ xs) tree h = (_, _, casei_joins h.2, h.3)
primary_began k (at p (word Date) ∷ xs) tree h = (_, _, date_joins h.2, h.3)
primary_began k (at p (word Interval) ∷ xs) tree h = (_, _, interval_joins h.2, h.3)
primary_began k (at p (word Point) ∷ xs) tree h = (_, _, point_joins h.2, h.3)
primary_began k (at p (word Polygon) ∷ xs) tree h = (_, _, polygon_joins h.2 h.3.2, h.3.3)
primary_began k (at p (word Bbox) ∷ xs) tree h = (_, _, bbox_joins h.2, h.3)
primary_began k (at p (word (Spatial c)) ∷ xs) tree h = (_, _, spatial_joins h.2, h.3)
primary_began k (at p (word (Temporal c)) ∷ xs) tree h = (_, _, temporal_joins h.2, h.3)
primary_began k (at p s ∷ xs) tree h = absurd h

-- no primary begins with NOT
no_not : (k : ForNot) (xs : List Mark) (tree : Syntax) →
    Follows (on_first xs (begin_primary (product_part [] [] (sum_part [] [] (left (plain k)))))) xs tree →
    Follows (on_first xs (begin_not k)) xs tree
no_not k (at p (word Not) ∷ xs) tree h = absurd h
no_not k xs tree h = h

not_begins : {t : Syntax} {xs ys : List Mark} (k : ForNot) (tree : Syntax) → IsNot xs t ys →
    GetsNot k t ys tree → Follows (on_first xs (begin_not k)) xs tree
not_begins k tree (not_rule {p} q) g = want_predicate_to (under_not p k) tree q g
not_begins {xs = xs} k tree (plain_rule q) g =
    let w = want_predicate_to (plain k) tree q g in
    no_not k xs tree (primary_begins (product_part [] [] (sum_part [] [] (left (plain k)))) tree w.2 w.3)

not_began : (k : ForNot) (xs : List Mark) (tree : Syntax) → Follows (on_first xs (begin_not k)) xs tree →
    (t : Syntax) × (ys : List Mark) × IsNot xs t ys × GetsNot k t ys tree
not_began k [] tree h = absurd h
not_began k (at p (word Not) ∷ xs) tree h =
    let w = want_predicate_from (under_not p k) xs tree h in
    (_, _, not_rule w.2, w.3)
not_began k (at p s ∷ xs) tree h =
    let w = want_predicate_from (plain k) (at p s ∷ xs) tree
    (primary_began (product_part [] [] (sum_part [] [] (left (plain k)))) (at p s ∷ xs) tree h) in
    (_, _, plain_rule w.2, w.3)

-- ---- behind a tail's words

negated_to : {a t : Syntax} {xs ys : List Mark} (k : ForPredicate) (tree : Syntax) → IsNegated a xs t ys →
    GetsPredicate k t ys tree → Follows (on_first xs (λ p. begin_negated a k)) xs tree
negated_to {a} k tree (not_like b) g = want_sum_to (pattern true a k) tree b g
negated_to {a} k tree (not_between b c) g = want_sum_to (low true a k) tree b (_, _, c, g)
negated_to k tree (not_in ts) g = (_, _, ts, g)

negated_from : (a : Syntax) (k : ForPredicate) (xs : List Mark) (tree : Syntax) →
    Follows (on_first xs (λ p. begin_negated a k)) xs tree →
    (t : Syntax) × (ys : List Mark) × IsNegated a xs t ys × GetsPredicate k t ys tree
negated_from a k (at p (word Like) ∷ xs) tree h =
    let w = want_sum_from (pattern true a k) xs tree h in (_, _, not_like w.2, w.3)
negated_from a k (at p (word Between) ∷ xs) tree h =
    let w = want_sum_from (low true a k) xs tree h in (_, _, not_between w.2 w.3.2, w.3.3)
negated_from a k (at p (word In) ∷ xs) tree h = (_, _, not_in h.2, h.3)
negated_from a k xs tree h = absurd h

in_to : {ts : List Syntax} {xs ys : List Mark} (n : Bool) (a : Syntax) (k : ForPredicate) (tree : Syntax) →
    IsItems xs ts ys → GetsPredicate k (in_node n a ts) ys tree → Follows (on_first xs (λ p. begin_items n a k)) xs tree
in_to n a k tree (items b rest) g = want_sum_to (item n a [] k) tree b (_, _, rest, g)

in_from : (n : Bool) (a : Syntax) (k : ForPredicate) (xs : List Mark) (tree : Syntax) →
    Follows (on_first xs (λ p. begin_items n a k)) xs tree →
    (ts : List Syntax) × (ys : List Mark) × IsItems xs ts ys × GetsPredicate k (in_node n a ts) ys tree
in_from n a k (at p opening ∷ xs) tree h =
    let w = want_sum_from (item n a [] k) xs tree h in (_, _, items w.2 w.3.2, w.3.3)
in_from n a k xs tree h = absurd h

is_to : {n : Bool} {xs ys : List Mark} (a : Syntax) (k : ForPredicate) (tree : Syntax) → IsNull n xs ys →
    GetsPredicate k (null_node n a) ys tree → Follows (on_first xs (λ p. begin_is a k)) xs tree
is_to {ys = ys} a k tree is_null g = predicate_completes k (null_node false a) ys tree g
is_to a k tree is_not_null g = (_, null, g)

not_null_joins : {p : ℕ} {xs ys : List Mark} → TakesNull xs ys → IsNull true (at p (word Not) ∷ xs) ys
not_null_joins null = is_not_null

is_from : (a : Syntax) (k : ForPredicate) (xs : List Mark) (tree : Syntax) →
    Follows (on_first xs (λ p. begin_is a k)) xs tree →
    (n : Bool) × (ys : List Mark) × IsNull n xs ys × GetsPredicate k (null_node n a) ys tree
is_from a k (at p (word Null) ∷ xs) tree h = (false, xs, is_null, predicate_gets k (null_node false a) xs tree h)
is_from a k (at p (word Not) ∷ xs) tree h = (true, h.0, not_null_joins h.1, h.2)
is_from a k xs tree h = absurd h

null_to : {xs ys : List Mark} (n : Bool) (a : Syntax) (k : ForPredicate) (tree : Syntax) → TakesNull xs ys →
    GetsPredicate k (null_node n a) ys tree → Follows (on_first xs (λ p. begin_null n a k)) xs tree
null_to {ys = ys} n a k tree null g = predicate_completes k (null_node n a) ys tree g

null_from : (n : Bool) (a : Syntax) (k : ForPredicate) (xs : List Mark) (tree : Syntax) →
    Follows (on_first xs (λ p. begin_null n a k)) xs tree →
    (ys : List Mark) × TakesNull xs ys × GetsPredicate k (null_node n a) ys tree
null_from n a k (at p (word Null) ∷ xs) tree h = (xs, null, predicate_gets k (null_node n a) xs tree h)
null_from n a k xs tree h = absurd h

-- ---- slots

slot_to : {s : Slot} {ss : List Slot} {us : List Syntax} {xs ys : List Mark} (op : Op) (ts : List Syntax) (k : ForPrimary)
    (tree : Syntax) → Fills (s ∷ ss) xs us ys → GetsPrimary k (filled op (ts ++ us)) ys tree →
    Follows (on_first xs (slot_step s ss op ts k)) xs tree
slot_to op ts k tree (fill_open f) g = want_slots_to op ts k tree f g
slot_to op ts k tree (fill_sign closed f) g = want_slots_to op ts k tree f g
slot_to op ts k tree (fill_sign parted f) g = want_slots_to op ts k tree f g
slot_to op ts k tree (fill_text {p} {w} {ts = us} f) g =
    want_slots_to op (ts ++ leaf p (day_leaf w) ∷ []) k tree f (rw (append_assoc ts (leaf p (day_leaf w) ∷ []) us) g)
slot_to op ts k tree (fill_bound {t} {ts = us} text_bound f) g =
    want_slots_to op (ts ++ t ∷ []) k tree f (rw (append_assoc ts (t ∷ []) us) g)
slot_to op ts k tree (fill_bound {t} {ts = us} name_bound f) g =
    want_slots_to op (ts ++ t ∷ []) k tree f (rw (append_assoc ts (t ∷ []) us) g)
slot_to op ts k tree (fill_whole {t} {ss} {ts = us} w f) g =
    whole_begins (as_slot ss op ts k) tree w (_, _, f, rw (append_assoc ts (t ∷ []) us) g)
slot_to op ts k tree (fill_last f) g = want_slots_to op ts k tree f g
slot_to op ts k tree (fill_corner f) g = (_, _, f, g)
slot_to op ts k tree (fill_sum {s} {t} {ss} {ts = us} a sign f) g =
    let w = want_sum_to (argument s ss op ts k) tree a (_, sign, _, _, f, rw (append_assoc ts (t ∷ []) us) g) in
    primary_begins (product_part [] [] (sum_part [] [] (argument s ss op ts k))) tree w.2 w.3

slot_from : (s : Slot) (ss : List Slot) (op : Op) (ts : List Syntax) (k : ForPrimary) (xs : List Mark) (tree : Syntax) →
    Follows (on_first xs (slot_step s ss op ts k)) xs tree → GetsSlots (s ∷ ss) op ts k xs tree
slot_from s ss op ts k [] tree h = absurd h
slot_from open_slot ss op ts k (at p opening ∷ xs) tree h =
    let w = want_slots_from ss op ts k xs tree h in (w.0, w.1, fill_open w.2, w.3)
slot_from (sign_slot s) ss op ts k (at p q ∷ xs) tree h =
    let v = sign_from s (want_slots ss op ts k) (at p q ∷ xs) tree h in
    let w = want_slots_from ss op ts k v.0 tree v.2 in (w.0, w.1, fill_sign v.1 w.2, w.3)
slot_from text_slot ss op ts k (at p (text c) ∷ xs) tree h =
    let w = want_slots_from ss op (ts ++ leaf p (day_leaf c) ∷ []) k xs tree h in
    (_, w.1, fill_text w.2, rw (append_assoc ts (leaf p (day_leaf c) ∷ []) w.0) at w.3)
slot_from bound_slot ss op ts k (at p (text c) ∷ xs) tree h =
    let w = want_slots_from ss op (ts ++ leaf p (bound_leaf c) ∷ []) k xs tree h in
    (_, w.1, fill_bound text_bound w.2, rw (append_assoc ts (leaf p (bound_leaf c) ∷ []) w.0) at w.3)
slot_from bound_slot ss op ts k (at p (name c) ∷ xs) tree h =
    let w = want_slots_from ss op (ts ++ leaf p (name_leaf c) ∷ []) k xs tree h in
    (_, w.1, fill_bound name_bound w.2, rw (append_assoc ts (leaf p (name_leaf c) ∷ []) w.0) at w.3)
slot_from whole_slot ss op ts k (at p q ∷ xs) tree h =
    let w = whole_began (as_slot ss op ts k) (at p q ∷ xs) tree h in
    (w.0 ∷ w.3.0, w.3.1, fill_whole w.2 w.3.2, rw (append_assoc ts (w.0 ∷ []) w.3.0) at w.3.3)
slot_from corners_slot ss op ts k (at p closing ∷ xs) tree h =
    let w = want_slots_from ss op ts k xs tree h in (w.0, w.1, fill_last w.2, w.3)
slot_from corners_slot ss op ts k (at p comma ∷ xs) tree h = (h.0, h.1, fill_corner h.2, h.3)
slot_from (sum_slot s) ss op ts k (at p q ∷ xs) tree h =
    let w = want_sum_from (argument s ss op ts k) (at p q ∷ xs) tree
    (primary_began (product_part [] [] (sum_part [] [] (argument s ss op ts k))) (at p q ∷ xs) tree h) in
    (w.0 ∷ w.3.2, w.3.3, fill_sum w.2 w.3.1 w.3.4, rw (append_assoc ts (w.0 ∷ []) w.3.2) at w.3.5)
slot_from s ss op ts k (at p q ∷ xs) tree h = absurd h

-- ---- one step

pub step_to : (s : State) (xs : List Mark) (tree : Syntax) → Completes s xs tree →
    Follows (step s xs) xs tree
step_to (want_not k) xs tree h = not_begins k tree h.2 h.3
step_to (want_primary k) xs tree h = primary_begins k tree h.2 h.3
step_to (after_sign n k) xs tree h = digits_to k tree h.2 h.3
step_to (after_not a k) xs tree h = negated_to k tree h.2 h.3
step_to (after_in n a k) xs tree h = in_to n a k tree h.2 h.3
step_to (after_is a k) xs tree h = is_to a k tree h.2 h.3
step_to (want_null n a k) xs tree h = null_to n a k tree h.1 h.2
step_to (want_slot s ss op ts k) xs tree h = slot_to op ts k tree h.2 h.3
step_to (have_factors k ms us) xs tree h = factors_to k ms us xs tree h
step_to (have_terms k js us) xs tree h = terms_to k js us xs tree h
step_to (have_sum k t) xs tree h = sum_to k t xs tree h
step_to (have_items n a us k) xs tree h = items_to n a us k tree h.2 h.3
step_to (have_rings p us k) xs tree h = rings_to p us k tree h.2 h.3
step_to (have_ands k us) xs tree h = ands_to k us xs tree h
step_to (have_ors k us) xs tree h = ors_to k us xs tree h
step_to (have_or k t) xs tree h = or_to k t xs tree h

pub step_from : (s : State) (xs : List Mark) (tree : Syntax) → Follows (step s xs) xs tree →
    Completes s xs tree
step_from (want_not k) xs tree h = not_began k xs tree h
step_from (want_primary k) xs tree h = primary_began k xs tree h
step_from (after_sign n k) xs tree h = digits_from n k xs tree h
step_from (after_not a k) xs tree h = negated_from a k xs tree h
step_from (after_in n a k) xs tree h = in_from n a k xs tree h
step_from (after_is a k) xs tree h = is_from a k xs tree h
step_from (want_null n a k) xs tree h = null_from n a k xs tree h
step_from (want_slot s ss op ts k) xs tree h = slot_from s ss op ts k xs tree h
step_from (have_factors k ms us) xs tree h = factors_from k ms us xs tree h
step_from (have_terms k js us) xs tree h = terms_from k js us xs tree h
step_from (have_sum k t) xs tree h = sum_from k t xs tree h
step_from (have_items n a us k) xs tree h = items_from n a us k xs tree h
step_from (have_rings p us k) xs tree h = rings_from p us k xs tree h
step_from (have_ands k us) xs tree h = ands_from k us xs tree h
step_from (have_ors k us) xs tree h = ors_from k us xs tree h
step_from (have_or k t) xs tree h = or_from k t xs tree h
