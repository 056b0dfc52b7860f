-- How far tokens are read, one at a time: the tokens read so far are kept as the parts that are still open around the next one.
use Rattle.std.specs.Prelude.{ℕ, Bool, true, false, List, [], ◌∷◌, ◌++◌}
use Rattle.cql_lexer.specs.Mark.{Sort, Mark, at, opening, closing, comma, plus, minus, times, modulo, compare, word, name, text, number}
use Rattle.cql_lexer.specs.declared.token.Comparison.{Comparison}
use Rattle.cql_lexer.specs.declared.token.Keyword.{Keyword}
use Rattle.cql_lexer.specs.declared.token.Keyword.TheVariants.{And, Or, Not, Like, Between, In, Is, Null, True, False, Div, Casei, Date, Interval, Point, Polygon, Bbox, Spatial, Temporal}
use Rattle.cql_tree.specs.declared.expression.Operation.{Operation}
use Rattle.cql_tree.specs.declared.expression.Operation.TheVariants as operation
use Rattle.cql_tree.specs.Syntax.{Syntax, parts_of, joined, leaf, node, name_leaf, number_leaf, text_leaf, truth_leaf, day_leaf, bound_leaf, Op, or_op, and_op, not_op, compare_op, like_op, between_op, in_op, is_null_op, computed_op, casei_op, date_op, interval_op, point_op, polygon_op, ring_op, bbox_op, spatial_op, temporal_op}

-- the sign that ends an argument
pub data Sign : Type 0 where
  comma_sign : Sign
  close_sign : Sign

-- what one point of a function or of a literal behind its keyword holds
pub data Slot : Type 0 where
  open_slot : Slot
  sign_slot : Sign → Slot
  text_slot : Slot
  bound_slot : Slot
  whole_slot : Slot
  -- more corners, and the parenthesis behind them
  corners_slot : Slot
  -- a sum, and the sign behind it
  sum_slot : Sign → Slot

-- what is open around a part of each rule, from the inside out; of a list, the parts before this one
mutual
  pub data ForOr : Type 0 where
    whole : ForOr
    in_paren : ForPrimary → ForOr

  pub data ForAnd : Type 0 where
    or_part : (before : List Syntax) → ForOr → ForAnd

  pub data ForNot : Type 0 where
    and_part : (before : List Syntax) → ForAnd → ForNot

  pub data ForPredicate : Type 0 where
    plain : ForNot → ForPredicate
    under_not : (place : ℕ) → ForNot → ForPredicate

  pub data ForSum : Type 0 where
    left : ForPredicate → ForSum
    right : (by : Comparison) → (value : Syntax) → ForPredicate → ForSum
    pattern : (is_negated : Bool) → (value : Syntax) → ForPredicate → ForSum
    low : (is_negated : Bool) → (value : Syntax) → ForPredicate → ForSum
    high : (is_negated : Bool) → (value low : Syntax) → ForPredicate → ForSum
    item : (is_negated : Bool) → (value : Syntax) → (before : List Syntax) → ForPredicate → ForSum
    argument : Sign → (after : List Slot) → Op → (before : List Syntax) → ForPrimary → ForSum

  pub data ForProduct : Type 0 where
    sum_part : (operations : List Operation) → (before : List Syntax) → ForSum → ForProduct

  -- around a primary, or around a ring of a polygon: its keyword's place, and the rings before this one
  pub data ForPrimary : Type 0 where
    product_part : (operations : List Operation) → (before : List Syntax) → ForProduct → ForPrimary
    ring_part : (place : ℕ) → (before : List Syntax) → ForPrimary → ForPrimary

-- what is open around a number
pub data ForWhole : Type 0 where
  as_primary : ForPrimary → ForWhole
  as_slot : (after : List Slot) → Op → (before : List Syntax) → ForPrimary → ForWhole

-- what comes next, or what was read last
pub data State : Type 0 where
  want_not : ForNot → State
  want_primary : ForPrimary → State
  after_sign : (is_negative : Bool) → ForWhole → State
  after_not : (value : Syntax) → ForPredicate → State
  after_in : (is_negated : Bool) → (value : Syntax) → ForPredicate → State
  after_is : (value : Syntax) → ForPredicate → State
  want_null : (is_negated : Bool) → (value : Syntax) → ForPredicate → State
  want_slot : Slot → (after : List Slot) → Op → (before : List Syntax) → ForPrimary → State
  have_factors : ForProduct → (operations : List Operation) → (parts : List Syntax) → State
  have_terms : ForSum → (operations : List Operation) → (parts : List Syntax) → State
  have_sum : ForSum → Syntax → State
  have_items : (is_negated : Bool) → (value : Syntax) → (items : List Syntax) → ForPredicate → State
  have_rings : (place : ℕ) → (rings : List Syntax) → ForPrimary → State
  have_ands : ForAnd → (parts : List Syntax) → State
  have_ors : ForOr → (parts : List Syntax) → State
  have_or : ForOr → Syntax → State

abbrev pub want_product : ForProduct → State
want_product k = want_primary (product_part [] [] k)

abbrev pub want_sum : ForSum → State
want_sum k = want_product (sum_part [] [] k)

abbrev pub want_predicate : ForPredicate → State
want_predicate k = want_sum (left k)

abbrev pub want_and : ForAnd → State
want_and k = want_not (and_part [] k)

abbrev pub want_or : ForOr → State
want_or k = want_and (or_part [] k)

abbrev pub have_primary : ForPrimary → Syntax → State
have_primary (product_part operations ts k) t = have_factors k operations (ts ++ t ∷ [])
have_primary (ring_part p ts k) t = have_rings p (ts ++ t ∷ []) k

abbrev pub have_product : ForProduct → Syntax → State
have_product (sum_part operations ts k) t = have_terms k operations (ts ++ t ∷ [])

abbrev pub have_not : ForNot → Syntax → State
have_not (and_part ts k) t = have_ands k (ts ++ t ∷ [])

abbrev pub have_and : ForAnd → Syntax → State
have_and (or_part ts k) t = have_ors k (ts ++ t ∷ [])

abbrev pub not_node : ℕ → Syntax → Syntax
not_node p t = node (not_op p) (parts_of (t ∷ []))

abbrev pub have_predicate : ForPredicate → Syntax → State
have_predicate (plain k) t = have_not k t
have_predicate (under_not p k) t = have_not k (not_node p t)

abbrev pub compare_node : Comparison → Syntax → Syntax → Syntax
compare_node c a b = node (compare_op c) (parts_of (a ∷ b ∷ []))

abbrev pub like_node : Bool → Syntax → Syntax → Syntax
like_node n a b = node (like_op n) (parts_of (a ∷ b ∷ []))

abbrev pub between_node : Bool → Syntax → Syntax → Syntax → Syntax
between_node n a b c = node (between_op n) (parts_of (a ∷ b ∷ c ∷ []))

abbrev pub in_node : Bool → Syntax → List Syntax → Syntax
in_node n a ts = node (in_op n) (parts_of (a ∷ ts))

abbrev pub null_node : Bool → Syntax → Syntax
null_node n a = node (is_null_op n) (parts_of (a ∷ []))

-- a function, a literal or a ring of these parts
abbrev pub filled : Op → List Syntax → Syntax
filled op ts = node op (parts_of ts)

abbrev pub want_slots : List Slot → Op → List Syntax → ForPrimary → State
want_slots [] op ts k = have_primary k (filled op ts)
want_slots (sum_slot s ∷ ss) op ts k = want_sum (argument s ss op ts k)
want_slots (s ∷ ss) op ts k = want_slot s ss op ts k

abbrev pub have_whole : ForWhole → Syntax → State
have_whole (as_primary k) t = have_primary k t
have_whole (as_slot ss op ts k) t = want_slots ss op (ts ++ t ∷ []) k

-- what the next token does to a value that may continue
pub data Tail : Type 0 where
  compares : Comparison → Tail
  likes : Tail
  ranges : Tail
  lists : Tail
  tests : Tail
  negates : Tail

pub data Inner : Type 0 where
  tails : Tail → Inner
  computes : Operation → Inner

-- what the next token does to a part that may continue
pub data Role : Type 0 where
  ends : Role
  closes : Role
  parts : Role
  joins_or : Role
  joins_and : Role
  inner : Inner → Role
  other : Role

abbrev pub sort_role : Sort → Role
sort_role closing = closes
sort_role comma = parts
sort_role (word Or) = joins_or
sort_role (word And) = joins_and
sort_role (compare c) = inner (tails (compares c))
sort_role (word Like) = inner (tails likes)
sort_role (word Between) = inner (tails ranges)
sort_role (word In) = inner (tails lists)
sort_role (word Is) = inner (tails tests)
sort_role (word Not) = inner (tails negates)
sort_role plus = inner (computes operation.Plus)
sort_role minus = inner (computes operation.Minus)
sort_role times = inner (computes operation.Times)
sort_role (word Div) = inner (computes operation.Div)
sort_role modulo = inner (computes operation.Modulo)
sort_role _ = other

abbrev pub role_of : List Mark → Role
role_of [] = ends
role_of (at p s ∷ xs) = sort_role s

pub data Step : Type 0 where
  refuse : Step
  whole_tree : Syntax → Step
  go_on : State → Step

abbrev pub or_step : Role → ForOr → Syntax → Step
or_step ends whole t = whole_tree t
or_step closes (in_paren k) t = go_on (have_primary k t)
or_step _ _ t = refuse

abbrev pub ors_step : Role → ForOr → List Syntax → Step
ors_step joins_or k ts = go_on (want_and (or_part ts k))
ors_step r k ts = or_step r k (joined or_op ts)

abbrev pub and_step : Role → ForAnd → Syntax → Step
and_step r (or_part ts k) t = ors_step r k (ts ++ t ∷ [])

abbrev pub ands_step : Role → ForAnd → List Syntax → Step
ands_step joins_and k ts = go_on (want_not (and_part ts k))
ands_step r k ts = and_step r k (joined and_op ts)

abbrev pub not_step : Role → ForNot → Syntax → Step
not_step r (and_part ts k) t = ands_step r k (ts ++ t ∷ [])

abbrev pub predicate_step : Role → ForPredicate → Syntax → Step
predicate_step r (plain k) t = not_step r k t
predicate_step r (under_not p k) t = not_step r k (not_node p t)

abbrev pub tail_state : Tail → ForPredicate → Syntax → State
tail_state (compares c) k a = want_sum (right c a k)
tail_state likes k a = want_sum (pattern false a k)
tail_state ranges k a = want_sum (low false a k)
tail_state lists k a = after_in false a k
tail_state tests k a = after_is a k
tail_state negates k a = after_not a k

abbrev pub left_step : Role → ForPredicate → Syntax → Step
left_step (inner (tails x)) k a = go_on (tail_state x k a)
left_step r k a = predicate_step r k a

abbrev pub low_step : Role → Bool → Syntax → ForPredicate → Syntax → Step
low_step joins_and n a k b = go_on (want_sum (high n a b k))
low_step _ n a k b = refuse

abbrev pub item_step : Role → Bool → Syntax → List Syntax → ForPredicate → Step
item_step closes n a ts k = go_on (have_predicate k (in_node n a ts))
item_step parts n a ts k = go_on (want_sum (item n a ts k))
item_step _ n a ts k = refuse

abbrev pub sign_step : Role → Sign → State → Step
sign_step closes close_sign s = go_on s
sign_step parts comma_sign s = go_on s
sign_step _ _ s = refuse

abbrev pub sum_step : Role → ForSum → Syntax → Step
sum_step r (left k) t = left_step r k t
sum_step r (right c a k) t = predicate_step r k (compare_node c a t)
sum_step r (pattern n a k) t = predicate_step r k (like_node n a t)
sum_step r (low n a k) t = low_step r n a k t
sum_step r (high n a b k) t = predicate_step r k (between_node n a b t)
sum_step r (item n a ts k) t = item_step r n a (ts ++ t ∷ []) k
sum_step r (argument s ss op ts k) t = sign_step r s (want_slots ss op (ts ++ t ∷ []) k)

abbrev pub terms_step : Role → ForSum → List Operation → List Syntax → Step
terms_step (inner (computes operation.Plus)) k operations ts =
    go_on (want_product (sum_part (operations ++ operation.Plus ∷ []) ts k))
terms_step (inner (computes operation.Minus)) k operations ts =
    go_on (want_product (sum_part (operations ++ operation.Minus ∷ []) ts k))
terms_step r k operations ts = sum_step r k (joined (computed_op operations) ts)

abbrev pub product_step : Role → ForProduct → Syntax → Step
product_step r (sum_part operations ts k) t = terms_step r k operations (ts ++ t ∷ [])

abbrev pub factors_step : Role → ForProduct → List Operation → List Syntax → Step
factors_step (inner (computes operation.Times)) k operations ts =
    go_on (want_primary (product_part (operations ++ operation.Times ∷ []) ts k))
factors_step (inner (computes operation.Div)) k operations ts =
    go_on (want_primary (product_part (operations ++ operation.Div ∷ []) ts k))
factors_step (inner (computes operation.Modulo)) k operations ts =
    go_on (want_primary (product_part (operations ++ operation.Modulo ∷ []) ts k))
factors_step r k operations ts = product_step r k (joined (computed_op operations) ts)

-- what follows a keyword
abbrev pub two_sums : List Slot
two_sums = open_slot ∷ sum_slot comma_sign ∷ sum_slot close_sign ∷ []

abbrev pub date_slots : List Slot
date_slots = open_slot ∷ text_slot ∷ sign_slot close_sign ∷ []

abbrev pub interval_slots : List Slot
interval_slots = open_slot ∷ bound_slot ∷ sign_slot comma_sign ∷ bound_slot ∷ sign_slot close_sign ∷ []

abbrev pub point_slots : List Slot
point_slots = open_slot ∷ whole_slot ∷ whole_slot ∷ sign_slot close_sign ∷ []

abbrev pub ring_slots : List Slot
ring_slots = open_slot ∷ whole_slot ∷ whole_slot ∷ corners_slot ∷ []

-- and what follows that of a polygon, before its first ring
abbrev pub polygon_slots : List Slot
polygon_slots = open_slot ∷ ring_slots

abbrev pub bbox_slots : List Slot
bbox_slots =
    open_slot ∷ whole_slot ∷ sign_slot comma_sign ∷ whole_slot ∷ sign_slot comma_sign ∷ whole_slot ∷
    sign_slot comma_sign ∷ whole_slot ∷ sign_slot close_sign ∷ []

abbrev pub begin_word : ForPrimary → ℕ → Keyword → Step
begin_word k p True = go_on (have_primary k (leaf p (truth_leaf true)))
begin_word k p False = go_on (have_primary k (leaf p (truth_leaf false)))
begin_word k p Casei = go_on (want_slots (open_slot ∷ sum_slot close_sign ∷ []) (casei_op p) [] k)
begin_word k p Date = go_on (want_slots date_slots (date_op p) [] k)
begin_word k p Interval = go_on (want_slots interval_slots (interval_op p) [] k)
begin_word k p Point = go_on (want_slots point_slots (point_op p) [] k)
begin_word k p Polygon = go_on (want_slots polygon_slots ring_op [] (ring_part p [] k))
begin_word k p Bbox = go_on (want_slots bbox_slots (bbox_op p) [] k)
begin_word k p (Spatial c) = go_on (want_slots two_sums (spatial_op p c) [] k)
begin_word k p (Temporal c) = go_on (want_slots two_sums (temporal_op p c) [] k)
begin_word k p _ = refuse

abbrev pub begin_digits : Bool → ForWhole → ℕ → Sort → Step
begin_digits n k p (number s) = go_on (have_whole k (leaf p (number_leaf n s)))
begin_digits n k p _ = refuse

abbrev pub begin_whole : ForWhole → ℕ → Sort → Step
begin_whole k p plus = go_on (after_sign false k)
begin_whole k p minus = go_on (after_sign true k)
begin_whole k p s = begin_digits false k p s

abbrev pub begin_primary : ForPrimary → ℕ → Sort → Step
begin_primary k p opening = go_on (want_or (in_paren k))
begin_primary k p (name s) = go_on (have_primary k (leaf p (name_leaf s)))
begin_primary k p (text s) = go_on (have_primary k (leaf p (text_leaf s)))
begin_primary k p (word w) = begin_word k p w
begin_primary k p s = begin_whole (as_primary k) p s

abbrev pub begin_not : ForNot → ℕ → Sort → Step
begin_not k p (word Not) = go_on (want_predicate (under_not p k))
begin_not k p s = begin_primary (product_part [] [] (sum_part [] [] (left (plain k)))) p s

-- behind a tail's NOT
abbrev pub begin_negated : Syntax → ForPredicate → Sort → Step
begin_negated a k (word Like) = go_on (want_sum (pattern true a k))
begin_negated a k (word Between) = go_on (want_sum (low true a k))
begin_negated a k (word In) = go_on (after_in true a k)
begin_negated a k _ = refuse

abbrev pub begin_items : Bool → Syntax → ForPredicate → Sort → Step
begin_items n a k opening = go_on (want_sum (item n a [] k))
begin_items n a k _ = refuse

abbrev pub begin_null : Bool → Syntax → ForPredicate → Sort → Step
begin_null n a k (word Null) = go_on (have_predicate k (null_node n a))
begin_null n a k _ = refuse

abbrev pub begin_is : Syntax → ForPredicate → Sort → Step
begin_is a k (word Not) = go_on (want_null true a k)
begin_is a k s = begin_null false a k s

abbrev pub slot_step : Slot → List Slot → Op → List Syntax → ForPrimary → ℕ → Sort → Step
slot_step open_slot ss op ts k p opening = go_on (want_slots ss op ts k)
slot_step (sign_slot s) ss op ts k p q = sign_step (sort_role q) s (want_slots ss op ts k)
slot_step text_slot ss op ts k p (text s) = go_on (want_slots ss op (ts ++ leaf p (day_leaf s) ∷ []) k)
slot_step bound_slot ss op ts k p (text s) = go_on (want_slots ss op (ts ++ leaf p (bound_leaf s) ∷ []) k)
slot_step bound_slot ss op ts k p (name s) = go_on (want_slots ss op (ts ++ leaf p (name_leaf s) ∷ []) k)
slot_step whole_slot ss op ts k p s = begin_whole (as_slot ss op ts k) p s
slot_step corners_slot ss op ts k p closing = go_on (want_slots ss op ts k)
slot_step corners_slot ss op ts k p comma = go_on (want_slot whole_slot (whole_slot ∷ corners_slot ∷ ss) op ts k)
slot_step (sum_slot s) ss op ts k p q = begin_primary (product_part [] [] (sum_part [] [] (argument s ss op ts k))) p q
slot_step _ ss op ts k p _ = refuse

-- behind a ring
abbrev pub rings_step : Role → ℕ → List Syntax → ForPrimary → Step
rings_step closes p ts k = go_on (have_primary k (filled (polygon_op p) ts))
rings_step parts p ts k = go_on (want_slots ring_slots ring_op [] (ring_part p ts k))
rings_step _ p ts k = refuse

abbrev pub on_first : List Mark → (ℕ → Sort → Step) → Step
on_first [] f = refuse
on_first (at p s ∷ xs) f = f p s

-- what the first token does
abbrev pub step : State → List Mark → Step
step (want_not k) xs = on_first xs (begin_not k)
step (want_primary k) xs = on_first xs (begin_primary k)
step (after_sign n k) xs = on_first xs (begin_digits n k)
step (after_not a k) xs = on_first xs (λ p. begin_negated a k)
step (after_in n a k) xs = on_first xs (λ p. begin_items n a k)
step (after_is a k) xs = on_first xs (λ p. begin_is a k)
step (want_null n a k) xs = on_first xs (λ p. begin_null n a k)
step (want_slot s ss op ts k) xs = on_first xs (slot_step s ss op ts k)
step (have_factors k operations ts) xs = factors_step (role_of xs) k operations ts
step (have_terms k operations ts) xs = terms_step (role_of xs) k operations ts
step (have_sum k t) xs = sum_step (role_of xs) k t
step (have_items n a ts k) xs = item_step (role_of xs) n a ts k
step (have_rings p ts k) xs = rings_step (role_of xs) p ts k
step (have_ands k ts) xs = ands_step (role_of xs) k ts
step (have_ors k ts) xs = ors_step (role_of xs) k ts
step (have_or k t) xs = or_step (role_of xs) k t

-- the tree that the tokens spell, or the tokens left if no tree can come
pub data Outcome : Type 0 where
  spells : Syntax → Outcome
  stops : List Mark → Outcome

abbrev pub ended : Step → Outcome
ended refuse = stops []
ended (whole_tree t) = spells t
ended (go_on s) = stops []

abbrev pub continued : Step → List Mark → (State → Outcome) → Outcome
continued refuse xs go = stops xs
continued (whole_tree t) xs go = stops xs
continued (go_on s) xs go = go s

unfoldable pub run : State → List Mark → Outcome
run s [] = ended (step s [])
run s (x ∷ xs) = continued (step s (x ∷ xs)) (x ∷ xs) (λ s. run s xs)
