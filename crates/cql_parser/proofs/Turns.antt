-- What a run does at the turns of the rules.
use Rattle.std.proofs.Common.{◌≡◌, ℕ, Bool, true, false, List, [], ◌∷◌, ◌++◌, if◌then◌else◌, refl, ◌∙◌, ap, length, ◌==◌, ◌+◌, add-one, arith, append_assoc}
use Rattle.std.proofs.lemmas.Bool.Decides.{nat_tests}
use Rattle.std.specs.Prelude.{Result, Ok, Err, MatchResult}
use Rattle.cql_lexer.specs.Mark.{Sort, Mark, at, opening, closing, comma, plus, minus, times, modulo, compare, word, name, text, number, marks, mark_of}
use Rattle.cql_lexer.specs.declared.token.Comparison.{Comparison}
use Rattle.cql_lexer.specs.declared.token.Keyword.{Keyword}
use Rattle.cql_lexer.specs.declared.token.Keyword.TheVariants.{And, Or, Not, Like, Between, In, Is, Null, True, False, Div, Casei, Date, Interval, Point, Polygon, Bbox, Spatial, Temporal}
use Rattle.cql_lexer.specs.declared.token.Token.{Token}
use Rattle.cql_tree.specs.declared.expression.Operation.{Operation}
use Rattle.cql_tree.specs.declared.expression.Operation.TheVariants as operation
use Rattle.cql_tree.specs.declared.expression.Corner.{Corner}
use Rattle.cql_parser.specs.declared.start.Pairing.{Pairing}
use Rattle.cql_parser.specs.declared.start.Pairing.TheVariants as pairing
use Rattle.cql_parser.specs.Grammar.{operation_sort, IsAddition, plus_adds, minus_adds, IsMultiplication, times_multiplies, div_multiplies, modulo_multiplies}
use Rattle.cql_tree.specs.Syntax.{Syntax, Op, joined, leaf, name_leaf, number_leaf, day_leaf, bound_leaf, truth_leaf, or_op, and_op, computed_op, polygon_op, ring_op}
use Rattle.cql_parser.specs.inner.Descent.{Begins, BeginsNo, Parses, IsStopped, ForSlot, for_slot, want_here, pass_here, have_here, want_corner, want_pair, have_corner, want_ring, have_corners}
use Rattle.cql_parser.specs.inner.Starts.{IsNoTail, IsNoNegated, BeginsNegated, IsNoCall, IsNoLiteral, word_of, pair_op}
use Rattle.cql_tree.specs.Views.{syntax_of, number_of, numbers_of}
use Rattle.cql_parser.specs.declared.stop.Stop.{Stop}
use Rattle.cql_parser.specs.declared.stop.Stop.TheVariants.{Memory, At}
use Rattle.cql_parser.specs.declared.stop.Parsed.{Parsed}
use Rattle.cql_parser.specs.Machine.{Sign, comma_sign, close_sign, Slot, open_slot, sign_slot, text_slot, bound_slot, whole_slot, corners_slot, ForOr, whole, in_paren, ForAnd, or_part, ForNot, and_part, ForPredicate, plain, under_not, ForSum, left, right, pattern, low, high, item, argument, ForProduct, sum_part, ForPrimary, product_part, ring_part, ForWhole, as_primary, as_slot, State, want_not, want_primary, after_sign, after_not, after_in, after_is, want_null, want_slot, have_factors, have_terms, have_sum, have_items, have_rings, have_ands, have_ors, have_or, want_product, want_predicate, have_primary, have_product, have_predicate, have_and, have_whole, want_slots, compare_node, like_node, between_node, filled, ring_slots, refuse, go_on, role_of, predicate_step, step, Outcome, spells, stops, ended, continued, run, two_sums}

-- ---- one step of a run

-- the same step, the same run
run_same : (r s : State) (xs : List Mark) → step r xs ≡ step s xs → run r xs ≡ run s xs
unfolding run
run_same r s [] e = ap ended e
run_same r s (x ∷ xs) e = ap (λ c. continued c (x ∷ xs) (λ n. run n xs)) e

-- a token that is taken
pub goes_at : (s n : State) (p : ℕ) (q : Sort) (xs ys : List Mark) → step s (at p q ∷ ys) ≡ go_on n → xs ≡ at p q ∷ ys →
    run s xs ≡ run n ys
unfolding run
goes_at s n p q xs ys e h = rw (h, e) refl

pub goes : (s n : State) (q : Sort) (xs ys : List Mark) → ((p : ℕ) → step s (at p q ∷ ys) ≡ go_on n) → Begins q xs ys →
    run s xs ≡ run n ys
goes s n q [] ys e h = absurd h
goes s n q (at p r ∷ xs) ys e h =
    goes_at s n p q (at p r ∷ xs) ys (e p) (ap (λ o. at p o ∷ xs) h.0 ∙ ap (λ zs. at p q ∷ zs) h.1)

-- one that is not
refuses : (s : State) (xs : List Mark) → step s xs ≡ refuse → run s xs ≡ stops xs
unfolding run
refuses s [] e = rw e refl
refuses s (x ∷ xs) e = rw e refl

-- ---- or, and, not

or_is : (k : ForOr) (us : List Syntax) (xs : List Mark) → BeginsNo (word Or) xs →
    step (have_ors k us) xs ≡ step (have_or k (joined or_op us)) xs
or_is k us (at p (word Or) ∷ xs) h = absurd (h xs (refl, refl))
or_is k us xs h = refl

pub or_stays : (k : ForOr) (us : List Syntax) (xs : List Mark) → BeginsNo (word Or) xs →
    run (have_ors k us) xs ≡ run (have_or k (joined or_op us)) xs
or_stays k us xs h = run_same (have_ors k us) (have_or k (joined or_op us)) xs (or_is k us xs h)

and_is : (k : ForAnd) (us : List Syntax) (xs : List Mark) → BeginsNo (word And) xs →
    step (have_ands k us) xs ≡ step (have_and k (joined and_op us)) xs
and_is k us (at p (word And) ∷ xs) h = absurd (h xs (refl, refl))
and_is (or_part vs k) us xs h = refl

pub and_stays : (k : ForAnd) (us : List Syntax) (xs : List Mark) → BeginsNo (word And) xs →
    run (have_ands k us) xs ≡ run (have_and k (joined and_op us)) xs
and_stays k us xs h = run_same (have_ands k us) (have_and k (joined and_op us)) xs (and_is k us xs h)

not_is : (k : ForNot) (xs : List Mark) → BeginsNo (word Not) xs →
    step (want_not k) xs ≡ step (want_predicate (plain k)) xs
not_is k (at p (word Not) ∷ xs) h = absurd (h xs (refl, refl))
not_is k xs h = refl

pub not_stays : (k : ForNot) (xs : List Mark) → BeginsNo (word Not) xs →
    run (want_not k) xs ≡ run (want_predicate (plain k)) xs
not_stays k xs h = run_same (want_not k) (want_predicate (plain k)) xs (not_is k xs h)

-- ---- predicate

predicate_is : (k : ForPredicate) (t : Syntax) (xs : List Mark) →
    predicate_step (role_of xs) k t ≡ step (have_predicate k t) xs
predicate_is (plain (and_part us k)) t xs = refl
predicate_is (under_not p (and_part us k)) t xs = refl

pub right_done : (c : Comparison) (a : Syntax) (k : ForPredicate) (t : Syntax) (xs : List Mark) →
    run (have_sum (right c a k) t) xs ≡ run (have_predicate k (compare_node c a t)) xs
right_done c a k t xs =
    run_same (have_sum (right c a k) t) (have_predicate k (compare_node c a t)) xs (predicate_is k (compare_node c a t) xs)

pub pattern_done : (n : Bool) (a : Syntax) (k : ForPredicate) (t : Syntax) (xs : List Mark) →
    run (have_sum (pattern n a k) t) xs ≡ run (have_predicate k (like_node n a t)) xs
pattern_done n a k t xs =
    run_same (have_sum (pattern n a k) t) (have_predicate k (like_node n a t)) xs (predicate_is k (like_node n a t) xs)

pub high_done : (n : Bool) (a b : Syntax) (k : ForPredicate) (t : Syntax) (xs : List Mark) →
    run (have_sum (high n a b k) t) xs ≡ run (have_predicate k (between_node n a b t)) xs
high_done n a b k t xs =
    run_same (have_sum (high n a b k) t) (have_predicate k (between_node n a b t)) xs
    (predicate_is k (between_node n a b t) xs)

left_is : (k : ForPredicate) (t : Syntax) (xs : List Mark) → IsNoTail xs →
    step (have_sum (left k) t) xs ≡ predicate_step (role_of xs) k t
left_is k t (at p (compare c) ∷ xs) h = absurd h
left_is k t (at p (word Like) ∷ xs) h = absurd h
left_is k t (at p (word Between) ∷ xs) h = absurd h
left_is k t (at p (word In) ∷ xs) h = absurd h
left_is k t (at p (word Is) ∷ xs) h = absurd h
left_is k t (at p (word Not) ∷ xs) h = absurd h
left_is k t xs h = refl

pub left_stays : (k : ForPredicate) (t : Syntax) (xs : List Mark) → IsNoTail xs →
    run (have_sum (left k) t) xs ≡ run (have_predicate k t) xs
left_stays k t xs h = run_same (have_sum (left k) t) (have_predicate k t) xs (left_is k t xs h ∙ predicate_is k t xs)

-- ---- tails

-- a word that may stand behind a NOT: the state behind it, without and with one
pub tail_goes : (k : ForPredicate) (a : Syntax) (n : Bool) (w : Keyword) (to : Bool → State) (xs ys : List Mark) →
    ((p : ℕ) → step (have_sum (left k) a) (at p (word w) ∷ ys) ≡ go_on (to false)) →
    ((p : ℕ) → step (after_not a k) (at p (word w) ∷ ys) ≡ go_on (to true)) →
    BeginsNegated n w xs ys → run (have_sum (left k) a) xs ≡ run (to n) ys
tail_goes k a false w to xs ys e f h = goes (have_sum (left k) a) (to false) (word w) xs ys e h
tail_goes k a true w to [] ys e f h = absurd h
tail_goes k a true w to (at p s ∷ xs) ys e f h =
    goes_at (have_sum (left k) a) (after_not a k) p (word Not) (at p s ∷ xs) xs refl (ap (λ o. at p o ∷ xs) h.0) ∙
    goes (after_not a k) (to true) (word w) xs ys f h.1

negated_is : (k : ForPredicate) (a : Syntax) (xs : List Mark) → IsNoNegated xs → step (after_not a k) xs ≡ refuse
negated_is k a (at p (word Like) ∷ xs) h = absurd h
negated_is k a (at p (word Between) ∷ xs) h = absurd h
negated_is k a (at p (word In) ∷ xs) h = absurd h
negated_is k a xs h = refl

pub negated_stops : (k : ForPredicate) (a : Syntax) (xs ys : List Mark) → Begins (word Not) xs ys × IsNoNegated ys →
    run (have_sum (left k) a) xs ≡ stops ys
negated_stops k a xs ys h =
    goes (have_sum (left k) a) (after_not a k) (word Not) xs ys (λ p. refl) h.0 ∙
    refuses (after_not a k) ys (negated_is k a ys h.1)

low_is : (n : Bool) (a b : Syntax) (k : ForPredicate) (xs : List Mark) → BeginsNo (word And) xs →
    step (have_sum (low n a k) b) xs ≡ refuse
low_is n a b k (at p (word And) ∷ xs) h = absurd (h xs (refl, refl))
low_is n a b k xs h = refl

pub low_stops : (n : Bool) (a b : Syntax) (k : ForPredicate) (xs : List Mark) → BeginsNo (word And) xs →
    run (have_sum (low n a k) b) xs ≡ stops xs
low_stops n a b k xs h = refuses (have_sum (low n a k) b) xs (low_is n a b k xs h)

in_is : (n : Bool) (a : Syntax) (k : ForPredicate) (xs : List Mark) → BeginsNo opening xs →
    step (after_in n a k) xs ≡ refuse
in_is n a k (at p opening ∷ xs) h = absurd (h xs (refl, refl))
in_is n a k xs h = refl

pub in_stops : (n : Bool) (a : Syntax) (k : ForPredicate) (xs : List Mark) → BeginsNo opening xs →
    run (after_in n a k) xs ≡ stops xs
in_stops n a k xs h = refuses (after_in n a k) xs (in_is n a k xs h)

pub item_had : (n : Bool) (a : Syntax) (us : List Syntax) (k : ForPredicate) (t : Syntax) (xs : List Mark) →
    run (have_sum (item n a us k) t) xs ≡ run (have_items n a (us ++ t ∷ []) k) xs
item_had n a us k t xs = run_same (have_sum (item n a us k) t) (have_items n a (us ++ t ∷ []) k) xs refl

items_is : (n : Bool) (a : Syntax) (us : List Syntax) (k : ForPredicate) (xs : List Mark) → BeginsNo comma xs →
    BeginsNo closing xs → step (have_items n a us k) xs ≡ refuse
items_is n a us k (at p comma ∷ xs) h g = absurd (h xs (refl, refl))
items_is n a us k (at p closing ∷ xs) h g = absurd (g xs (refl, refl))
items_is n a us k (at p (word And) ∷ xs) h g = refl
items_is n a us k xs h g = refl

pub items_stop : (n : Bool) (a : Syntax) (us : List Syntax) (k : ForPredicate) (xs : List Mark) → BeginsNo comma xs →
    BeginsNo closing xs → run (have_items n a us k) xs ≡ stops xs
items_stop n a us k xs h g = refuses (have_items n a us k) xs (items_is n a us k xs h g)

is_is : (a : Syntax) (k : ForPredicate) (xs : List Mark) → BeginsNo (word Not) xs →
    step (after_is a k) xs ≡ step (want_null false a k) xs
is_is a k (at p (word Not) ∷ xs) h = absurd (h xs (refl, refl))
is_is a k xs h = refl

pub is_stays : (a : Syntax) (k : ForPredicate) (xs : List Mark) → BeginsNo (word Not) xs →
    run (after_is a k) xs ≡ run (want_null false a k) xs
is_stays a k xs h = run_same (after_is a k) (want_null false a k) xs (is_is a k xs h)

null_is : (n : Bool) (a : Syntax) (k : ForPredicate) (xs : List Mark) → BeginsNo (word Null) xs →
    step (want_null n a k) xs ≡ refuse
null_is n a k (at p (word Null) ∷ xs) h = absurd (h xs (refl, refl))
null_is n a k xs h = refl

pub null_stops : (n : Bool) (a : Syntax) (k : ForPredicate) (xs : List Mark) → BeginsNo (word Null) xs →
    run (want_null n a k) xs ≡ stops xs
null_stops n a k xs h = refuses (want_null n a k) xs (null_is n a k xs h)

-- ---- sum, product

sum_is : (k : ForSum) (js : List Operation) (us : List Syntax) (xs : List Mark) → BeginsNo plus xs → BeginsNo minus xs →
    step (have_terms k js us) xs ≡ step (have_sum k (joined (computed_op js) us)) xs
sum_is k js us (at p plus ∷ xs) h g = absurd (h xs (refl, refl))
sum_is k js us (at p minus ∷ xs) h g = absurd (g xs (refl, refl))
sum_is k js us (at p (word And) ∷ xs) h g = refl
sum_is k js us xs h g = refl

pub sum_stays : (k : ForSum) (js : List Operation) (us : List Syntax) (xs : List Mark) → BeginsNo plus xs →
    BeginsNo minus xs → run (have_terms k js us) xs ≡ run (have_sum k (joined (computed_op js) us)) xs
sum_stays k js us xs h g = run_same (have_terms k js us) (have_sum k (joined (computed_op js) us)) xs (sum_is k js us xs h g)

pub term_goes : {by : Operation} → IsAddition by → (k : ForSum) (js : List Operation) (us : List Syntax) (xs ys : List Mark) →
    Begins (operation_sort by) xs ys → run (have_terms k js us) xs ≡ run (want_product (sum_part (js ++ by ∷ []) us k)) ys
term_goes plus_adds k js us xs ys h =
    goes (have_terms k js us) (want_product (sum_part (js ++ operation.Plus ∷ []) us k)) plus xs ys (λ p. refl) h
term_goes minus_adds k js us xs ys h =
    goes (have_terms k js us) (want_product (sum_part (js ++ operation.Minus ∷ []) us k)) minus xs ys (λ p. refl) h

product_is : (k : ForProduct) (ms : List Operation) (us : List Syntax) (xs : List Mark) → BeginsNo times xs →
    BeginsNo (word Div) xs → BeginsNo modulo xs →
    step (have_factors k ms us) xs ≡ step (have_product k (joined (computed_op ms) us)) xs
product_is k ms us (at p times ∷ xs) h g f = absurd (h xs (refl, refl))
product_is k ms us (at p (word Div) ∷ xs) h g f = absurd (g xs (refl, refl))
product_is k ms us (at p modulo ∷ xs) h g f = absurd (f xs (refl, refl))
product_is (sum_part js vs k) ms us xs h g f = refl

pub product_stays : (k : ForProduct) (ms : List Operation) (us : List Syntax) (xs : List Mark) → BeginsNo times xs →
    BeginsNo (word Div) xs → BeginsNo modulo xs →
    run (have_factors k ms us) xs ≡ run (have_product k (joined (computed_op ms) us)) xs
product_stays k ms us xs h g f =
    run_same (have_factors k ms us) (have_product k (joined (computed_op ms) us)) xs (product_is k ms us xs h g f)

pub factor_goes : {by : Operation} → IsMultiplication by → (k : ForProduct) (ms : List Operation) (us : List Syntax)
    (xs ys : List Mark) → Begins (operation_sort by) xs ys →
    run (have_factors k ms us) xs ≡ run (want_primary (product_part (ms ++ by ∷ []) us k)) ys
factor_goes times_multiplies k ms us xs ys h =
    goes (have_factors k ms us) (want_primary (product_part (ms ++ operation.Times ∷ []) us k)) times xs ys (λ p. refl) h
factor_goes div_multiplies k ms us xs ys h =
    goes (have_factors k ms us) (want_primary (product_part (ms ++ operation.Div ∷ []) us k)) (word Div) xs ys (λ p. refl) h
factor_goes modulo_multiplies k ms us xs ys h =
    goes (have_factors k ms us) (want_primary (product_part (ms ++ operation.Modulo ∷ []) us k)) modulo xs ys (λ p. refl) h

-- ---- parentheses and functions

paren_is : (k : ForPrimary) (t : Syntax) (xs : List Mark) → BeginsNo closing xs →
    step (have_or (in_paren k) t) xs ≡ refuse
paren_is k t (at p closing ∷ xs) h = absurd (h xs (refl, refl))
paren_is k t (at p (word And) ∷ xs) h = refl
paren_is k t xs h = refl

pub paren_stops : (k : ForPrimary) (t : Syntax) (xs : List Mark) → BeginsNo closing xs →
    run (have_or (in_paren k) t) xs ≡ stops xs
paren_stops k t xs h = refuses (have_or (in_paren k) t) xs (paren_is k t xs h)

pub pair_goes : (by : Pairing) (k : ForPrimary) (p : ℕ) (xs ys : List Mark) → xs ≡ at p (word (word_of by)) ∷ ys →
    run (want_primary k) xs ≡ run (want_slots two_sums (pair_op p by) [] k) ys
pair_goes (pairing.Spatial c) k p xs ys h =
    goes_at (want_primary k) (want_slots two_sums (pair_op p (pairing.Spatial c)) [] k) p (word (Spatial c)) xs ys refl h
pair_goes (pairing.Temporal c) k p xs ys h =
    goes_at (want_primary k) (want_slots two_sums (pair_op p (pairing.Temporal c)) [] k) p (word (Temporal c)) xs ys refl h

argument_is : (s : Sign) (ss : List Slot) (op : Op) (us : List Syntax) (k : ForPrimary) (t : Syntax) (xs : List Mark) →
    step (have_sum (argument s ss op us k) t) xs ≡ step (want_slot (sign_slot s) ss op (us ++ t ∷ []) k) xs
argument_is s ss op us k t [] = refl
argument_is s ss op us k t (at p q ∷ xs) = refl

-- behind an argument stands its sign
pub argument_had : (s : Sign) (ss : List Slot) (op : Op) (us : List Syntax) (k : ForPrimary) (t : Syntax) (xs : List Mark) →
    run (have_sum (argument s ss op us k) t) xs ≡ run (want_slot (sign_slot s) ss op (us ++ t ∷ []) k) xs
argument_had s ss op us k t xs =
    run_same (have_sum (argument s ss op us k) t) (want_slot (sign_slot s) ss op (us ++ t ∷ []) k) xs
    (argument_is s ss op us k t xs)

-- ---- slots

pub open_goes : (a : ForSlot) (xs ys : List Mark) → Begins opening xs ys →
    run (want_here open_slot a) xs ≡ run (pass_here a) ys
open_goes (for_slot ss op ts k) xs ys h =
    goes (want_slot open_slot ss op ts k) (want_slots ss op ts k) opening xs ys (λ p. refl) h

open_is : (a : ForSlot) (xs : List Mark) → BeginsNo opening xs → step (want_here open_slot a) xs ≡ refuse
open_is (for_slot ss op ts k) (at p opening ∷ xs) h = absurd (h xs (refl, refl))
open_is (for_slot ss op ts k) xs h = refl

pub open_stops : (a : ForSlot) (xs : List Mark) → BeginsNo opening xs → run (want_here open_slot a) xs ≡ stops xs
open_stops a xs h = refuses (want_here open_slot a) xs (open_is a xs h)

pub close_goes : (a : ForSlot) (xs ys : List Mark) → Begins closing xs ys →
    run (want_here (sign_slot close_sign) a) xs ≡ run (pass_here a) ys
close_goes (for_slot ss op ts k) xs ys h =
    goes (want_slot (sign_slot close_sign) ss op ts k) (want_slots ss op ts k) closing xs ys (λ p. refl) h

close_is : (a : ForSlot) (xs : List Mark) → BeginsNo closing xs → step (want_here (sign_slot close_sign) a) xs ≡ refuse
close_is (for_slot ss op ts k) (at p closing ∷ xs) h = absurd (h xs (refl, refl))
close_is (for_slot ss op ts k) (at p (word And) ∷ xs) h = refl
close_is (for_slot ss op ts k) xs h = refl

pub close_stops : (a : ForSlot) (xs : List Mark) → BeginsNo closing xs →
    run (want_here (sign_slot close_sign) a) xs ≡ stops xs
close_stops a xs h = refuses (want_here (sign_slot close_sign) a) xs (close_is a xs h)

pub comma_goes : (a : ForSlot) (xs ys : List Mark) → Begins comma xs ys →
    run (want_here (sign_slot comma_sign) a) xs ≡ run (pass_here a) ys
comma_goes (for_slot ss op ts k) xs ys h =
    goes (want_slot (sign_slot comma_sign) ss op ts k) (want_slots ss op ts k) comma xs ys (λ p. refl) h

comma_is : (a : ForSlot) (xs : List Mark) → BeginsNo comma xs → step (want_here (sign_slot comma_sign) a) xs ≡ refuse
comma_is (for_slot ss op ts k) (at p comma ∷ xs) h = absurd (h xs (refl, refl))
comma_is (for_slot ss op ts k) (at p (word And) ∷ xs) h = refl
comma_is (for_slot ss op ts k) xs h = refl

pub comma_stops : (a : ForSlot) (xs : List Mark) → BeginsNo comma xs →
    run (want_here (sign_slot comma_sign) a) xs ≡ stops xs
comma_stops a xs h = refuses (want_here (sign_slot comma_sign) a) xs (comma_is a xs h)

pub text_goes : (a : ForSlot) (p : ℕ) (s : List ℕ) (xs ys : List Mark) → xs ≡ at p (text s) ∷ ys →
    run (want_here text_slot a) xs ≡ run (have_here a (leaf p (day_leaf s))) ys
text_goes (for_slot ss op ts k) p s xs ys h =
    goes_at (want_slot text_slot ss op ts k) (want_slots ss op (ts ++ leaf p (day_leaf s) ∷ []) k) p (text s) xs ys refl h

text_is : (a : ForSlot) (xs : List Mark) → ((s : List ℕ) → BeginsNo (text s) xs) → step (want_here text_slot a) xs ≡ refuse
text_is (for_slot ss op ts k) (at p (text s) ∷ xs) h = absurd (h s xs (refl, refl))
text_is (for_slot ss op ts k) xs h = refl

pub text_stops : (a : ForSlot) (xs : List Mark) → ((s : List ℕ) → BeginsNo (text s) xs) →
    run (want_here text_slot a) xs ≡ stops xs
text_stops a xs h = refuses (want_here text_slot a) xs (text_is a xs h)

pub text_bound_goes : (a : ForSlot) (p : ℕ) (s : List ℕ) (xs ys : List Mark) → xs ≡ at p (text s) ∷ ys →
    run (want_here bound_slot a) xs ≡ run (have_here a (leaf p (bound_leaf s))) ys
text_bound_goes (for_slot ss op ts k) p s xs ys h =
    goes_at (want_slot bound_slot ss op ts k) (want_slots ss op (ts ++ leaf p (bound_leaf s) ∷ []) k) p (text s) xs ys refl h

pub name_bound_goes : (a : ForSlot) (p : ℕ) (s : List ℕ) (xs ys : List Mark) → xs ≡ at p (name s) ∷ ys →
    run (want_here bound_slot a) xs ≡ run (have_here a (leaf p (name_leaf s))) ys
name_bound_goes (for_slot ss op ts k) p s xs ys h =
    goes_at (want_slot bound_slot ss op ts k) (want_slots ss op (ts ++ leaf p (name_leaf s) ∷ []) k) p (name s) xs ys refl h

bound_is : (a : ForSlot) (xs : List Mark) → ((s : List ℕ) → BeginsNo (text s) xs) → ((s : List ℕ) → BeginsNo (name s) xs) →
    step (want_here bound_slot a) xs ≡ refuse
bound_is (for_slot ss op ts k) (at p (text s) ∷ xs) h g = absurd (h s xs (refl, refl))
bound_is (for_slot ss op ts k) (at p (name s) ∷ xs) h g = absurd (g s xs (refl, refl))
bound_is (for_slot ss op ts k) xs h g = refl

pub bound_stops : (a : ForSlot) (xs : List Mark) → ((s : List ℕ) → BeginsNo (text s) xs) →
    ((s : List ℕ) → BeginsNo (name s) xs) → run (want_here bound_slot a) xs ≡ stops xs
bound_stops a xs h g = refuses (want_here bound_slot a) xs (bound_is a xs h g)

pub digits_go : (n : Bool) (k : ForWhole) (p : ℕ) (s : List ℕ) (xs ys : List Mark) → xs ≡ at p (number s) ∷ ys →
    run (after_sign n k) xs ≡ run (have_whole k (leaf p (number_leaf n s))) ys
digits_go n k p s xs ys h =
    goes_at (after_sign n k) (have_whole k (leaf p (number_leaf n s))) p (number s) xs ys refl h

digits_is : (n : Bool) (k : ForWhole) (xs : List Mark) → ((s : List ℕ) → BeginsNo (number s) xs) →
    step (after_sign n k) xs ≡ refuse
digits_is n k (at p (number s) ∷ xs) h = absurd (h s xs (refl, refl))
digits_is n k xs h = refl

pub digits_stop : (n : Bool) (k : ForWhole) (xs : List Mark) → ((s : List ℕ) → BeginsNo (number s) xs) →
    run (after_sign n k) xs ≡ stops xs
digits_stop n k xs h = refuses (after_sign n k) xs (digits_is n k xs h)

-- a number in a slot
abbrev pub whole_of : ForSlot → ForWhole
whole_of (for_slot ss op ts k) = as_slot ss op ts k

pub whole_had : (a : ForSlot) (t : Syntax) (xs : List Mark) →
    run (have_whole (whole_of a) t) xs ≡ run (have_here a t) xs
whole_had (for_slot ss op ts k) t xs = refl

pub sign_goes : (n : Bool) (a : ForSlot) (xs ys : List Mark) → Begins (if n then minus else plus) xs ys →
    run (want_here whole_slot a) xs ≡ run (after_sign n (whole_of a)) ys
sign_goes true (for_slot ss op ts k) xs ys h =
    goes (want_slot whole_slot ss op ts k) (after_sign true (as_slot ss op ts k)) minus xs ys (λ p. refl) h
sign_goes false (for_slot ss op ts k) xs ys h =
    goes (want_slot whole_slot ss op ts k) (after_sign false (as_slot ss op ts k)) plus xs ys (λ p. refl) h

whole_is : (a : ForSlot) (xs : List Mark) → BeginsNo plus xs → BeginsNo minus xs →
    step (want_here whole_slot a) xs ≡ step (after_sign false (whole_of a)) xs
whole_is (for_slot ss op ts k) (at p plus ∷ xs) h g = absurd (h xs (refl, refl))
whole_is (for_slot ss op ts k) (at p minus ∷ xs) h g = absurd (g xs (refl, refl))
whole_is (for_slot ss op ts k) xs h g = refl

pub whole_stays : (a : ForSlot) (xs : List Mark) → BeginsNo plus xs → BeginsNo minus xs →
    run (want_here whole_slot a) xs ≡ run (after_sign false (whole_of a)) xs
whole_stays a xs h g = run_same (want_here whole_slot a) (after_sign false (whole_of a)) xs (whole_is a xs h g)

-- ---- two numbers

abbrev pub first_of : ForSlot → ForSlot
first_of (for_slot ss op ts k) = for_slot (whole_slot ∷ ss) op ts k

abbrev pub first_of_pair : ForSlot → ForSlot
first_of_pair (for_slot ss op ts k) = for_slot (sign_slot comma_sign ∷ whole_slot ∷ ss) op ts k

-- the second number's slot, and the comma's before it
abbrev pub second_of : Syntax → ForSlot → ForSlot
second_of x (for_slot ss op ts k) = for_slot ss op (ts ++ x ∷ []) k

abbrev pub comma_of : Syntax → ForSlot → ForSlot
comma_of x (for_slot ss op ts k) = for_slot (whole_slot ∷ ss) op (ts ++ x ∷ []) k

pub corner_begins : (a : ForSlot) (xs : List Mark) → run (want_corner a) xs ≡ run (want_here whole_slot (first_of a)) xs
corner_begins (for_slot ss op ts k) xs = refl

pub pair_begins : (a : ForSlot) (xs : List Mark) → run (want_pair a) xs ≡ run (want_here whole_slot (first_of_pair a)) xs
pair_begins (for_slot ss op ts k) xs = refl

pub corner_halves : (a : ForSlot) (x : Syntax) (xs : List Mark) →
    run (have_here (first_of a) x) xs ≡ run (want_here whole_slot (second_of x a)) xs
corner_halves (for_slot ss op ts k) x xs = refl

pub pair_halves : (a : ForSlot) (x : Syntax) (xs : List Mark) →
    run (have_here (first_of_pair a) x) xs ≡ run (want_here (sign_slot comma_sign) (comma_of x a)) xs
pair_halves (for_slot ss op ts k) x xs = refl

pub comma_passes : (a : ForSlot) (x : Syntax) (xs : List Mark) →
    run (pass_here (comma_of x a)) xs ≡ run (want_here whole_slot (second_of x a)) xs
comma_passes (for_slot ss op ts k) x xs = refl

pub corner_ends : (a : ForSlot) (c : Corner) (xs : List Mark) →
    run (have_here (second_of (number_of c.x) a) (number_of c.y)) xs ≡ run (have_corner a c) xs
corner_ends (for_slot ss op ts k) c xs =
    ap (λ us. run (want_slots ss op us k) xs) (append_assoc ts (number_of c.x ∷ []) (number_of c.y ∷ []))

-- ---- rings

pub numbers_push : (cs : List Corner) (c : Corner) → numbers_of (cs ++ c ∷ []) ≡ numbers_of cs ++ numbers_of (c ∷ [])
numbers_push [] c = refl
numbers_push (d ∷ cs) c = ap (λ ts. number_of d.x ∷ number_of d.y ∷ ts) (numbers_push cs c)

ring_is : (k : ForPrimary) (ts : List Syntax) (xs : List Mark) → BeginsNo comma xs → BeginsNo closing xs →
    step (have_corners ts k) xs ≡ refuse
ring_is k ts (at p comma ∷ xs) h g = absurd (h xs (refl, refl))
ring_is k ts (at p closing ∷ xs) h g = absurd (g xs (refl, refl))
ring_is k ts xs h g = refl

pub ring_stops : (k : ForPrimary) (ts : List Syntax) (xs : List Mark) → BeginsNo comma xs → BeginsNo closing xs →
    run (have_corners ts k) xs ≡ stops xs
ring_stops k ts xs h g = refuses (have_corners ts k) xs (ring_is k ts xs h g)

-- the opening parenthesis of a ring, and the corners behind it
abbrev pub ring_open : ForPrimary → ForSlot
ring_open k = for_slot (whole_slot ∷ whole_slot ∷ corners_slot ∷ []) ring_op [] k

abbrev pub corner_of : List Syntax → ForPrimary → ForSlot
corner_of ts k = for_slot (corners_slot ∷ []) ring_op ts k

-- behind a corner
pub corner_goes : (k : ForPrimary) (ts : List Syntax) (xs ys : List Mark) → Begins comma xs ys →
    run (have_corners ts k) xs ≡ run (want_corner (corner_of ts k)) ys
corner_goes k ts xs ys h = goes (have_corners ts k) (want_corner (corner_of ts k)) comma xs ys (λ q. refl) h

pub ring_closes : (k : ForPrimary) (ts : List Syntax) (xs ys : List Mark) → Begins closing xs ys →
    run (have_corners ts k) xs ≡ run (have_primary k (filled ring_op ts)) ys
ring_closes k ts xs ys h = goes (have_corners ts k) (have_primary k (filled ring_op ts)) closing xs ys (λ q. refl) h

-- the opening parenthesis of a polygon, and the rings behind it
abbrev pub rings_open : ℕ → ForPrimary → ForSlot
rings_open p k = for_slot ring_slots ring_op [] (ring_part p [] k)

rings_is : (p : ℕ) (k : ForPrimary) (ts : List Syntax) (xs : List Mark) → BeginsNo comma xs → BeginsNo closing xs →
    step (have_rings p ts k) xs ≡ refuse
rings_is p k ts (at q comma ∷ xs) h g = absurd (h xs (refl, refl))
rings_is p k ts (at q closing ∷ xs) h g = absurd (g xs (refl, refl))
rings_is p k ts (at q (word And) ∷ xs) h g = refl
rings_is p k ts xs h g = refl

pub rings_stop : (p : ℕ) (k : ForPrimary) (ts : List Syntax) (xs : List Mark) → BeginsNo comma xs → BeginsNo closing xs →
    run (have_rings p ts k) xs ≡ stops xs
rings_stop p k ts xs h g = refuses (have_rings p ts k) xs (rings_is p k ts xs h g)

pub ring_goes : (p : ℕ) (k : ForPrimary) (ts : List Syntax) (xs ys : List Mark) → Begins comma xs ys →
    run (have_rings p ts k) xs ≡ run (want_ring (ring_part p ts k)) ys
ring_goes p k ts xs ys h = goes (have_rings p ts k) (want_ring (ring_part p ts k)) comma xs ys (λ q. refl) h

pub rings_close : (p : ℕ) (k : ForPrimary) (ts : List Syntax) (xs ys : List Mark) → Begins closing xs ys →
    run (have_rings p ts k) xs ≡ run (have_primary k (filled (polygon_op p) ts)) ys
rings_close p k ts xs ys h =
    goes (have_rings p ts k) (have_primary k (filled (polygon_op p) ts)) closing xs ys (λ q. refl) h

-- ---- a name or a literal begins

pub primary_sign_goes : (n : Bool) (k : ForPrimary) (xs ys : List Mark) → Begins (if n then minus else plus) xs ys →
    run (want_primary k) xs ≡ run (after_sign n (as_primary k)) ys
primary_sign_goes true k xs ys h = goes (want_primary k) (after_sign true (as_primary k)) minus xs ys (λ p. refl) h
primary_sign_goes false k xs ys h = goes (want_primary k) (after_sign false (as_primary k)) plus xs ys (λ p. refl) h

number_is : (k : ForPrimary) (p : ℕ) (s : List ℕ) (xs : List Mark) →
    run (want_primary k) (at p (number s) ∷ xs) ≡ run (after_sign false (as_primary k)) (at p (number s) ∷ xs)
number_is k p s xs = run_same (want_primary k) (after_sign false (as_primary k)) (at p (number s) ∷ xs) refl

pub number_stays : (k : ForPrimary) (p : ℕ) (s : List ℕ) (xs ys : List Mark) → xs ≡ at p (number s) ∷ ys →
    run (want_primary k) xs ≡ run (after_sign false (as_primary k)) xs
number_stays k p s xs ys h = rw h (number_is k p s ys)

pub truth_goes : (b : Bool) (k : ForPrimary) (p : ℕ) (xs ys : List Mark) →
    xs ≡ at p (word (if b then True else False)) ∷ ys → run (want_primary k) xs ≡ run (have_primary k (leaf p (truth_leaf b))) ys
truth_goes true k p xs ys h =
    goes_at (want_primary k) (have_primary k (leaf p (truth_leaf true))) p (word True) xs ys refl h
truth_goes false k p xs ys h =
    goes_at (want_primary k) (have_primary k (leaf p (truth_leaf false))) p (word False) xs ys refl h

primary_is : (k : ForPrimary) (xs : List Mark) → IsNoCall xs → IsNoLiteral xs → step (want_primary k) xs ≡ refuse
primary_is k [] h g = refl
primary_is k (at p opening ∷ xs) h g = absurd h
primary_is k (at p (word Casei) ∷ xs) h g = absurd h
primary_is k (at p (word (Spatial c)) ∷ xs) h g = absurd h
primary_is k (at p (word (Temporal c)) ∷ xs) h g = absurd h
primary_is k (at p (name s) ∷ xs) h g = absurd g
primary_is k (at p (text s) ∷ xs) h g = absurd g
primary_is k (at p (number s) ∷ xs) h g = absurd g
primary_is k (at p plus ∷ xs) h g = absurd g
primary_is k (at p minus ∷ xs) h g = absurd g
primary_is k (at p (word True) ∷ xs) h g = absurd g
primary_is k (at p (word False) ∷ xs) h g = absurd g
primary_is k (at p (word Date) ∷ xs) h g = absurd g
primary_is k (at p (word Interval) ∷ xs) h g = absurd g
primary_is k (at p (word Point) ∷ xs) h g = absurd g
primary_is k (at p (word Polygon) ∷ xs) h g = absurd g
primary_is k (at p (word Bbox) ∷ xs) h g = absurd g
primary_is k xs h g = refl

pub primary_stops : (k : ForPrimary) (xs : List Mark) → IsNoCall xs → IsNoLiteral xs → run (want_primary k) xs ≡ stops xs
primary_stops k xs h g = refuses (want_primary k) xs (primary_is k xs h g)

-- ---- chains

-- an inner rule's stop
pub stops_from : {K L : Type 0} (want : K → State) (inner : L → State) (xs ys : List Mark) (d : Stop) (around : K → L) →
    ((k : K) → run (want k) xs ≡ run (inner (around k)) ys) → IsStopped inner ys d → IsStopped want xs d
stops_from want inner xs ys Memory around e h = tt
stops_from want inner xs ys (At rest) around e h = λ k. e k ∙ h (around k)

-- an inner rule's result
pub parses_from : {K L : Type 0} (want : K → State) (inner : L → State)
    (have : K → Syntax → State) (had : L → Syntax → State) (xs ys : List Mark) (r : Result Parsed Stop) (around : K → L) →
    ((k : K) → run (want k) xs ≡ run (inner (around k)) ys) →
    ((k : K) (t : Syntax) (zs : List Mark) → run (had (around k) t) zs ≡ run (have k t) zs) →
    Parses inner had ys r → Parses want have xs r
parses_from want inner have had xs ys (Ok r) around e g h =
    λ k. e k ∙ (h (around k) ∙ g k (syntax_of r.tree.value) (marks r.rest.now))
parses_from want inner have had xs ys (Err d) around e g h = stops_from want inner xs ys d around e h

-- the same for a part of another type
pub matches_from : {R K L : Type 0} (r : Result R Stop) (want : K → State) (inner : L → State) (have : K → R → Outcome)
    (had : L → R → Outcome) (xs ys : List Mark) (around : K → L) →
    ((k : K) → run (want k) xs ≡ run (inner (around k)) ys) →
    ((k : K) (t : R) → had (around k) t ≡ have k t) →
    MatchResult r (λ t. (l : L) → run (inner l) ys ≡ had l t) (IsStopped inner ys) →
    MatchResult r (λ t. (k : K) → run (want k) xs ≡ have k t) (IsStopped want xs)
matches_from (Ok t) want inner have had xs ys around e g h = λ k. e k ∙ (h (around k) ∙ g k t)
matches_from (Err d) want inner have had xs ys around e g h = stops_from want inner xs ys d around e h

-- ---- the whole

whole_ends : (t : Syntax) → run (have_or whole t) [] ≡ spells t
unfolding run
whole_ends t = refl

whole_stops : (t : Syntax) (x : Mark) (xs : List Mark) → run (have_or whole t) (x ∷ xs) ≡ stops (x ∷ xs)
unfolding run
whole_stops t (at p closing) xs = refl
whole_stops t (at p (word And)) xs = refl
whole_stops t (at p s) xs = refl

not_empty : (n : ℕ) → true ≡ (n + 1 == 0) → ⊥
not_empty n h = grind (arith, nat_tests)

pub whole_ends_of : (t : Syntax) (ts : List Token) → true ≡ (length ts == 0) →
    run (have_or whole t) (marks ts) ≡ spells t
whole_ends_of t [] h = whole_ends t
whole_ends_of t (x ∷ ts) h = absurd (not_empty (length ts) (rw add-one h))

pub whole_stops_of : (t : Syntax) (ts : List Token) → false ≡ (length ts == 0) →
    run (have_or whole t) (marks ts) ≡ stops (marks ts)
whole_stops_of t [] h = cc
whole_stops_of t (x ∷ ts) h = whole_stops t (mark_of x) (marks ts)
