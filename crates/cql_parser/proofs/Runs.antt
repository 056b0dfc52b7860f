-- What a run over tokens says of them.
use Rattle.std.proofs.Common.{◌≡◌, ℕ, true, false, List, [], ◌∷◌, ◌++◌, refl, subst, ap}
use Rattle.cql_lexer.specs.Mark.{Sort, Mark, at, opening, closing, comma, word, text, number}
use Rattle.cql_lexer.specs.declared.token.Keyword.TheVariants.{And, Like, Null}
use Rattle.cql_tree.specs.Syntax.{Syntax, leaf, number_leaf, day_leaf, bound_leaf, joined, or_op, and_op, computed_op, polygon_op}
use Rattle.cql_parser.specs.Grammar.{rings_end, or_end, and_end, plain_rule, predicate_rule, no_tail, items_end, IsSum, sum_rule, sum_end, product_rule, product_end, whole_rule, number_rule, text_bound}
use Rattle.cql_parser.specs.Machine.{Sign, comma_sign, close_sign, Slot, open_slot, sign_slot, text_slot, bound_slot, whole_slot, corners_slot, sum_slot, ForOr, whole, in_paren, ForAnd, or_part, ForNot, and_part, ForPredicate, plain, under_not, ForSum, left, right, pattern, low, high, item, argument, ForProduct, sum_part, ForPrimary, product_part, ring_part, ForWhole, as_primary, as_slot, State, want_not, want_primary, after_sign, after_not, after_in, after_is, want_null, want_slot, have_factors, have_terms, have_sum, have_items, have_rings, have_ands, have_ors, have_or, not_node, compare_node, like_node, between_node, in_node, null_node, filled, Step, refuse, whole_tree, go_on, step, Outcome, spells, stops, ended, continued, run}
use Rattle.cql_parser.proofs.Residual.{Takes, closed, parted, digits, high_end, items, is_null, null, not_like, Fills, fill_end, fill_open, fill_sign, fill_text, fill_bound, fill_whole, fill_last, fill_sum, GetsOr, GetsAnd, GetsNot, GetsPredicate, GetsSum, GetsProduct, GetsPrimary, GetsWhole, Completes, Follows, step_to, step_from}

-- ---- each state can be completed

-- the number 1, as a token and as a tree
abbrev one_mark : Mark
one_mark = at 0 (number (49 ∷ []))

abbrev one_leaf : Syntax
one_leaf = leaf 0 (number_leaf false (49 ∷ []))

one : (xs : List Mark) → IsSum (one_mark ∷ xs) one_leaf xs
one xs = sum_rule {operations = []} {ts = []} (product_rule {operations = []} {ts = []} (whole_rule number_rule) product_end) sum_end

abbrev sign_mark : Sign → Mark
sign_mark comma_sign = at 0 comma
sign_mark close_sign = at 0 closing

takes : (s : Sign) (xs : List Mark) → Takes s (sign_mark s ∷ xs) xs
takes comma_sign xs = parted
takes close_sign xs = closed

-- parts that fill the slots
abbrev parts_for : List Slot → List Syntax
parts_for [] = []
parts_for (text_slot ∷ ss) = leaf 0 (day_leaf []) ∷ parts_for ss
parts_for (bound_slot ∷ ss) = leaf 0 (bound_leaf []) ∷ parts_for ss
parts_for (whole_slot ∷ ss) = one_leaf ∷ parts_for ss
parts_for (sum_slot s ∷ ss) = one_leaf ∷ parts_for ss
parts_for (s ∷ ss) = parts_for ss

-- and their tokens, before others
abbrev marks_for : List Slot → List Mark → List Mark
marks_for [] xs = xs
marks_for (open_slot ∷ ss) xs = at 0 opening ∷ marks_for ss xs
marks_for (sign_slot s ∷ ss) xs = sign_mark s ∷ marks_for ss xs
marks_for (text_slot ∷ ss) xs = at 0 (text []) ∷ marks_for ss xs
marks_for (bound_slot ∷ ss) xs = at 0 (text []) ∷ marks_for ss xs
marks_for (whole_slot ∷ ss) xs = one_mark ∷ marks_for ss xs
marks_for (corners_slot ∷ ss) xs = at 0 closing ∷ marks_for ss xs
marks_for (sum_slot s ∷ ss) xs = one_mark ∷ sign_mark s ∷ marks_for ss xs

fills : (ss : List Slot) (xs : List Mark) → Fills ss (marks_for ss xs) (parts_for ss) xs
fills [] xs = fill_end
fills (open_slot ∷ ss) xs = fill_open (fills ss xs)
fills (sign_slot s ∷ ss) xs = fill_sign (takes s (marks_for ss xs)) (fills ss xs)
fills (text_slot ∷ ss) xs = fill_text (fills ss xs)
fills (bound_slot ∷ ss) xs = fill_bound text_bound (fills ss xs)
fills (whole_slot ∷ ss) xs = fill_whole number_rule (fills ss xs)
fills (corners_slot ∷ ss) xs = fill_last (fills ss xs)
fills (sum_slot s ∷ ss) xs =
    fill_sum (one (sign_mark s ∷ marks_for ss xs)) (takes s (marks_for ss xs)) (fills ss xs)

mutual
  closes_or : (k : ForOr) (t : Syntax) → (more : List Mark) × (tree : Syntax) × GetsOr k t more tree
  closes_or whole t = ([], t, (refl, refl))
  closes_or (in_paren k) t = let c = closes_primary k t in (at 0 closing ∷ c.0, c.1, (c.0, closed, c.2))

  closes_and : (k : ForAnd) (t : Syntax) → (more : List Mark) × (tree : Syntax) × GetsAnd k t more tree
  closes_and (or_part us k) t =
      let c = closes_or k (joined or_op ((us ++ t ∷ []) ++ [])) in (c.0, c.1, ([], c.0, or_end, c.2))

  closes_not : (k : ForNot) (t : Syntax) → (more : List Mark) × (tree : Syntax) × GetsNot k t more tree
  closes_not (and_part us k) t =
      let c = closes_and k (joined and_op ((us ++ t ∷ []) ++ [])) in (c.0, c.1, ([], c.0, and_end, c.2))

  closes_predicate : (k : ForPredicate) (t : Syntax) → (more : List Mark) × (tree : Syntax) × GetsPredicate k t more tree
  closes_predicate (plain k) t = closes_not k t
  closes_predicate (under_not p k) t = closes_not k (not_node p t)

  closes_sum : (k : ForSum) (t : Syntax) → (more : List Mark) × (tree : Syntax) × GetsSum k t more tree
  closes_sum (left k) t = let c = closes_predicate k t in (c.0, c.1, (t, c.0, no_tail, c.2))
  closes_sum (right b a k) t = closes_predicate k (compare_node b a t)
  closes_sum (pattern n a k) t = closes_predicate k (like_node n a t)
  closes_sum (low n a k) t =
      let c = closes_predicate k (between_node n a t one_leaf) in
      (at 0 (word And) ∷ one_mark ∷ c.0, c.1, (_, c.0, high_end (one c.0), c.2))
  closes_sum (high n a b k) t = closes_predicate k (between_node n a b t)
  closes_sum (item n a us k) t =
      let c = closes_predicate k (in_node n a ((us ++ t ∷ []) ++ [])) in
      (at 0 closing ∷ c.0, c.1, ([], c.0, items_end, c.2))
  closes_sum (argument s ss op us k) t =
      let c = closes_primary k (filled op ((us ++ t ∷ []) ++ parts_for ss)) in (
        sign_mark s ∷ marks_for ss c.0,
        c.1,
        (marks_for ss c.0, takes s (marks_for ss c.0), parts_for ss, c.0, fills ss c.0, c.2),
      )

  closes_product : (k : ForProduct) (t : Syntax) → (more : List Mark) × (tree : Syntax) × GetsProduct k t more tree
  closes_product (sum_part js us k) t =
      let c = closes_sum k (joined (computed_op (js ++ [])) ((us ++ t ∷ []) ++ [])) in
      (c.0, c.1, ([], [], c.0, sum_end, c.2))

  closes_primary : (k : ForPrimary) (t : Syntax) → (more : List Mark) × (tree : Syntax) × GetsPrimary k t more tree
  closes_primary (product_part ms us k) t =
      let c = closes_product k (joined (computed_op (ms ++ [])) ((us ++ t ∷ []) ++ [])) in
      (c.0, c.1, ([], [], c.0, product_end, c.2))
  closes_primary (ring_part p us k) t =
      let c = closes_primary k (filled (polygon_op p) ((us ++ t ∷ []) ++ [])) in
      (at 0 closing ∷ c.0, c.1, ([], c.0, rings_end, c.2))

closes_whole : (k : ForWhole) (t : Syntax) → (more : List Mark) × (tree : Syntax) × GetsWhole k t more tree
closes_whole (as_primary k) t = closes_primary k t
closes_whole (as_slot ss op us k) t =
    let c = closes_primary k (filled op ((us ++ t ∷ []) ++ parts_for ss)) in
    (marks_for ss c.0, c.1, (parts_for ss, c.0, fills ss c.0, c.2))

-- a 1 stands for what comes next, and after a tail's NOT a LIKE 1
pub lives : (s : State) → (more : List Mark) × (tree : Syntax) × Completes s more tree
lives (want_not k) =
    let c = closes_not k one_leaf in
    (one_mark ∷ c.0, c.1, (_, c.0, plain_rule (predicate_rule (one c.0) no_tail), c.2))
lives (want_primary k) =
    let c = closes_primary k one_leaf in (one_mark ∷ c.0, c.1, (_, c.0, whole_rule number_rule, c.2))
lives (after_sign n k) =
    let c = closes_whole k (leaf 0 (number_leaf n (49 ∷ []))) in (one_mark ∷ c.0, c.1, (_, c.0, digits, c.2))
lives (after_not a k) =
    let c = closes_predicate k (like_node true a one_leaf) in
    (at 0 (word Like) ∷ one_mark ∷ c.0, c.1, (_, c.0, not_like (one c.0), c.2))
lives (after_in n a k) =
    let c = closes_predicate k (in_node n a (one_leaf ∷ [])) in
    (at 0 opening ∷ one_mark ∷ at 0 closing ∷ c.0, c.1, (_, c.0, items (one (at 0 closing ∷ c.0)) items_end, c.2))
lives (after_is a k) =
    let c = closes_predicate k (null_node false a) in
    (at 0 (word Null) ∷ c.0, c.1, (false, c.0, is_null, c.2))
lives (want_null n a k) =
    let c = closes_predicate k (null_node n a) in (at 0 (word Null) ∷ c.0, c.1, (c.0, null, c.2))
lives (want_slot s ss op us k) =
    let c = closes_primary k (filled op (us ++ parts_for (s ∷ ss))) in
    (marks_for (s ∷ ss) c.0, c.1, (parts_for (s ∷ ss), c.0, fills (s ∷ ss) c.0, c.2))
lives (have_factors k ms us) =
    let c = closes_product k (joined (computed_op (ms ++ [])) (us ++ [])) in (c.0, c.1, ([], [], c.0, product_end, c.2))
lives (have_terms k js us) =
    let c = closes_sum k (joined (computed_op (js ++ [])) (us ++ [])) in (c.0, c.1, ([], [], c.0, sum_end, c.2))
lives (have_sum k t) = closes_sum k t
lives (have_items n a us k) =
    let c = closes_predicate k (in_node n a (us ++ [])) in (at 0 closing ∷ c.0, c.1, ([], c.0, items_end, c.2))
lives (have_rings p us k) =
    let c = closes_primary k (filled (polygon_op p) (us ++ [])) in (at 0 closing ∷ c.0, c.1, ([], c.0, rings_end, c.2))
lives (have_ands k us) =
    let c = closes_and k (joined and_op (us ++ [])) in (c.0, c.1, ([], c.0, and_end, c.2))
lives (have_ors k us) =
    let c = closes_or k (joined or_op (us ++ [])) in (c.0, c.1, ([], c.0, or_end, c.2))
lives (have_or k t) = closes_or k t

-- ---- runs

-- the tokens before what is left can be completed, and with the next one they can't
abbrev pub IsDead : State → List Mark → List Mark → Type 0
IsDead s before [] = (tree : Syntax) → Completes s before tree → ⊥
IsDead s before (x ∷ rest) = (more : List Mark) (tree : Syntax) → Completes s (before ++ x ∷ more) tree → ⊥

pub record Stops (s : State) (xs rest : List Mark) : Type 0 where
  pub before : List Mark
  pub is_all : xs ≡ before ++ rest
  pub viable : (more : List Mark) × (tree : Syntax) × Completes s (before ++ more) tree
  pub dead : IsDead s before rest

-- the tokens complete the state as this tree and no other
pub record Spells (s : State) (xs : List Mark) (t : Syntax) : Type 0 where
  pub reads : Completes s xs t
  pub only : (tree : Syntax) → Completes s xs tree → tree ≡ t

-- the tree that a run ends with, or where it stops
abbrev pub Says : State → List Mark → Outcome → Type 0
Says s xs (spells t) = Spells s xs t
Says s xs (stops rest) = Stops s xs rest

ended_says : (s : State) (c : Step) → ((tree : Syntax) → Completes s [] tree → Follows c [] tree) →
    ((tree : Syntax) → Follows c [] tree → Completes s [] tree) → Says s [] (ended c)
ended_says s refuse there back = record { before = []; is_all = refl; viable = lives s; dead = λ tree h. there tree h }
ended_says s (whole_tree t) there back = record { reads = back t (refl, refl); only = λ tree h. (there tree h).1 }
ended_says s (go_on n) there back = record { before = []; is_all = refl; viable = lives s; dead = λ tree h. there tree h }

more_says : (s n : State) (x : Mark) (xs : List Mark) (o : Outcome) →
    ((more : List Mark) (tree : Syntax) → Completes s (x ∷ more) tree → Completes n more tree) →
    ((more : List Mark) (tree : Syntax) → Completes n more tree → Completes s (x ∷ more) tree) →
    Says n xs o → Says s (x ∷ xs) o
more_says s n x xs (spells t) there back h =
    record { reads = back xs t h.reads; only = λ tree c. h.only tree (there xs tree c) }
more_says s n x xs (stops []) there back h =
    record {
      before = x ∷ h.before;
      is_all = ap (λ ys. x ∷ ys) h.is_all;
      viable = (h.viable.0, h.viable.1, back (h.before ++ h.viable.0) h.viable.1 h.viable.2);
      dead = λ tree c. h.dead tree (there h.before tree c);
    }
more_says s n x xs (stops (y ∷ rest)) there back h =
    record {
      before = x ∷ h.before;
      is_all = ap (λ ys. x ∷ ys) h.is_all;
      viable = (h.viable.0, h.viable.1, back (h.before ++ h.viable.0) h.viable.1 h.viable.2);
      dead = λ more tree c. h.dead more tree (there (h.before ++ y ∷ more) tree c);
    }

continued_says : (s : State) (x : Mark) (xs : List Mark) (c : Step) (go : State → Outcome) →
    ((more : List Mark) (tree : Syntax) → Completes s (x ∷ more) tree → Follows c (x ∷ more) tree) →
    ((more : List Mark) (tree : Syntax) → Follows c (x ∷ more) tree → Completes s (x ∷ more) tree) →
    ((n : State) → Says n xs (go n)) → Says s (x ∷ xs) (continued c (x ∷ xs) go)
continued_says s x xs refuse go there back h =
    record { before = []; is_all = refl; viable = lives s; dead = λ more tree c. there more tree c }
continued_says s x xs (whole_tree t) go there back h =
    record { before = []; is_all = refl; viable = lives s; dead = λ more tree c. let e = (there more tree c).0 in cc }
continued_says s x xs (go_on n) go there back h = more_says s n x xs (go n) there back (h n)

-- a step looks at the first token alone
step_first : (s : State) (p : ℕ) (k : Sort) (xs ys : List Mark) → step s (at p k ∷ xs) ≡ step s (at p k ∷ ys)
step_first (want_not k) p q xs ys = refl
step_first (want_primary k) p q xs ys = refl
step_first (after_sign n k) p q xs ys = refl
step_first (after_not a k) p q xs ys = refl
step_first (after_in n a k) p q xs ys = refl
step_first (after_is a k) p q xs ys = refl
step_first (want_null n a k) p q xs ys = refl
step_first (want_slot s ss op us k) p q xs ys = refl
step_first (have_factors k ms us) p q xs ys = refl
step_first (have_terms k js us) p q xs ys = refl
step_first (have_sum k t) p q xs ys = refl
step_first (have_items n a us k) p q xs ys = refl
step_first (have_rings n us k) p q xs ys = refl
step_first (have_ands k us) p q xs ys = refl
step_first (have_ors k us) p q xs ys = refl
step_first (have_or k t) p q xs ys = refl

pub run_says : (s : State) (xs : List Mark) → Says s xs (run s xs)
unfolding run
run_says s [] = ended_says s (step s []) (λ tree h. step_to s [] tree h) (λ tree h. step_from s [] tree h)
run_says s (at p k ∷ xs) =
    continued_says s (at p k) xs (step s (at p k ∷ xs)) (λ n. run n xs)
    (λ more tree h.
    subst (λ (c : Step). Follows c (at p k ∷ more) tree) (step_first s p k more xs) (step_to s (at p k ∷ more) tree h))
    (λ more tree h.
    step_from s (at p k ∷ more) tree (subst (λ (c : Step). Follows c (at p k ∷ more) tree) (step_first s p k xs more) h))
    (λ n. run_says n xs)
