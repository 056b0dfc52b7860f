-- A tree has one kind or a fault, and the first fault in the order of reading is the least.
use Rattle.std.proofs.Common.{if◌then◌else◌, ◌≡◌, ◌⊎◌, inl, inr, ◌<◌, ◌≤◌, refl, ap, sym, subst, ◌∙◌, ℕ, Bool, true, false, List, [], ◌∷◌, Option, Some, None, Result, Ok, Err, arith}
use Rattle.cad_schema.specs.Attributes.{Named}
use Rattle.cql_tree.specs.Syntax.{Syntax, Parts, none, part, leaf, node, Leaf, Op, place_of, or_op, and_op, not_op, compare_op, like_op, between_op, in_op, is_null_op, computed_op, casei_op, date_op, interval_op, point_op, polygon_op, ring_op, bbox_op, spatial_op, temporal_op}
use Rattle.cql_types.specs.declared.fault.Misuse.{Misuse}
use Rattle.cql_types.specs.declared.fault.Fault.{Fault}
use Rattle.cql_types.specs.Kinds.{Kind, Mark, first_not, first_unlike, misfit, made, leaf_kind, wrong_kind, unsound, Has, Have, leaf_has, node_has, no_more, one_more, IsWrong, IsWrongIn, leaf_wrong, node_wrong, node_unsound, inside, here, later}
use Rattle.cql_tree.specs.Order.{InOrder, AreInOrder, leaf_in_order, node_in_order, no_part, one_part}
use Rattle.cql_tree.specs.lemmas.OrderLemmas.{not_beyond, are_not_beyond}
use Rattle.cql_types.specs.Contract.{IsFirst, IsFirstIn, leaf_first, node_first, unsound_first, inside_first, here_first, later_first}

one_result : {A B : Type 0} {r : Result A B} {x : A} {y : B} → r ≡ Ok x → r ≡ Err y → ⊥
one_result e f = let g = sym e ∙ f in cc

pub same_ok : {A B : Type 0} {r : Result A B} {x y : A} → r ≡ Ok x → r ≡ Ok y → x ≡ y
same_ok e f = cc

same_err : {A B : Type 0} {r : Result A B} {x y : B} → r ≡ Err x → r ≡ Err y → x ≡ y
same_err e f = cc

same_some : {A : Type 0} {o : Option A} {x y : A} → o ≡ Some x → o ≡ Some y → x ≡ y
same_some e f = cc

none_some : {A : Type 0} {o : Option A} {x : A} → o ≡ None → o ≡ Some x → ⊥
none_some e f = let g = sym e ∙ f in cc

same_cons : {p : ℕ} {k l : Kind} {ms ns : List Mark} → k ≡ l → ms ≡ ns → (p, k) ∷ ms ≡ (p, l) ∷ ns
same_cons e f = cc

-- a tree has one kind
mutual
  pub same_kind : {s : List Named} {t : Syntax} {k l : Kind} → Has s t k → Has s t l → k ≡ l
  same_kind (leaf_has e) (leaf_has f) = same_ok e f
  same_kind (node_has {op = op} m e u) (node_has n f v) = ap (made op) (same_marks m n)

  same_marks : {s : List Named} {ps : Parts} {ms ns : List Mark} → Have s ps ms → Have s ps ns → ms ≡ ns
  same_marks no_more no_more = refl
  same_marks (one_more h m) (one_more k n) = same_cons (same_kind h k) (same_marks m n)

-- and then no fault
mutual
  pub no_fault : {s : List Named} {t : Syntax} {k : Kind} {f : Fault} → Has s t k → IsWrong s t f → ⊥
  no_fault (leaf_has e) (leaf_wrong g) = one_result e g
  no_fault (node_has {op = op} m e u) (node_wrong n g) = none_some e (ap (misfit op) (same_marks m n) ∙ g)
  no_fault (node_has m e u) (node_unsound n g v) = v u
  no_fault (node_has m e u) (inside w) = no_fault_in m w

  no_fault_in : {s : List Named} {ps : Parts} {ms : List Mark} {f : Fault} → Have s ps ms → IsWrongIn s ps f → ⊥
  no_fault_in no_more w = elim w [ ]
  no_fault_in (one_more h m) (here w) = no_fault h w
  no_fault_in (one_more h m) (later w) = no_fault_in m w

-- the first fault is one
mutual
  pub first_wrong : {s : List Named} {t : Syntax} {f : Fault} → IsFirst s t f → IsWrong s t f
  first_wrong (leaf_first e) = leaf_wrong e
  first_wrong (node_first m e) = node_wrong m e
  first_wrong (unsound_first m e u) = node_unsound m e u
  first_wrong (inside_first i) = inside (first_wrong_in i)

  first_wrong_in : {s : List Named} {ps : Parts} {f : Fault} → IsFirstIn s ps f → IsWrongIn s ps f
  first_wrong_in (here_first h) = here (first_wrong h)
  first_wrong_in (later_first k i) = later (first_wrong_in i)

-- ---- a tree has a kind or a first fault; what a ring is decides no test, so this is said of its denial

abbrev pub Settled : List Named → Syntax → Type 0
Settled s t = ((k : Kind) × Has s t k) ⊎ ((f : Fault) × IsFirst s t f)

abbrev pub SettledIn : List Named → Parts → Type 0
SettledIn s ps = ((ms : List Mark) × Have s ps ms) ⊎ ((f : Fault) × IsFirstIn s ps f)

leaf_settled : {s : List Named} {p : ℕ} {l : Leaf} (r : Result Kind Misuse) → leaf_kind s l ≡ r → Settled s (leaf p l)
leaf_settled (Ok k) e = inl (k, leaf_has e)
leaf_settled {p = p} (Err c) e = inr (record { place = p; cause = c }, leaf_first e)

fit_settled : {s : List Named} {op : Op} {ps : Parts} {ms : List Mark} → Have s ps ms → misfit op ms ≡ None → ¬ ¬ Settled s (node op ps)
fit_settled {op = op} {ps = ps} {ms = ms} m e denied = denied (inr (unsound op ps, unsound_first m e (λ u. denied (inl (made op ms, node_has m e u)))))

node_settled : {s : List Named} {op : Op} {ps : Parts} {ms : List Mark} → Have s ps ms → (o : Option Fault) → misfit op ms ≡ o → ¬ ¬ Settled s (node op ps)
node_settled m None e = fit_settled m e
node_settled m (Some f) e = λ denied. denied (inr (f, node_first m e))

parts_settled : {s : List Named} {op : Op} {ps : Parts} → SettledIn s ps → ¬ ¬ Settled s (node op ps)
parts_settled (inl m) = node_settled m.1 _ refl
parts_settled (inr i) = λ denied. denied (inr (i.0, inside_first i.1))

part_settled : {s : List Named} {t : Syntax} {ts : Parts} → Settled s t → SettledIn s ts → SettledIn s (part t ts)
part_settled (inr f) rest = inr (f.0, here_first f.1)
part_settled (inl k) (inr f) = inr (f.0, later_first k.1 f.1)
part_settled (inl k) (inl m) = inl (_, one_more k.1 m.1)

mutual
  pub settled : (s : List Named) (t : Syntax) → ¬ ¬ Settled s t
  settled s (leaf p l) = λ denied. denied (leaf_settled _ refl)
  settled s (node op ps) = λ denied. settled_in s ps (λ h. parts_settled h denied)

  pub settled_in : (s : List Named) (ps : Parts) → ¬ ¬ SettledIn s ps
  settled_in s none = λ denied. denied (inl ([], no_more))
  settled_in s (part t ts) = λ denied. settled s t (λ h. settled_in s ts (λ k. denied (part_settled h k)))

-- the place of a tree, and of a fault in it, is among those of the tree
abbrev pub Between : ℕ → ℕ → ℕ → Type 0
Between from p to = (from ≤ p) × (p < to)

place_between : {from to : ℕ} {t : Syntax} → InOrder from t to → Between from (place_of t) to
place_between (leaf_in_order a b) = (a, b)
place_between (node_in_order a b c os) = (a, omega arith)

data AreBetween : ℕ → List Mark → ℕ → Type 0 where
  none_between : {from to : ℕ} → AreBetween from [] to
  more_between : {from to : ℕ} {m : Mark} {ms : List Mark} → Between from m.0 to → AreBetween from ms to → AreBetween from (m ∷ ms) to

lower : {from middle to : ℕ} {ms : List Mark} → from ≤ middle → AreBetween middle ms to → AreBetween from ms to
lower a none_between = none_between
lower a (more_between b bs) = more_between (omega arith, b.1) (lower a bs)

marks_between : {s : List Named} {ps : Parts} {ms : List Mark} {from to : ℕ} → Have s ps ms → AreInOrder from ps to → AreBetween from ms to
marks_between no_more os = none_between
marks_between (one_more h m) (one_part o os) =
    let a = place_between o in let b = are_not_beyond os in let c = not_beyond o in
    more_between (a.0, omega arith) (lower c (marks_between m os))

pick : {from to p : ℕ} (test : Bool) {o : Option Fault} {f : Fault} → Between from p to → (o ≡ Some f → Between from f.place to) →
    (if test then o else Some (wrong_kind p)) ≡ Some f → Between from f.place to
pick true b tail e = tail e
pick {from = from} {to = to} false b tail e = subst (λ (g : Fault). Between from g.place to) (same_some refl e) b

first_not_between : (has : Kind → Bool) {ms : List Mark} {from to : ℕ} {f : Fault} → AreBetween from ms to → first_not has ms ≡ Some f → Between from f.place to
first_not_between has none_between e = absurd cc
first_not_between has (more_between {m = m} b bs) e = pick (has m.1) b (first_not_between has bs) e

first_unlike_between : (fits : Kind → Bool) (beside : Kind → Kind → Bool) {ms : List Mark} {from to : ℕ} {f : Fault} → AreBetween from ms to → first_unlike fits beside ms ≡ Some f → Between from f.place to
first_unlike_between fits beside none_between e = absurd cc
first_unlike_between fits beside (more_between {m = m} b bs) e = pick (fits m.1) b (first_not_between (beside m.1) bs) e

misfit_between : (op : Op) {ms : List Mark} {from to : ℕ} {f : Fault} → AreBetween from ms to → misfit op ms ≡ Some f → Between from f.place to
misfit_between or_op bs e = first_not_between _ bs e
misfit_between and_op bs e = first_not_between _ bs e
misfit_between (not_op p) bs e = first_not_between _ bs e
misfit_between (compare_op c) bs e = first_unlike_between _ _ bs e
misfit_between (like_op n) bs e = first_unlike_between _ _ bs e
misfit_between (between_op n) bs e = first_not_between _ bs e
misfit_between (in_op n) bs e = first_unlike_between _ _ bs e
misfit_between (is_null_op n) bs e = first_not_between _ bs e
misfit_between (computed_op n) bs e = first_not_between _ bs e
misfit_between (casei_op p) bs e = first_not_between _ bs e
misfit_between (date_op p) bs e = first_not_between _ bs e
misfit_between (interval_op p) bs e = first_not_between _ bs e
misfit_between (point_op p) bs e = first_not_between _ bs e
misfit_between (polygon_op p) bs e = first_not_between _ bs e
misfit_between ring_op bs e = first_not_between _ bs e
misfit_between (bbox_op p) bs e = first_not_between _ bs e
misfit_between (spatial_op p r) bs e = first_unlike_between _ _ bs e
misfit_between (temporal_op p r) bs e = first_not_between _ bs e

widen : {from first p to : ℕ} → from ≤ first → Between first p to → Between from p to
widen a b = (omega arith, b.1)

mutual
  fault_between : {s : List Named} {t : Syntax} {f : Fault} {from to : ℕ} → InOrder from t to → IsWrong s t f → Between from f.place to
  fault_between (leaf_in_order a b) (leaf_wrong e) = (a, b)
  fault_between (node_in_order a b c os) (node_wrong {op = op} m e) = widen (omega arith) (misfit_between op (marks_between m os) e)
  fault_between (node_in_order a b c os) (node_unsound m e u) = (a, omega arith)
  fault_between (node_in_order a b c os) (inside w) = widen (omega arith) (fault_between_in os w)

  fault_between_in : {s : List Named} {ps : Parts} {f : Fault} {from to : ℕ} → AreInOrder from ps to → IsWrongIn s ps f → Between from f.place to
  fault_between_in (no_part a) w = elim w [ ]
  fault_between_in (one_part o os) (here w) = let a = fault_between o w in let b = are_not_beyond os in (a.0, omega arith)
  fault_between_in (one_part o os) (later w) = widen (not_beyond o) (fault_between_in os w)

same_place : {f g : Fault} → f ≡ g → f.place ≤ g.place
same_place {f = f} e = subst (λ (h : Fault). f.place ≤ h.place) e (omega arith)

-- the first fault is the least
mutual
  pub first_least : {s : List Named} {t : Syntax} {f g : Fault} {from to : ℕ} → InOrder from t to → IsFirst s t f → IsWrong s t g → f.place ≤ g.place
  first_least o (leaf_first e) (leaf_wrong g) = omega arith
  first_least o (node_first {op = op} m e) (node_wrong n g) =
      let same = same_some e (ap (misfit op) (same_marks m n) ∙ g) in same_place same
  first_least o (node_first {op = op} m e) (node_unsound n g v) = absurd (none_some g (ap (misfit op) (same_marks n m) ∙ e))
  first_least o (node_first m e) (inside w) = absurd (no_fault_in m w)
  first_least o (unsound_first {op = op} m e u) (node_wrong n g) = absurd (none_some e (ap (misfit op) (same_marks m n) ∙ g))
  first_least o (unsound_first m e u) (node_unsound n g v) = omega arith
  first_least o (unsound_first m e u) (inside w) = absurd (no_fault_in m w)
  first_least o (inside_first i) (node_wrong n g) = absurd (no_fault_in n (first_wrong_in i))
  first_least o (inside_first i) (node_unsound n g v) = absurd (no_fault_in n (first_wrong_in i))
  first_least (node_in_order a b c os) (inside_first i) (inside w) = first_least_in os i w

  first_least_in : {s : List Named} {ps : Parts} {f g : Fault} {from to : ℕ} → AreInOrder from ps to → IsFirstIn s ps f → IsWrongIn s ps g → f.place ≤ g.place
  first_least_in (no_part a) i w = elim w [ ]
  first_least_in (one_part o os) (here_first h) (here w) = first_least o h w
  first_least_in (one_part o os) (here_first h) (later w) =
      let a = fault_between o (first_wrong h) in let b = fault_between_in os w in omega arith
  first_least_in (one_part o os) (later_first k i) (here w) = absurd (no_fault k w)
  first_least_in (one_part o os) (later_first k i) (later w) = first_least_in os i w

-- at one place one cause
mutual
  pub one_cause : {s : List Named} {t : Syntax} {f g : Fault} {from to : ℕ} → InOrder from t to → IsWrong s t f → IsWrong s t g → f.place ≡ g.place → f ≡ g
  one_cause o (leaf_wrong {p = p} e) (leaf_wrong g) same = ap (λ c. record { place = p; cause = c }) (same_err e g)
  one_cause o (node_wrong {op = op} m e) (node_wrong n g) same = same_some e (ap (misfit op) (same_marks m n) ∙ g)
  one_cause o (node_wrong {op = op} m e) (node_unsound n g v) same = absurd (none_some g (ap (misfit op) (same_marks n m) ∙ e))
  one_cause o (node_wrong m e) (inside w) same = absurd (no_fault_in m w)
  one_cause o (node_unsound {op = op} m e u) (node_wrong n g) same = absurd (none_some e (ap (misfit op) (same_marks m n) ∙ g))
  one_cause o (node_unsound m e u) (node_unsound n g v) same = refl
  one_cause o (node_unsound m e u) (inside w) same = absurd (no_fault_in m w)
  one_cause o (inside w) (node_wrong n g) same = absurd (no_fault_in n w)
  one_cause o (inside w) (node_unsound n g v) same = absurd (no_fault_in n w)
  one_cause (node_in_order a b c os) (inside v) (inside w) same = one_cause_in os v w same

  one_cause_in : {s : List Named} {ps : Parts} {f g : Fault} {from to : ℕ} → AreInOrder from ps to → IsWrongIn s ps f → IsWrongIn s ps g → f.place ≡ g.place → f ≡ g
  one_cause_in (no_part a) v w same = elim v [ ]
  one_cause_in (one_part o os) (here v) (here w) same = one_cause o v w same
  one_cause_in (one_part o os) (here v) (later w) same =
      let a = fault_between o v in let b = fault_between_in os w in absurd (omega arith)
  one_cause_in (one_part o os) (later v) (here w) same =
      let a = fault_between o w in let b = fault_between_in os v in absurd (omega arith)
  one_cause_in (one_part o os) (later v) (later w) same = one_cause_in os v w same

kind_left : {s : List Named} {t : Syntax} → ((f : Fault) → ¬ IsWrong s t f) → Settled s t → (k : Kind) × Has s t k
kind_left none_wrong (inl h) = h
kind_left none_wrong (inr i) = absurd (none_wrong i.0 (first_wrong i.1))

pub faultless : (s : List Named) (t : Syntax) → ((f : Fault) → ¬ IsWrong s t f) → ¬ ¬ ((k : Kind) × Has s t k)
faultless s t none_wrong denied = settled s t (λ h. denied (kind_left none_wrong h))
