-- What a whole tree is answered.
use Rattle.std.proofs.Common.{◌≡◌, ◌⊎◌, inl, inr, refl, ap, sym, ◌∙◌, ℕ, ◌≤◌, List, [], ◌∷◌, get_or, subst, Bool, true, false, Some, Result, Ok, Err, IsOk, IfOk, IfErr, OnOk, MatchResult, arith}
use Rattle.std.specs.Option.{is_some}
use Rattle.std.proofs.Math.Logic.{∥∥₁_elim}
use Rattle.std.proofs.Math.Bridge.{le_prop}
use Rattle.std.proofs.Math.Nat.{ℕ_set}
use Rattle.cad_schema.specs.Attributes.{Named}
use Rattle.cql_tree.specs.Order.{InOrder, IsOrdered}
use Rattle.cql_tree.specs.Syntax.{Syntax, place_of}
use Rattle.cql_types.specs.declared.fault.Misuse.{Misuse}
use Rattle.cql_types.specs.declared.fault.Misuse.TheVariants as cause
use Rattle.cql_types.specs.declared.fault.Fault.{Fault}
use Rattle.cql_types.specs.declared.fault.TypeFault.{TypeFault}
use Rattle.cql_types.specs.declared.fault.TypeFault.TheVariants.{Memory, At}
use Rattle.cql_types.specs.declared.filter.Filter.{Filter}
use Rattle.cql_types.specs.declared.judged.Judged.{Judged}
use Rattle.cql_types.specs.declared.judged.Node.{Node}
use Rattle.cql_types.specs.Contract.{ForFault, OrMemory, IsFirst, IsJudged}
use Rattle.cql_types.specs.Faults.{misuse_row}
use Rattle.cql_types.specs.Fits.{condition_fits}
use Rattle.cql_types.specs.Kinds.{Kind, Has, is_condition, wrong_kind, IsFault, in_tree, no_condition, IsLeast, IsCondition}
use Rattle.cql_types.specs.Laws.{HasFaultOrCondition, HasOneLeastFault, HasConditionOrFault}
use Rattle.cql_types.specs.Means.{IsFilter, condition_of, kind_of}
use Rattle.cql_types.proofs.Faults.{Settled, settled, first_least, first_wrong, no_fault, one_cause, same_kind}
use Rattle.cql_types.proofs.Fitting.{means_has}

-- the answer for the whole
not_before : {s : List Named} {t : Syntax} {f : Fault} (g : Fault) → IsOrdered t → IsFirst s t f → IsFault s t g → f.place ≤ g.place
not_before g o i (in_tree w) = ∥∥₁_elim o le_prop (λ h. first_least h.2 i w)
not_before g o i (no_condition h e) = absurd (no_fault h (first_wrong i))

pub whole_least : {s : List Named} {t : Syntax} {f : Fault} → IsOrdered t → IsFirst s t f → IsLeast s t f
whole_least o i = record {
  fault = in_tree (first_wrong i);
  least = λ g. not_before g o i;
}

pub whole_wrong : (s : List Named) (t : Syntax) (e : TypeFault) → ForFault (IsFirst s t) e → ForFault (IsFault s t) e
whole_wrong s t Memory h = tt
whole_wrong s t (At f) h = in_tree (first_wrong h)

pub least_is_fault : (s : List Named) (t : Syntax) (e : TypeFault) → ForFault (IsLeast s t) e → ForFault (IsFault s t) e
least_is_fault s t Memory h = tt
least_is_fault s t (At f) h = h.fault

pub whole_faults : (s : List Named) (t : Syntax) (e : TypeFault) → IsOrdered t → ForFault (IsFirst s t) e → ForFault (IsLeast s t) e
whole_faults s t Memory o h = tt
whole_faults s t (At f) o h = whole_least o h

no_lesser : {s : List Named} {t : Syntax} {k : Kind} (g : Fault) → Has s t k → IsFault s t g → place_of t ≤ g.place
no_lesser g h (in_tree w) = absurd (no_fault h w)
no_lesser g h (no_condition k e) = omega arith

pub whole_answer : {s : List Named} {t : Syntax} {j : Judged} (r : Result Filter TypeFault) → IsJudged s t j →
    IfOk r (λ x. condition_of j.node ≡ Some x) → IfErr r (λ e. (e ≡ At (wrong_kind j.place)) × (is_condition (kind_of j.node) ≡ false)) →
    MatchResult r (IsFilter s t) (ForFault (IsLeast s t))
whole_answer {j = j} (Ok f) h ok err = (j.node, h.means, ok)
whole_answer (Err e) h ok err =
    rw (err.0, ← h.place) (record { fault = no_condition (means_has h.means) err.1; least = λ g. no_lesser g (means_has h.means) })

filter_kind : (x : Node) {f : Filter} → condition_of x ≡ Some f → is_condition (kind_of x) ≡ true
filter_kind x e = sym (condition_fits x) ∙ ap is_some e

pub filter_is_condition : {s : List Named} {t : Syntax} {f : Filter} → IsFilter s t f → IsCondition s t
filter_is_condition h = (kind_of h.0, means_has h.1, filter_kind h.0 h.2)

pub condition_has_no_fault : {s : List Named} {t : Syntax} {f : Fault} → IsCondition s t → IsFault s t f → ⊥
condition_has_no_fault h (in_tree w) = no_fault h.1 w
condition_has_no_fault h (no_condition k e) = let f = sym e ∙ (ap is_condition (same_kind k h.1) ∙ h.2) in absurd cc

-- at the least place one fault
abbrev misuse_number : Misuse → ℕ
misuse_number c = (misuse_row c).0

abbrev misuse_numbered : ℕ → Misuse
misuse_numbered n =
    get_or (cause.EndsTurned ∷ cause.UnknownProperty ∷ cause.WrongKind ∷ cause.NotADate ∷ cause.NotWhole ∷ cause.NumberTooLarge ∷ cause.BadShape ∷ []) n cause.EndsTurned

number_tells : (c : Misuse) → misuse_numbered (misuse_number c) ≡ c
number_tells cause.UnknownProperty = refl
number_tells cause.WrongKind = refl
number_tells cause.NotADate = refl
number_tells cause.NotWhole = refl
number_tells cause.NumberTooLarge = refl
number_tells cause.BadShape = refl
number_tells cause.EndsTurned = refl

same_cause : {c d : Misuse} → misuse_number c ≡ misuse_number d → c ≡ d
same_cause {c} {d} e = sym (number_tells c) ∙ (ap misuse_numbered e ∙ number_tells d)

fault_same : {f g : Fault} → f.place ≡ g.place → f.cause ≡ g.cause → f ≡ g
fault_same {f} {g} e c =
    subst (λ (p : ℕ). f ≡ record { place = p; cause = g.cause }) e (subst (λ (d : Misuse). f ≡ record { place = f.place; cause = d }) c refl)

one_fault_at : {s : List Named} {t : Syntax} {f g : Fault} {from to : ℕ} → InOrder from t to → IsFault s t f → IsFault s t g → f.place ≡ g.place → f ≡ g
one_fault_at o (in_tree v) (in_tree w) same = one_cause o v w same
one_fault_at o (in_tree v) (no_condition k e) same = absurd (no_fault k v)
one_fault_at o (no_condition k e) (in_tree w) same = absurd (no_fault k w)
one_fault_at o (no_condition k e) (no_condition l d) same = refl

least_place : {s : List Named} {t : Syntax} {f g : Fault} → IsLeast s t f → IsLeast s t g → f.place ≡ g.place
least_place {f = f} {g = g} this that = omega (arith, this.least g that.fault, that.least f this.fault)

pub one_least : HasOneLeastFault
one_least s t f g o this that =
    let same = least_place this that in
    fault_same same (same_cause (∥∥₁_elim o (ℕ_set (misuse_number f.cause) (misuse_number g.cause))
    (λ h. ap (λ (x : Fault). misuse_number x.cause) (one_fault_at h.2 this.fault that.fault same))))

-- a condition, or a fault
kind_settled : {s : List Named} {t : Syntax} (k : Kind) → Has s t k → (b : Bool) → is_condition k ≡ b → IsCondition s t ⊎ ((f : Fault) × IsLeast s t f)
kind_settled k h true e = inl (k, h, e)
kind_settled {t = t} k h false e = inr (wrong_kind (place_of t), record { fault = no_condition h e; least = λ g. no_lesser g h })

whole_settled : {s : List Named} {t : Syntax} → IsOrdered t → Settled s t → IsCondition s t ⊎ ((f : Fault) × IsLeast s t f)
whole_settled o (inl h) = kind_settled h.0 h.1 (is_condition h.0) refl
whole_settled o (inr i) = inr (i.0, whole_least o i.1)

pub condition_or_fault : HasConditionOrFault
condition_or_fault s t o denied = settled s t (λ h. denied (whole_settled o h))

pub match_ok : {A E : Type 0} (r : Result A E) (P : A → Type 0) (Q : E → Type 0) → MatchResult r P Q → IfOk r P
match_ok (Ok x) P Q h = h
match_ok (Err e) P Q h = tt

pub match_err : {A E : Type 0} (r : Result A E) (P : A → Type 0) (Q : E → Type 0) → MatchResult r P Q → IfErr r Q
match_err (Ok x) P Q h = tt
match_err (Err e) P Q h = h

pub match_condition : (s : List Named) (t : Syntax) (r : Result Filter TypeFault) (Q : TypeFault → Type 0) → MatchResult r (IsFilter s t) Q → OnOk r (IsCondition s t)
match_condition s t (Ok x) Q h = filter_is_condition h
match_condition s t (Err e) Q h = tt

pub match_fault : (s : List Named) (t : Syntax) (r : Result Filter TypeFault) (P : Filter → Type 0) → MatchResult r P (ForFault (IsLeast s t)) → IfErr r (ForFault (IsFault s t))
match_fault s t (Ok x) P h = tt
match_fault s t (Err e) P h = least_is_fault s t e h

-- ---- the answer both ways

-- a condition is answered with a filter
pub accepted : HasFaultOrCondition → (s : List Named) (t : Syntax) (result : Result Filter TypeFault) → IfErr result (ForFault (IsFault s t)) → IsCondition s t → OrMemory result (IsOk result)
accepted law s t (Ok filter) fault h = inr refl
accepted law s t (Err Memory) fault h = inl refl
accepted law s t (Err (At f)) fault h = absurd (law s t f h fault)

-- and a tree whose places ascend with its least fault
pub refused : HasFaultOrCondition → HasOneLeastFault → (s : List Named) (t : Syntax) (result : Result Filter TypeFault) → OnOk result (IsCondition s t)
    → IfErr result (ForFault (IsLeast s t)) → IsOrdered t → (f : Fault) → IsLeast s t f → OrMemory result (result ≡ Err (At f))
refused law one s t (Ok filter) condition least o f h = absurd (law s t f condition h.fault)
refused law one s t (Err Memory) condition least o f h = inl refl
refused law one s t (Err (At g)) condition least o f h = inr (ap (λ x. Err (At x)) (one s t g f o least h))
