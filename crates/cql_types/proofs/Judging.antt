-- From what the parts are to what the node is.
use Rattle.std.proofs.Common.{◌≡◌, refl, ap, sym, subst, ◌∙◌, ℕ, ◌≤◌, List, [], ◌∷◌, ◌++◌, length, get_or, ◌<◌, ◌+◌, drop, drop-cons, add-one, drop_of_length-le, append-nil, append_assoc, map, Result, Ok, Err}
use Rattle.cad_schema.specs.Attributes.{Named}
use Rattle.cql_tree.specs.Syntax.{Syntax, Parts, none, part, parts_of, node, Op, computed_op, keyed, place_in}
use Rattle.cql_tree.specs.Views.{operations_of}
use Rattle.cql_tree.specs.declared.expression.Operand.{Operand}
use Rattle.cql_types.specs.declared.fault.Fault.{Fault}
use Rattle.cql_types.specs.declared.fault.TypeFault.{TypeFault}
use Rattle.cql_types.specs.declared.fault.TypeFault.TheVariants.{Memory, At}
use Rattle.cql_tree.specs.declared.expression.Operation.{Operation}
use Rattle.cql_types.specs.declared.judged.Judged.{Judged}
use Rattle.cql_types.specs.declared.judged.JudgedStep.{JudgedStep}
use Rattle.cql_types.specs.Means.{Mean, no_more, one_more, node_means}
use Rattle.cql_types.specs.Contract.{ForFault, IsFirst, IsFirstIn, node_first, inside_first, here_first, later_first, IsJudged, Judges, Combines, place_first, parts_judged, operations_judged, AreJudgedSteps}
use Rattle.cql_types.proofs.Fitting.{means_has, mean_have}

place_mean : {s : List Named} {ps : Parts} {js : List Judged} → Mean s ps js → place_in ps ≡ place_first js
place_mean no_more = refl
place_mean (one_more p h m) = p

pub node_judged : {s : List Named} (op : Op) {ps : Parts} {js : List Judged} (r : Result Judged TypeFault) →
    Mean s ps js → Combines op js r → Judges s (node op ps) r
node_judged op (Ok j) m h = record { place = ap (keyed op) (place_mean m) ∙ h.place; means = node_means m h.makes }
node_judged op (Err Memory) m h = tt
node_judged op (Err (At f)) m h = node_first (mean_have m) h

pub and_part : {s : List Named} {t : Syntax} {ts : Parts} {j : Judged} {js : List Judged} → IsJudged s t j → Mean s ts js → Mean s (part t ts) (j ∷ js)
and_part h m = one_more h.place h.means m

pub last_part : {s : List Named} {t : Syntax} {j : Judged} → IsJudged s t j → Mean s (part t none) (j ∷ [])
last_part h = one_more h.place h.means no_more

pub fault_here : (s : List Named) (op : Op) (t : Syntax) (ts : Parts) (e : TypeFault) → ForFault (IsFirst s t) e → ForFault (IsFirst s (node op (part t ts))) e
fault_here s op t ts Memory h = tt
fault_here s op t ts (At f) h = inside_first (here_first h)

pub fault_later : (s : List Named) (op : Op) (t : Syntax) (ts : Parts) {j : Judged} (e : TypeFault) → IsJudged s t j → ForFault (IsFirstIn s ts) e →
    ForFault (IsFirst s (node op (part t ts))) e
fault_later s op t ts Memory j h = tt
fault_later s op t ts (At f) j h = inside_first (later_first (means_has j.means) h)

pub fault_inside : (s : List Named) (op : Op) (ts : Parts) (e : TypeFault) → ForFault (IsFirstIn s ts) e → ForFault (IsFirst s (node op ts)) e
fault_inside s op ts Memory h = tt
fault_inside s op ts (At f) h = inside_first h

pub first_fault : (s : List Named) (t : Syntax) (ts : Parts) (e : TypeFault) → ForFault (IsFirst s t) e → ForFault (IsFirstIn s (part t ts)) e
first_fault s t ts Memory h = tt
first_fault s t ts (At f) h = here_first h

pub next_fault : (s : List Named) (t : Syntax) (ts : Parts) {j : Judged} (e : TypeFault) → IsJudged s t j → ForFault (IsFirstIn s ts) e → ForFault (IsFirstIn s (part t ts)) e
next_fault s t ts Memory j h = tt
next_fault s t ts (At f) j h = later_first (means_has j.means) h

-- a judged part that went through a box
pub boxed : {s : List Named} {t : Syntax} {i j k : Judged} → IsJudged s t i → j ≡ i → k ≡ j → IsJudged s t k
boxed {s = s} {t = t} h e f = subst (IsJudged s t) (sym (f ∙ e)) h

-- a node whose first part went through a box
pub list_judged : {s : List Named} (op : Op) {t : Syntax} {ts : Parts} {i j k : Judged} {js : List Judged} (r : Result Judged TypeFault) →
    IsJudged s t i → j ≡ i → k ≡ j → Mean s ts js → Combines op (k ∷ js) r → Judges s (node op (part t ts)) r
list_judged op {i = i} {js = js} r h e f m c = node_judged op r (and_part h m) (subst (λ j. Combines op (j ∷ js) r) (f ∙ e) c)

-- the same where the others are steps
pub steps_judged : {s : List Named} {t : Syntax} {ts : Parts} {bs : List Operation} {i j k : Judged} {steps : List JudgedStep} (r : Result Judged TypeFault) →
    IsJudged s t i → j ≡ i → k ≡ j → AreJudgedSteps s ts bs steps → Combines (computed_op (operations_judged steps)) (k ∷ parts_judged steps) r →
    Judges s (node (computed_op bs) (part t ts)) r
steps_judged {bs = bs} {k = k} {steps = steps} r h e f m c =
    list_judged (computed_op bs) r h e f m.mean (subst (λ bs. Combines (computed_op bs) (k ∷ parts_judged steps) r) m.by c)

-- the parts that are left, and all
pub completes_more : {s : List Named} {all rest rest' : Parts} {t : Syntax} {j : Judged} {after : List Judged} (before : List Judged) →
    ((js : List Judged) → Mean s rest js → Mean s all (before ++ js)) → rest ≡ part t rest' → IsJudged s t j → after ≡ before ++ j ∷ [] →
    (js : List Judged) → Mean s rest' js → Mean s all (after ++ js)
completes_more {j = j} before so_far is h e js more = rw (e, append_assoc) (so_far (j ∷ js) (rw is (and_part h more)))

pub completes_all : {s : List Named} {A : Type 0} {all : Parts} (syntax : A → Syntax) (ts : List A) (i : ℕ) (before : List Judged) → length ts ≤ i →
    ((js : List Judged) → Mean s (parts_of (map syntax (drop i ts))) js → Mean s all (before ++ js)) → Mean s all before
completes_all syntax ts i before past so_far =
    let none_left : drop i ts ≡ [] = drop_of_length-le ts past in
    rw append-nil at (so_far [] (rw none_left no_more))

pub first_more : {s : List Named} {all rest rest' : Parts} {t : Syntax} {j : Judged} →
    ((f : Fault) → IsFirstIn s rest f → IsFirstIn s all f) → rest ≡ part t rest' → IsJudged s t j →
    (f : Fault) → IsFirstIn s rest' f → IsFirstIn s all f
first_more so_far is h f i = so_far f (rw is (later_first (means_has h.means) i))

pub fault_among : {s : List Named} {all rest rest' : Parts} (t : Syntax) (e : TypeFault) →
    ((f : Fault) → IsFirstIn s rest f → IsFirstIn s all f) → rest ≡ part t rest' → ForFault (IsFirst s t) e → ForFault (IsFirstIn s all) e
fault_among t Memory so_far is h = tt
fault_among t (At f) so_far is h = so_far f (rw is (here_first h))

-- what is done with the parts that are left, and with all
pub operations_from : (ts : List Operand) (i : ℕ) (t : Operand) → i < length ts → t ≡ get_or ts i t →
    operations_of (drop i ts) ≡ t.by ∷ operations_of (drop (i + 1) ts)
operations_from ts i t within is = ap (λ us. operations_of us) (drop-cons ts i t within) ∙ rw (add-one, ← is)

pub by_more : (before : List Operation) {after rest rest' all : List Operation} (b : Operation) → before ++ rest ≡ all → rest ≡ b ∷ rest' → after ≡ before ++ b ∷ [] → after ++ rest' ≡ all
by_more before b so_far is e = rw (e, append_assoc) (rw is at so_far)

pub by_all : (ts : List Operand) (i : ℕ) (before all : List Operation) → length ts ≤ i → before ++ operations_of (drop i ts) ≡ all → before ≡ all
by_all ts i before all past so_far =
    let none_left : drop i ts ≡ [] = drop_of_length-le ts past in
    rw append-nil at (rw none_left at so_far)
