-- One part more as a term.
use Rattle.std.proofs.Common.{◌≡◌, refl, ap, sym, ◌∙◌, Bool, true, List, [], ◌∷◌, ◌++◌, Option, Some}
use Rattle.std.specs.Option.{is_some}
use Rattle.cql_types.specs.declared.judged.Judged.{Judged}
use Rattle.cql_types.specs.declared.judged.Node.{Node}
use Rattle.cql_types.specs.Kinds.{Kind, first_not}
use Rattle.cql_tree.specs.declared.expression.Operation.{Operation}
use Rattle.cql_types.specs.declared.filter.Step.{Step}
use Rattle.cql_types.specs.declared.filter.WholeTerm.{WholeTerm}
use Rattle.cql_types.specs.declared.judged.JudgedStep.{JudgedStep}
use Rattle.cql_types.specs.Contract.{parts_judged, operations_judged}
use Rattle.cql_types.specs.Means.{kind_of, marks_of, whole_of, Are, no_term, one_term, AreSteps, no_step, one_step}

pub more_terms : {A : Type 0} {as_term : Node → Option A} {js : List Judged} {xs : List A} (j : Judged) {a : A} →
    Are as_term js xs → as_term j.node ≡ Some a → Are as_term (js ++ j ∷ []) (xs ++ a ∷ [])
more_terms j no_term h = one_term h no_term
more_terms j (one_term e r) h = one_term e (more_terms j r h)

pub fits_first : (has : Kind → Bool) (j : Judged) (js : List Judged) → has (kind_of j.node) ≡ true →
    first_not has (marks_of (j ∷ js)) ≡ first_not has (marks_of js)
fits_first has j js e = rw e

pub is_true : {A : Type 0} {o : Option A} {a : A} {b : Bool} → is_some o ≡ b → o ≡ Some a → b ≡ true
is_true e h = sym e ∙ ap is_some h

pub more_steps_by : {bs : List Operation} {js : List Judged} {xs : List Step} (b : Operation) (j : Judged) {a : WholeTerm} →
    AreSteps bs js xs → whole_of j.node ≡ Some a → AreSteps (bs ++ b ∷ []) (js ++ j ∷ []) (xs ++ (record { by = b; term = a }) ∷ [])
more_steps_by b j no_step h = one_step refl h no_step
more_steps_by b j (one_step e f r) h = one_step e f (more_steps_by b j r h)

pub operations_more : (steps : List JudgedStep) (step : JudgedStep) → operations_judged (steps ++ step ∷ []) ≡ operations_judged steps ++ step.by ∷ []
operations_more [] step = refl
operations_more (s ∷ ss) step = ap (λ bs. s.by ∷ bs) (operations_more ss step)

pub parts_more : (steps : List JudgedStep) (step : JudgedStep) → parts_judged (steps ++ step ∷ []) ≡ parts_judged steps ++ step.part ∷ []
parts_more [] step = refl
parts_more (s ∷ ss) step = ap (λ js. s.part ∷ js) (parts_more ss step)

pub more_steps : (steps : List JudgedStep) {xs : List Step} (step : JudgedStep) {a : WholeTerm} → AreSteps (operations_judged steps) (parts_judged steps) xs → whole_of step.part.node ≡ Some a →
    AreSteps (operations_judged (steps ++ step ∷ [])) (parts_judged (steps ++ step ∷ [])) (xs ++ (record { by = step.by; term = a }) ∷ [])
more_steps steps step r h = rw (operations_more steps step, parts_more steps step) (more_steps_by step.by step.part r h)
