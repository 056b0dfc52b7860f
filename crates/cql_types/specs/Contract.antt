-- What the private functions of the walk answer.
use Rattle.std.specs.Prelude.{◌≡◌, ◌⊎◌, ℕ, Bool, true, false, List, [], ◌∷◌, Some, None, Result, Err, MatchResult, Vec, ⊤, map}
use Rattle.std.specs.declared.alloc.Global.{Global}
use Rattle.cad_schema.specs.Attributes.{Named}
use Rattle.cql_lexer.specs.declared.token.Comparison.{Comparison}
use Rattle.cql_tree.specs.Syntax.{Syntax, Parts, none, part, leaf, node, place_of, Leaf, Op, keyed, compare_op, like_op, between_op, in_op, is_null_op, spatial_op, temporal_op}
use Rattle.cql_types.specs.declared.fault.Misuse.{Misuse}
use Rattle.cql_types.specs.declared.fault.Fault.{Fault}
use Rattle.cql_types.specs.declared.fault.TypeFault.{TypeFault}
use Rattle.cql_types.specs.declared.fault.TypeFault.TheVariants.{Memory, At}
use Rattle.cql_types.specs.declared.filter.Filter.{Filter}
use Rattle.cql_types.specs.declared.filter.FlagTerm.{FlagTerm}
use Rattle.cql_types.specs.declared.filter.TextTerm.{TextTerm}
use Rattle.cql_tree.specs.declared.expression.Operation.{Operation}
use Rattle.cql_types.specs.declared.judged.Judged.{Judged}
use Rattle.cql_types.specs.declared.judged.JudgedStep.{JudgedStep}
use Rattle.cql_types.specs.Kinds.{Kind, Mark, leaf_kind, misfit, IsSound, unsound, Has, Have}
use Rattle.cql_types.specs.Means.{flag_of, text_of, marks_of, Makes, Means, Mean}

mutual
  -- the first fault in the order of reading: the parts before it have kinds
  pub data IsFirst (s : List Named) : Syntax → Fault → Type 0 where
    leaf_first : {p : ℕ} {l : Leaf} {c : Misuse} → leaf_kind s l ≡ Err c → IsFirst s (leaf p l) (record { place = p; cause = c })
    node_first : {op : Op} {ps : Parts} {ms : List Mark} {f : Fault} → Have s ps ms → misfit op ms ≡ Some f → IsFirst s (node op ps) f
    unsound_first : {op : Op} {ps : Parts} {ms : List Mark} → Have s ps ms → misfit op ms ≡ None → ¬ IsSound op ps → IsFirst s (node op ps) (unsound op ps)
    inside_first : {op : Op} {ps : Parts} {f : Fault} → IsFirstIn s ps f → IsFirst s (node op ps) f

  pub data IsFirstIn (s : List Named) : Parts → Fault → Type 0 where
    here_first : {t : Syntax} {ts : Parts} {f : Fault} → IsFirst s t f → IsFirstIn s (part t ts) f
    later_first : {t : Syntax} {ts : Parts} {f : Fault} {k : Kind} → Has s t k → IsFirstIn s ts f → IsFirstIn s (part t ts) f

pub record IsJudged (s : List Named) (t : Syntax) (j : Judged) : Type 0 where
  pub place : place_of t ≡ j.place
  pub means : Means s t j.node

-- LIKE, BETWEEN, IN, IS NULL, or a relation of shapes or of times
abbrev pub is_test : Syntax → Bool
is_test (node (like_op n) ps) = true
is_test (node (between_op n) ps) = true
is_test (node (in_op n) ps) = true
is_test (node (is_null_op n) ps) = true
is_test (node (spatial_op p by) ps) = true
is_test (node (temporal_op p by) ps) = true
is_test t = false

abbrev pub IsTest : Syntax → Type 0
IsTest t = is_test t ≡ true

-- if memory ran out, nothing is said
abbrev pub ForFault : (Fault → Type 0) → TypeFault → Type 0
ForFault Is Memory = ⊤
ForFault Is (At f) = Is f

-- the answer is as said, unless memory ran out
abbrev pub OrMemory : Result Filter TypeFault → Type 0 → Type 0
OrMemory result said = (result ≡ Err Memory) ⊎ said

abbrev pub Judges : List Named → Syntax → Result Judged TypeFault → Type 0
Judges s t r = MatchResult r (IsJudged s t) (ForFault (IsFirst s t))

abbrev pub JudgesParts : List Named → Parts → Result (Vec Judged Global) TypeFault → Type 0
JudgesParts s ps r = MatchResult r (λ js. Mean s ps js.items) (ForFault (IsFirstIn s ps))

-- two parts
abbrev pub JudgesPair : List Named → Syntax → Syntax → Result (Judged × Judged) TypeFault → Type 0
JudgesPair s t u r = MatchResult r (λ both. Mean s (part t (part u none)) (both.0 ∷ both.1 ∷ [])) (ForFault (IsFirstIn s (part t (part u none))))

-- the first part of a list, and the others
abbrev pub JudgesList : List Named → Syntax → Parts → Result (Judged × Vec Judged Global) TypeFault → Type 0
JudgesList s t ts r = MatchResult r (λ both. Mean s (part t ts) (both.0 ∷ both.1.items)) (ForFault (IsFirstIn s (part t ts)))

abbrev pub parts_judged : List JudgedStep → List Judged
parts_judged steps = map (λ step. step.part) steps

abbrev pub operations_judged : List JudgedStep → List Operation
operations_judged steps = map (λ step. step.by) steps

pub record AreJudgedSteps (s : List Named) (ps : Parts) (bs : List Operation) (steps : List JudgedStep) : Type 0 where
  pub mean : Mean s ps (parts_judged steps)
  pub by : operations_judged steps ≡ bs

-- the parts of a sum or a product behind the first
abbrev pub JudgesSteps : List Named → Parts → List Operation → Result (Vec JudgedStep Global) TypeFault → Type 0
JudgesSteps s ps bs r = MatchResult r (λ steps. AreJudgedSteps s ps bs steps.items) (ForFault (IsFirstIn s ps))

abbrev pub place_first : List Judged → ℕ
place_first [] = 0
place_first (j ∷ js) = j.place

pub record IsMade (op : Op) (js : List Judged) (j : Judged) : Type 0 where
  pub place : keyed op (place_first js) ≡ j.place
  pub makes : Makes op js j.node

-- the node that the parts make, or the first part that does not fit
abbrev pub Combines : Op → List Judged → Result Judged TypeFault → Type 0
Combines op js r = MatchResult r (IsMade op js) (ForFault (λ f. misfit op (marks_of js) ≡ Some f))

-- a text compared, at the place of the comparison
abbrev pub CombinesTexts : Comparison → ℕ → TextTerm → Judged → Result Judged TypeFault → Type 0
CombinesTexts c p a right r = (left : Judged) → left.place ≡ p → text_of left.node ≡ Some a → Combines (compare_op c) (left ∷ right ∷ []) r

-- and a flag
abbrev pub CombinesFlags : Comparison → ℕ → FlagTerm → Judged → Result Judged TypeFault → Type 0
CombinesFlags c p a right r = (left : Judged) → left.place ≡ p → flag_of left.node ≡ Some a → Combines (compare_op c) (left ∷ right ∷ []) r
