use Rattle.std.proofs.Common.{◌≡◌, ◌+◌, ◌*◌, ◌++◌, List, drop}
use Rattle.cad_schema.specs.Schema.{schema_of}
use Rattle.cql_tree.specs.Syntax.{none, part, parts_of}
use Rattle.cql_tree.specs.Views.{syntax_of, syntaxes_of, operands_of, operations_of}
use Rattle.cql_types.specs.declared.fault.Fault.{Fault}
use Rattle.cql_types.specs.declared.judged.Judged.{Judged}
use Rattle.cql_types.specs.Means.{Mean}
use Rattle.cql_types.specs.Contract.{IsFirstIn, parts_judged, operations_judged}
use Rattle.cql_types.proofs.Weights.{weight_of, weight_in}
use Rattle.cql_types.proofs.checking.+judges.Given as goal

-- The weight of what is judged falls, and for the same parts the rank.
abbrev pub decreases-judge : goal.decreases-judge
decreases-judge l = 5 * weight_of (syntax_of l.tree.now) + 1

abbrev pub decreases-judge_test : goal.decreases-judge_test
decreases-judge_test l = 5 * weight_of (syntax_of l.tree.now)

abbrev pub decreases-judge_all : goal.decreases-judge_all
decreases-judge_all l = 5 * weight_in (parts_of (syntaxes_of l.trees.now)) + 2

abbrev pub decreases-judge_steps : goal.decreases-judge_steps
decreases-judge_steps l = 5 * weight_in (parts_of (operands_of l.operands.now)) + 2

abbrev pub decreases-judge_pair : goal.decreases-judge_pair
decreases-judge_pair l = 5 * weight_in (part (syntax_of l.left.now) (part (syntax_of l.right.now) none)) + 2

abbrev pub decreases-judge_list : goal.decreases-judge_list
decreases-judge_list l = 5 * weight_in (part (syntax_of l.first.now) (parts_of (syntaxes_of l.others.now))) + 3

abbrev pub decreases-judge_or : goal.decreases-judge_or
decreases-judge_or l = 5 * weight_in (part (syntax_of l.first.now) (parts_of (syntaxes_of l.others.now))) + 4

abbrev pub decreases-judge_and : goal.decreases-judge_and
decreases-judge_and l = 5 * weight_in (part (syntax_of l.first.now) (parts_of (syntaxes_of l.others.now))) + 4

abbrev pub decreases-judge_not : goal.decreases-judge_not
decreases-judge_not l = 5 * weight_in (part (syntax_of l.operand.now) none) + 2

abbrev pub decreases-judge_compare : goal.decreases-judge_compare
decreases-judge_compare l = 5 * weight_in (part (syntax_of l.left.now) (part (syntax_of l.right.now) none)) + 3

abbrev pub decreases-judge_like : goal.decreases-judge_like
decreases-judge_like l = 5 * weight_in (part (syntax_of l.value.now) (part (syntax_of l.pattern.now) none)) + 3

abbrev pub decreases-judge_between : goal.decreases-judge_between
decreases-judge_between l = 5 * weight_in (part (syntax_of l.value.now) (part (syntax_of l.low.now) (part (syntax_of l.high.now) none))) + 3

abbrev pub decreases-judge_in : goal.decreases-judge_in
decreases-judge_in l = 5 * weight_in (part (syntax_of l.value.now) (part (syntax_of l.first.now) (parts_of (syntaxes_of l.others.now)))) + 4

abbrev pub decreases-judge_is_null : goal.decreases-judge_is_null
decreases-judge_is_null l = 5 * weight_in (part (syntax_of l.value.now) none) + 2

abbrev pub decreases-judge_computed : goal.decreases-judge_computed
decreases-judge_computed l = 5 * weight_in (part (syntax_of l.first.now) (parts_of (operands_of l.others.now))) + 3

abbrev pub decreases-judge_casei : goal.decreases-judge_casei
decreases-judge_casei l = 5 * weight_in (part (syntax_of l.operand.now) none) + 2

abbrev pub decreases-judge_spatial : goal.decreases-judge_spatial
decreases-judge_spatial l = 5 * weight_in (part (syntax_of l.left.now) (part (syntax_of l.right.now) none)) + 3

abbrev pub decreases-judge_temporal : goal.decreases-judge_temporal
decreases-judge_temporal l = 5 * weight_in (part (syntax_of l.left.now) (part (syntax_of l.right.now) none)) + 3

-- What is judged completes what is left, and the first fault of what is left is that of all.
abbrev pub invariant-judge_all-loop-tree : goal.invariant-judge_all-loop-tree
invariant-judge_all-loop-tree l = record {
  completes : (js : List Judged) → Mean (schema_of l.collection) (parts_of (syntaxes_of (drop l.tree-index l.trees))) js →
      Mean (schema_of l.collection) (parts_of (syntaxes_of l.trees)) (l.all.items ++ js);
  first : (f : Fault) → IsFirstIn (schema_of l.collection) (parts_of (syntaxes_of (drop l.tree-index l.trees))) f →
      IsFirstIn (schema_of l.collection) (parts_of (syntaxes_of l.trees)) f;
}

abbrev pub invariant-judge_steps-loop-operand : goal.invariant-judge_steps-loop-operand
invariant-judge_steps-loop-operand l = record {
  completes : (js : List Judged) → Mean (schema_of l.collection) (parts_of (operands_of (drop l.operand-index l.operands))) js →
      Mean (schema_of l.collection) (parts_of (operands_of l.operands)) (parts_judged l.steps.items ++ js);
  first : (f : Fault) → IsFirstIn (schema_of l.collection) (parts_of (operands_of (drop l.operand-index l.operands))) f →
      IsFirstIn (schema_of l.collection) (parts_of (operands_of l.operands)) f;
  by : operations_judged l.steps.items ++ operations_of (drop l.operand-index l.operands) ≡ operations_of l.operands;
}
