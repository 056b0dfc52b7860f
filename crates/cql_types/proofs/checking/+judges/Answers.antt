use Rattle.std.proofs.Common.{◌∙◌, ap, arith, refl, inl, inr}
use Rattle.std.proofs.lemmas.Result.{err_from_is_err_and}
use Rattle.cad_schema.specs.Schema.{schema_of}
use Rattle.cql_tree.specs.Syntax.{none, part, parts_of, or_op, and_op, not_op, compare_op, like_op, between_op, in_op, is_null_op, computed_op, casei_op, spatial_op, temporal_op}
use Rattle.cql_tree.specs.Views.{syntax_of, syntaxes_of, operands_of, operations_of}
use Rattle.cql_types.proofs.Judging.{node_judged, list_judged, steps_judged, last_part, and_part, boxed, fault_here, fault_later, fault_inside, first_fault, next_fault, completes_more, completes_all, first_more, fault_among, operations_from, by_more, by_all}
use Rattle.cql_types.specs.Contract.{parts_judged, operations_judged}
use Rattle.cql_types.proofs.Tests.{tests}
use Rattle.cql_types.proofs.Terms.{parts_more, operations_more}
use Rattle.cql_types.proofs.Trees.{parts_from, syntax_of-Name, syntax_of-Number, syntax_of-Text, syntax_of-Truth, syntax_of-Or, syntax_of-And, syntax_of-Not, syntax_of-Compare, syntax_of-Like, syntax_of-Between, syntax_of-In, syntax_of-IsNull, syntax_of-Computed, syntax_of-Casei, syntax_of-Date, syntax_of-Interval, syntax_of-Point, syntax_of-Polygon, syntax_of-Bbox, syntax_of-Spatial, syntax_of-Temporal}
use Rattle.cql_types.proofs.Weights.{falls_below, falls_inside, falls_among}
use Rattle.cql_types.proofs.checking.+judges.Goals as goal

pub judge-judge_or-requires : goal.judge-judge_or-requires
judge-judge_or-requires t c =
    (rw (← c.deref-in-Or.ensures, ← c.deref-in-Or-2.ensures.value) at (falls_below 4 (omega arith) (ap syntax_of c.in-Or.is ∙ syntax_of-Or _ _) c.decreases), tt)

pub judge-judge_and-requires : goal.judge-judge_and-requires
judge-judge_and-requires t c =
    (rw (← c.deref-in-And.ensures, ← c.deref-in-And-2.ensures.value) at (falls_below 4 (omega arith) (ap syntax_of c.in-And.is ∙ syntax_of-And _ _) c.decreases), tt)

pub judge-judge_not-requires : goal.judge-judge_not-requires
judge-judge_not-requires t c =
    (rw (← c.deref-in-Not.ensures) at (falls_below 2 (omega arith) (ap syntax_of c.in-Not.is ∙ syntax_of-Not _ _) c.decreases), tt)

pub judge-judge_compare-requires : goal.judge-judge_compare-requires
judge-judge_compare-requires t c =
    (rw (← c.deref-in-Compare.ensures, ← c.deref-in-Compare-2.ensures) at (falls_below 3 (omega arith) (ap syntax_of c.in-Compare.is ∙ syntax_of-Compare _ _ _) c.decreases), tt)

pub judge_test-judge_like-requires : goal.judge_test-judge_like-requires
judge_test-judge_like-requires t c =
    (rw (← c.deref.ensures, ← c.deref-in-Like.ensures) at (falls_inside 3 (omega arith) (ap syntax_of c.in-Like.is ∙ syntax_of-Like _ _ _) c.decreases), tt)

pub judge_test-judge_between-requires : goal.judge_test-judge_between-requires
judge_test-judge_between-requires t c =
    (rw (← c.deref-in-Between.ensures, ← c.deref-in-Between-2.ensures, ← c.deref-in-Between-3.ensures) at (falls_inside 3 (omega arith) (ap syntax_of c.in-Between.is ∙ syntax_of-Between _ _ _ _) c.decreases), tt)

pub judge_test-judge_in-requires : goal.judge_test-judge_in-requires
judge_test-judge_in-requires t c =
    (rw (← c.deref-in-In.ensures, ← c.deref-in-In-2.ensures, ← c.deref-in-In-3.ensures.value) at (falls_inside 4 (omega arith) (ap syntax_of c.in-In.is ∙ syntax_of-In _ _ _ _) c.decreases), tt)

pub judge_test-judge_is_null-requires : goal.judge_test-judge_is_null-requires
judge_test-judge_is_null-requires t c =
    (rw (← c.deref-in-IsNull.ensures) at (falls_inside 2 (omega arith) (ap syntax_of c.in-IsNull.is ∙ syntax_of-IsNull _ _) c.decreases), tt)

pub judge-judge_computed-requires : goal.judge-judge_computed-requires
judge-judge_computed-requires t c =
    (rw (← c.deref-in-Computed.ensures, ← c.deref-in-Computed-2.ensures.value) at (falls_below 3 (omega arith) (ap syntax_of c.in-Computed.is ∙ syntax_of-Computed _ _) c.decreases), tt)

pub judge-judge_casei-requires : goal.judge-judge_casei-requires
judge-judge_casei-requires t c =
    (rw (← c.deref-in-Casei.ensures) at (falls_below 2 (omega arith) (ap syntax_of c.in-Casei.is ∙ syntax_of-Casei _ _) c.decreases), tt)

pub judge_test-judge_spatial-requires : goal.judge_test-judge_spatial-requires
judge_test-judge_spatial-requires t c =
    (rw (← c.deref-in-Spatial.ensures, ← c.deref-in-Spatial-2.ensures) at (falls_inside 3 (omega arith) (ap syntax_of c.in-Spatial.is ∙ syntax_of-Spatial _ _ _ _) c.decreases), tt)

pub judge_test-judge_temporal-requires : goal.judge_test-judge_temporal-requires
judge_test-judge_temporal-requires t c =
    (rw (← c.deref-in-Temporal.ensures, ← c.deref-in-Temporal-2.ensures) at (falls_inside 3 (omega arith) (ap syntax_of c.in-Temporal.is ∙ syntax_of-Temporal _ _ _ _) c.decreases), tt)

pub judge-judge_test-requires : goal.judge-judge_test-requires
judge-judge_test-requires t c = (
  omega (arith, c.decreases),
  elim c.in-Like.is [
    | inl like ↦ rw (like.3, syntax_of-Like) refl
    | inr others ↦ elim others [
      | inl between ↦ rw (between.4, syntax_of-Between) refl
      | inr others ↦ elim others [
        | inl among ↦ rw (among.4, syntax_of-In) refl
        | inr others ↦ elim others [
          | inl null ↦ rw (null.2, syntax_of-IsNull) refl
          | inr others ↦ elim others [
            | inl shapes ↦ rw (shapes.4, syntax_of-Spatial) refl
            | inr times ↦ rw (times.4, syntax_of-Temporal) refl
          ]
        ]
      ]
    ]
  ],
)

pub judge_test-unreachable-requires : goal.judge_test-unreachable-requires
judge_test-unreachable-requires t c =
    let other = c.in_default in
    tests c.args.tree.now c.requires other.not-Like other.not-Between other.not-In other.not-IsNull other.not-Spatial other.not-Temporal

pub judge_all-judge-requires : goal.judge_all-judge-requires
judge_all-judge-requires t c =
    (falls_among syntax_of c.args.trees.now c.loop-tree.tree-index c.tree-item.result c.loop-tree-test.true c.tree-item.is c.decreases, tt)

pub judge_steps-judge-requires : goal.judge_steps-judge-requires
judge_steps-judge-requires t c =
    (falls_among (λ u. syntax_of u.tree) c.args.operands.now c.loop-operand.operand-index c.operand-item.result c.loop-operand-test.true c.operand-item.is c.decreases, tt)

pub judge-returns-in-Name : goal.judge-returns-in-Name
judge-returns-in-Name t c =
    rw (c.in-Name.is, syntax_of-Name, ← c.deref.ensures) c.name.ensures

pub judge-returns-in-Number : goal.judge-returns-in-Number
judge-returns-in-Number t c =
    rw (c.in-Number.is, syntax_of-Number) c.number.ensures

pub judge-returns-in-Text : goal.judge-returns-in-Text
judge-returns-in-Text t c =
    rw (c.in-Text.is, syntax_of-Text) c.text.ensures

pub judge-returns-in-Truth : goal.judge-returns-in-Truth
judge-returns-in-Truth t c =
    rw (c.in-Truth.is, syntax_of-Truth) c.truth.ensures

pub judge-returns-in-Or : goal.judge-returns-in-Or
judge-returns-in-Or t c =
    rw (c.in-Or.is, syntax_of-Or) (rw (c.deref-in-Or.ensures, c.deref-in-Or-2.ensures.value) at c.judge_or.ensures)

pub judge-returns-in-And : goal.judge-returns-in-And
judge-returns-in-And t c =
    rw (c.in-And.is, syntax_of-And) (rw (c.deref-in-And.ensures, c.deref-in-And-2.ensures.value) at c.judge_and.ensures)

pub judge-returns-in-Not : goal.judge-returns-in-Not
judge-returns-in-Not t c =
    rw (c.in-Not.is, syntax_of-Not) (rw c.deref-in-Not.ensures at c.judge_not.ensures)

pub judge-returns-in-Compare : goal.judge-returns-in-Compare
judge-returns-in-Compare t c =
    rw (c.in-Compare.is, syntax_of-Compare) (rw (c.deref-in-Compare.ensures, c.deref-in-Compare-2.ensures) at c.judge_compare.ensures)

pub judge_test-returns-in-Like : goal.judge_test-returns-in-Like
judge_test-returns-in-Like t c =
    rw (c.in-Like.is, syntax_of-Like) (rw (c.deref.ensures, c.deref-in-Like.ensures) at c.judge_like.ensures)

pub judge_test-returns-in-Between : goal.judge_test-returns-in-Between
judge_test-returns-in-Between t c =
    rw (c.in-Between.is, syntax_of-Between) (rw (c.deref-in-Between.ensures, c.deref-in-Between-2.ensures, c.deref-in-Between-3.ensures) at c.judge_between.ensures)

pub judge_test-returns-in-In : goal.judge_test-returns-in-In
judge_test-returns-in-In t c =
    rw (c.in-In.is, syntax_of-In) (rw (c.deref-in-In.ensures, c.deref-in-In-2.ensures, c.deref-in-In-3.ensures.value) at c.judge_in.ensures)

pub judge_test-returns-in-IsNull : goal.judge_test-returns-in-IsNull
judge_test-returns-in-IsNull t c =
    rw (c.in-IsNull.is, syntax_of-IsNull) (rw c.deref-in-IsNull.ensures at c.judge_is_null.ensures)

pub judge-returns-in-Computed : goal.judge-returns-in-Computed
judge-returns-in-Computed t c =
    rw (c.in-Computed.is, syntax_of-Computed) (rw (c.deref-in-Computed.ensures, c.deref-in-Computed-2.ensures.value) at c.judge_computed.ensures)

pub judge-returns-in-Casei : goal.judge-returns-in-Casei
judge-returns-in-Casei t c =
    rw (c.in-Casei.is, syntax_of-Casei) (rw c.deref-in-Casei.ensures at c.judge_casei.ensures)

pub judge-returns-in-Date : goal.judge-returns-in-Date
judge-returns-in-Date t c =
    rw (c.in-Date.is, syntax_of-Date, ← c.deref-in-Date.ensures) c.judge_date.ensures

pub judge-returns-in-Interval : goal.judge-returns-in-Interval
judge-returns-in-Interval t c =
    rw (c.in-Interval.is, syntax_of-Interval) c.interval.ensures

pub judge-returns-in-Point : goal.judge-returns-in-Point
judge-returns-in-Point t c =
    rw (c.in-Point.is, syntax_of-Point) c.point.ensures

pub judge-returns-in-Bbox : goal.judge-returns-in-Bbox
judge-returns-in-Bbox t c =
    rw (c.in-Bbox.is, syntax_of-Bbox) c.bbox.ensures

pub judge-returns-in-Polygon : goal.judge-returns-in-Polygon
judge-returns-in-Polygon t c =
    rw (c.in-Polygon.is, syntax_of-Polygon, ← c.deref-in-Polygon.ensures.value) c.polygon.ensures

pub judge_test-returns-in-Spatial : goal.judge_test-returns-in-Spatial
judge_test-returns-in-Spatial t c =
    rw (c.in-Spatial.is, syntax_of-Spatial) (rw (c.deref-in-Spatial.ensures, c.deref-in-Spatial-2.ensures) at c.judge_spatial.ensures)

pub judge_test-returns-in-Temporal : goal.judge_test-returns-in-Temporal
judge_test-returns-in-Temporal t c =
    rw (c.in-Temporal.is, syntax_of-Temporal) (rw (c.deref-in-Temporal.ensures, c.deref-in-Temporal-2.ensures) at c.judge_temporal.ensures)

pub judge_pair-returns-in_err-judge : goal.judge_pair-returns-in_err-judge
judge_pair-returns-in_err-judge t c =
    let p = err_from_is_err_and c.from_residual.result c.from_residual.ensures.1 in
    rw (p.1, p.2) (first_fault (schema_of c.args.collection) (syntax_of c.args.left.now) (part (syntax_of c.args.right.now) none) c.in_err-judge.field-0.0 c.in_err-judge.ensures)

pub judge_pair-returns-in_err-right : goal.judge_pair-returns-in_err-right
judge_pair-returns-in_err-right t c =
    let p = err_from_is_err_and c.from_residual-in_err-right.result c.from_residual-in_err-right.ensures.1 in
    rw (p.1, p.2) (next_fault (schema_of c.args.collection) (syntax_of c.args.left.now) (part (syntax_of c.args.right.now) none) c.in_err-right.field-0.0 c.in_ok-judge.ensures
    (first_fault (schema_of c.args.collection) (syntax_of c.args.right.now) none c.in_err-right.field-0.0 c.in_err-right.ensures))

pub judge_pair-returns : goal.judge_pair-returns
judge_pair-returns t c =
    and_part (boxed c.in_ok-judge.ensures c.in_ok-left.ensures.ok c.into_inner.ensures) (last_part c.in_ok-right.ensures)

pub judge_list-returns-in_err-judge : goal.judge_list-returns-in_err-judge
judge_list-returns-in_err-judge t c =
    let p = err_from_is_err_and c.from_residual.result c.from_residual.ensures.1 in
    rw (p.1, p.2) (first_fault (schema_of c.args.collection) (syntax_of c.args.first.now) (parts_of (syntaxes_of c.args.others.now)) c.in_err-judge.field-0.0 c.in_err-judge.ensures)

pub judge_list-returns-in_err-others : goal.judge_list-returns-in_err-others
judge_list-returns-in_err-others t c =
    let p = err_from_is_err_and c.from_residual-in_err-others.result c.from_residual-in_err-others.ensures.1 in
    rw (p.1, p.2) (next_fault (schema_of c.args.collection) (syntax_of c.args.first.now) (parts_of (syntaxes_of c.args.others.now)) c.in_err-others.field-0.0 c.in_ok-judge.ensures c.in_err-others.ensures)

pub judge_list-returns : goal.judge_list-returns
judge_list-returns t c =
    and_part (boxed c.in_ok-judge.ensures c.in_ok-first.ensures.ok c.into_inner.ensures) c.in_ok-others.ensures

pub judge_or-returns-in_err-first : goal.judge_or-returns-in_err-first
judge_or-returns-in_err-first t c =
    let p = err_from_is_err_and c.from_residual.result c.from_residual.ensures.1 in
    rw (p.1, p.2) (fault_inside (schema_of c.args.collection) or_op (part (syntax_of c.args.first.now) (parts_of (syntaxes_of c.args.others.now))) c.in_err-first.field-0.0 c.in_err-first.ensures)

pub judge_or-returns : goal.judge_or-returns
judge_or-returns t c =
    node_judged or_op _ c.in_ok-first.ensures c.or.ensures

pub judge_and-returns-in_err-first : goal.judge_and-returns-in_err-first
judge_and-returns-in_err-first t c =
    let p = err_from_is_err_and c.from_residual.result c.from_residual.ensures.1 in
    rw (p.1, p.2) (fault_inside (schema_of c.args.collection) and_op (part (syntax_of c.args.first.now) (parts_of (syntaxes_of c.args.others.now))) c.in_err-first.field-0.0 c.in_err-first.ensures)

pub judge_and-returns : goal.judge_and-returns
judge_and-returns t c =
    node_judged and_op _ c.in_ok-first.ensures c.and.ensures

pub judge_compare-returns-in_err-left : goal.judge_compare-returns-in_err-left
judge_compare-returns-in_err-left t c =
    let p = err_from_is_err_and c.from_residual.result c.from_residual.ensures.1 in
    rw (p.1, p.2) (fault_inside (schema_of c.args.collection) (compare_op c.args.by) (part (syntax_of c.args.left.now) (part (syntax_of c.args.right.now) none)) c.in_err-left.field-0.0 c.in_err-left.ensures)

pub judge_compare-returns : goal.judge_compare-returns
judge_compare-returns t c =
    node_judged (compare_op c.args.by) _ c.in_ok-left.ensures c.compare.ensures

pub judge_like-returns-in_err-value : goal.judge_like-returns-in_err-value
judge_like-returns-in_err-value t c =
    let p = err_from_is_err_and c.from_residual.result c.from_residual.ensures.1 in
    rw (p.1, p.2) (fault_inside (schema_of c.args.collection) (like_op c.args.is_negated) (part (syntax_of c.args.value.now) (part (syntax_of c.args.pattern.now) none)) c.in_err-value.field-0.0 c.in_err-value.ensures)

pub judge_like-returns : goal.judge_like-returns
judge_like-returns t c =
    node_judged (like_op c.args.is_negated) _ c.in_ok-value.ensures c.like.ensures

pub judge_spatial-returns-in_err-left : goal.judge_spatial-returns-in_err-left
judge_spatial-returns-in_err-left t c =
    let p = err_from_is_err_and c.from_residual.result c.from_residual.ensures.1 in
    rw (p.1, p.2) (fault_inside (schema_of c.args.collection) (spatial_op c.args.place c.args.by) (part (syntax_of c.args.left.now) (part (syntax_of c.args.right.now) none)) c.in_err-left.field-0.0 c.in_err-left.ensures)

pub judge_spatial-returns : goal.judge_spatial-returns
judge_spatial-returns t c =
    node_judged (spatial_op c.args.place c.args.by) _ c.in_ok-left.ensures c.spatial.ensures

pub judge_temporal-returns-in_err-left : goal.judge_temporal-returns-in_err-left
judge_temporal-returns-in_err-left t c =
    let p = err_from_is_err_and c.from_residual.result c.from_residual.ensures.1 in
    rw (p.1, p.2) (fault_inside (schema_of c.args.collection) (temporal_op c.args.place c.args.by) (part (syntax_of c.args.left.now) (part (syntax_of c.args.right.now) none)) c.in_err-left.field-0.0 c.in_err-left.ensures)

pub judge_temporal-returns : goal.judge_temporal-returns
judge_temporal-returns t c =
    node_judged (temporal_op c.args.place c.args.by) _ c.in_ok-left.ensures c.temporal.ensures

pub judge_not-returns-in_err-operand : goal.judge_not-returns-in_err-operand
judge_not-returns-in_err-operand t c =
    let p = err_from_is_err_and c.from_residual.result c.from_residual.ensures.1 in
    rw (p.1, p.2) (fault_here (schema_of c.args.collection) (not_op c.args.place) (syntax_of c.args.operand.now) none c.in_err-operand.field-0.0 c.in_err-operand.ensures)

pub judge_not-returns : goal.judge_not-returns
judge_not-returns t c =
    node_judged (not_op c.args.place) _ (last_part c.in_ok-operand.ensures) c.not.ensures

pub judge_is_null-returns-in_err-value : goal.judge_is_null-returns-in_err-value
judge_is_null-returns-in_err-value t c =
    let p = err_from_is_err_and c.from_residual.result c.from_residual.ensures.1 in
    rw (p.1, p.2) (fault_here (schema_of c.args.collection) (is_null_op c.args.is_negated) (syntax_of c.args.value.now) none c.in_err-value.field-0.0 c.in_err-value.ensures)

pub judge_is_null-returns : goal.judge_is_null-returns
judge_is_null-returns t c =
    node_judged (is_null_op c.args.is_negated) _ (last_part c.in_ok-value.ensures) c.is_null.ensures

pub judge_casei-returns-in_err-operand : goal.judge_casei-returns-in_err-operand
judge_casei-returns-in_err-operand t c =
    let p = err_from_is_err_and c.from_residual.result c.from_residual.ensures.1 in
    rw (p.1, p.2) (fault_here (schema_of c.args.collection) (casei_op c.args.place) (syntax_of c.args.operand.now) none c.in_err-operand.field-0.0 c.in_err-operand.ensures)

pub judge_casei-returns : goal.judge_casei-returns
judge_casei-returns t c =
    node_judged (casei_op c.args.place) _ (last_part c.in_ok-operand.ensures) c.casei.ensures

pub judge_between-returns-in_err-judge : goal.judge_between-returns-in_err-judge
judge_between-returns-in_err-judge t c =
    let p = err_from_is_err_and c.from_residual.result c.from_residual.ensures.1 in
    rw (p.1, p.2) (fault_here (schema_of c.args.collection) (between_op c.args.is_negated) (syntax_of c.args.value.now) (part (syntax_of c.args.low.now) (part (syntax_of c.args.high.now) none)) c.in_err-judge.field-0.0 c.in_err-judge.ensures)

pub judge_between-returns-in_err-low : goal.judge_between-returns-in_err-low
judge_between-returns-in_err-low t c =
    let p = err_from_is_err_and c.from_residual-in_err-low.result c.from_residual-in_err-low.ensures.1 in
    rw (p.1, p.2) (fault_later (schema_of c.args.collection) (between_op c.args.is_negated) (syntax_of c.args.value.now) (part (syntax_of c.args.low.now) (part (syntax_of c.args.high.now) none)) c.in_err-low.field-0.0 c.in_ok-judge.ensures c.in_err-low.ensures)

pub judge_between-returns : goal.judge_between-returns
judge_between-returns t c =
    list_judged (between_op c.args.is_negated) _ c.in_ok-judge.ensures c.in_ok-value.ensures.ok c.into_inner.ensures c.in_ok-low.ensures c.between.ensures

pub judge_in-returns-in_err-judge : goal.judge_in-returns-in_err-judge
judge_in-returns-in_err-judge t c =
    let p = err_from_is_err_and c.from_residual.result c.from_residual.ensures.1 in
    rw (p.1, p.2) (fault_here (schema_of c.args.collection) (in_op c.args.is_negated) (syntax_of c.args.value.now) (part (syntax_of c.args.first.now) (parts_of (syntaxes_of c.args.others.now))) c.in_err-judge.field-0.0 c.in_err-judge.ensures)

pub judge_in-returns-in_err-first : goal.judge_in-returns-in_err-first
judge_in-returns-in_err-first t c =
    let p = err_from_is_err_and c.from_residual-in_err-first.result c.from_residual-in_err-first.ensures.1 in
    rw (p.1, p.2) (fault_later (schema_of c.args.collection) (in_op c.args.is_negated) (syntax_of c.args.value.now) (part (syntax_of c.args.first.now) (parts_of (syntaxes_of c.args.others.now))) c.in_err-first.field-0.0 c.in_ok-judge.ensures c.in_err-first.ensures)

pub judge_in-returns : goal.judge_in-returns
judge_in-returns t c =
    list_judged (in_op c.args.is_negated) _ c.in_ok-judge.ensures c.in_ok-value.ensures.ok c.into_inner.ensures c.in_ok-first.ensures c.is_in.ensures

pub judge_computed-returns-in_err-judge : goal.judge_computed-returns-in_err-judge
judge_computed-returns-in_err-judge t c =
    let p = err_from_is_err_and c.from_residual.result c.from_residual.ensures.1 in
    rw (p.1, p.2) (fault_here (schema_of c.args.collection) (computed_op (operations_of c.args.others.now)) (syntax_of c.args.first.now) (parts_of (operands_of c.args.others.now)) c.in_err-judge.field-0.0 c.in_err-judge.ensures)

pub judge_computed-returns-in_err-steps : goal.judge_computed-returns-in_err-steps
judge_computed-returns-in_err-steps t c =
    let p = err_from_is_err_and c.from_residual-in_err-steps.result c.from_residual-in_err-steps.ensures.1 in
    rw (p.1, p.2) (fault_later (schema_of c.args.collection) (computed_op (operations_of c.args.others.now)) (syntax_of c.args.first.now) (parts_of (operands_of c.args.others.now)) c.in_err-steps.field-0.0 c.in_ok-judge.ensures c.in_err-steps.ensures)

pub judge_computed-returns : goal.judge_computed-returns
judge_computed-returns t c =
    steps_judged _ c.in_ok-judge.ensures c.in_ok-first.ensures.ok c.into_inner.ensures c.in_ok-steps.ensures c.computed.ensures

pub judge_all-loop-tree-preserved : goal.judge_all-loop-tree-preserved
judge_all-loop-tree-preserved t c =
    let e = parts_from syntax_of c.args.trees.now c.loop-tree.tree-index c.tree-item.result c.loop-tree-test.true c.tree-item.is in
    record {
      completes = completes_more c.loop-tree.all.items c.loop-tree.invariant.completes e c.in_ok-judge.ensures c.in_ok-push.ensures.items;
      first = first_more c.loop-tree.invariant.first e c.in_ok-judge.ensures;
    }

pub judge_all-returns-in_err-judge : goal.judge_all-returns-in_err-judge
judge_all-returns-in_err-judge t c =
    let e = parts_from syntax_of c.args.trees.now c.loop-tree.tree-index c.tree-item.result c.loop-tree-test.true c.tree-item.is in
    let p = err_from_is_err_and c.from_residual.result c.from_residual.ensures.1 in
    rw (p.1, p.2) (fault_among (syntax_of c.tree-item.result) c.in_err-judge.field-0.0 c.loop-tree.invariant.first e c.in_err-judge.ensures)

pub judge_all-returns : goal.judge_all-returns
judge_all-returns t c = completes_all syntax_of _ _ _ c.loop-tree-test.false c.loop-tree.invariant.completes

pub judge_steps-loop-operand-preserved : goal.judge_steps-loop-operand-preserved
judge_steps-loop-operand-preserved t c =
    let e = parts_from (λ u. syntax_of u.tree) c.args.operands.now c.loop-operand.operand-index c.operand-item.result c.loop-operand-test.true c.operand-item.is in
    record {
      completes = completes_more (parts_judged c.loop-operand.steps.items) c.loop-operand.invariant.completes e c.in_ok-part.ensures
          (ap parts_judged c.in_ok-push.ensures.items ∙ parts_more c.loop-operand.steps.items _);
      first = first_more c.loop-operand.invariant.first e c.in_ok-part.ensures;
      by = by_more (operations_judged c.loop-operand.steps.items) c.operand-item.result.by c.loop-operand.invariant.by
          (operations_from c.args.operands.now c.loop-operand.operand-index c.operand-item.result c.loop-operand-test.true c.operand-item.is)
          (ap operations_judged c.in_ok-push.ensures.items ∙ operations_more c.loop-operand.steps.items _);
    }

pub judge_steps-returns-in_err-part : goal.judge_steps-returns-in_err-part
judge_steps-returns-in_err-part t c =
    let e = parts_from (λ u. syntax_of u.tree) c.args.operands.now c.loop-operand.operand-index c.operand-item.result c.loop-operand-test.true c.operand-item.is in
    let p = err_from_is_err_and c.from_residual.result c.from_residual.ensures.1 in
    rw (p.1, p.2) (fault_among (syntax_of c.operand-item.result.tree) c.in_err-part.field-0.0 c.loop-operand.invariant.first e c.in_err-part.ensures)

pub judge_steps-returns : goal.judge_steps-returns
judge_steps-returns t c = record {
  mean = completes_all (λ u. syntax_of u.tree) _ _ _ c.loop-operand-test.false c.loop-operand.invariant.completes;
  by = by_all c.args.operands.now c.loop-operand.operand-index _ _ c.loop-operand-test.false c.loop-operand.invariant.by;
}
