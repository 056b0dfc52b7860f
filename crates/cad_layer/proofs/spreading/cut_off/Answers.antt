use Rattle.std.proofs.Common.{◌∙◌, ap, drop, filter, rules, subst, sym, take}
use Rattle.std.specs.List.Sorted.{IsStrictlySortedBy}
use Rattle.std.proofs.lemmas.List.Sorted.{IsPartitionPoint-from_clause}
use Rattle.cad_feature.specs.Features.{by_identifier}
use Rattle.cad_layer.specs.Segments.{is_from, left_of, own_of}
use Rattle.cad_layer.proofs.CuttingLemmas.{below_parted, cut_before, cut_behind, is_below}
use Rattle.cad_layer.proofs.spreading.cut_off.Goals as goal

pub returns-clause-own : goal.returns-clause-own
returns-clause-own c =
    let k = c.start-start.result in
    let xs = c.deref.result.now in
    let at = c.partition_point-at.result in
    let seen = c.deref.ensures.value in
    let split = IsPartitionPoint-from_clause (is_below k) xs at c.partition_point-at.ensures.partitioned (below_parted k xs (subst (IsStrictlySortedBy by_identifier) (sym seen) c.requires)) (λ a r f' j. search rules) in
    c.in_ok-left.ensures.items ∙ ap (take at) (sym seen) ∙ cut_before k xs at split ∙ ap (filter (is_below k)) seen
    ∙ ap (λ j. filter (is_below j) c.args.touched.now.items) c.start-start.ensures ∙ ap (λ l. own_of l c.args.touched.now.items) (sym c.in-Some.ensures.cases.0)

pub returns-clause-left : goal.returns-clause-left
returns-clause-left c =
    let k = c.start-start.result in
    let xs = c.deref.result.now in
    let at = c.partition_point-at.result in
    let seen = c.deref.ensures.value in
    let split = IsPartitionPoint-from_clause (is_below k) xs at c.partition_point-at.ensures.partitioned (below_parted k xs (subst (IsStrictlySortedBy by_identifier) (sym seen) c.requires)) (λ a r f' j. search rules) in
    c.in_ok-left.ensures.tail ∙ ap (drop at) (sym seen) ∙ cut_behind k xs at split ∙ ap (filter (is_from k)) seen
    ∙ ap (λ j. filter (is_from j) c.args.touched.now.items) c.start-start.ensures ∙ ap (λ l. left_of l c.args.touched.now.items) (sym c.in-Some.ensures.cases.0)
