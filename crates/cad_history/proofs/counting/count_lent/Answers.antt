use Rattle.std.proofs.Common.{◌+◌, ap, arith}
use Rattle.std.proofs.lemmas.List.{nil_from_length}
use Rattle.cad_history.specs.inner.Counted.{is_counted}
use Rattle.cad_history.proofs.CountLemmas.{all_counted, counted_in, few_counted, one_counted}
use Rattle.cad_history.proofs.counting.count_lent.Goals as goal

pub loop-layer-init : goal.loop-layer-init
loop-layer-init c = record {
  so_far = ap (λ n. n + counted_in (is_counted c.args.counted) c.args.past.revision c.args.past.earlier.now) c.count_rows-count.ensures;
}

pub overflow_add-count : goal.overflow_add-count
overflow_add-count c =
    let p = is_counted c.args.counted in
    omega (arith, one_counted p c.args.past.revision _ _ _ _ _ _ c.in-Some.ensures.cases.0 c.count_rows-count-in-Some.ensures c.loop-layer.invariant.so_far, few_counted p c.args.newest.now c.args.past c.requires)

pub loop-layer-preserved : goal.loop-layer-preserved
loop-layer-preserved c = record {
  so_far = one_counted (is_counted c.args.counted) c.args.past.revision _ _ _ _ _ _ c.in-Some.ensures.cases.0 c.count_rows-count-in-Some.ensures c.loop-layer.invariant.so_far;
}

pub returns : goal.returns
returns c =
    let p = is_counted c.args.counted in
    omega (arith, c.loop-layer.invariant.so_far, ap (counted_in p c.args.past.revision) (nil_from_length c.loop-layer.rest.now c.in_default.ensures.cases), all_counted p c.args.newest.now c.args.past c.requires c.collection-collection.ensures.listed.ascending)
