use Rattle.std.proofs.Common.{◌/◌, ap}
use Rattle.cad_feature.proofs.StretchLemmas.{in_order, near_all}
use Rattle.cad_feature.proofs.objects.Objects.near.Goals as goal

pub slice_bounds-result-count : goal.slice_bounds-result-count
slice_bounds-result-count c = in_order c.args.self.now.width _ c.args.self.now.versions.now c.start-start.result c.end-end.result c.start-start.ensures.within c.start-start.ensures.before c.end-end.ensures.after

pub slice_bounds-result-start : goal.slice_bounds-result-start
slice_bounds-result-start c = in_order c.args.self.now.width _ c.args.self.now.versions.now c.start-start.result c.end-end.result c.start-start.ensures.within c.start-start.ensures.before c.end-end.ensures.after

pub returns-clause-all : goal.returns-clause-all
returns-clause-all c =
    let width = c.args.self.now.width in
    let vs = c.args.self.now.versions.now in
    let h = in_order width _ vs c.start-start.result c.end-end.result c.start-start.ensures.within c.start-start.ensures.before c.end-end.ensures.after in
    near_all width _ c.args.object vs c.start-start.result c.end-end.result (ap (λ n. n / width) c.number.ensures.value) h c.start-start.ensures.before c.end-end.ensures.after
