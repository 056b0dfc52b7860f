use Rattle.std.proofs.Common.{slice_index_or, ap, ◌∙◌}
use Rattle.std.proofs.lemmas.List.{get_or_default}
use Rattle.cad_shape.specs.declared.point.Point.{Point}
use Rattle.cad_shape.specs.Crossings.{origin}
use Rattle.cad_shape.proofs.ExtremeLemmas.{least_from}
use Rattle.cad_shape.proofs.Fields.{back_x, back_y}
use Rattle.cad_shape.proofs.extremes.Extremes.bounds.Goals as goal

pub returns : goal.returns
returns c =
    let points = c.args.points.now in
    let e = c.args.self in
    let west = c.index-points-self.result in
    let south = c.index-points-self-2.result in
    let east = c.index-points-self-3.result in
    let north = c.index-points-self-4.result in
    least_from points e c.requires _
    (back_x (slice_index_or points e.west west) ∙ ap (λ (p : Point). p.x) (get_or_default points e.west west origin c.requires.west.0))
    (back_y (slice_index_or points e.south south) ∙ ap (λ (p : Point). p.y) (get_or_default points e.south south origin c.requires.south.0))
    (back_x (slice_index_or points e.east east) ∙ ap (λ (p : Point). p.x) (get_or_default points e.east east origin c.requires.east.0))
    (back_y (slice_index_or points e.north north) ∙ ap (λ (p : Point). p.y) (get_or_default points e.north north origin c.requires.north.0))
