use Rattle.std.proofs.Common.{List, subst}
use Rattle.cad_shape.specs.declared.point.Point.{Point}
use Rattle.cad_shape.specs.Frames.{IsLeastBounds}
use Rattle.cad_shape.specs.RegionRings.{rings_of}
use Rattle.cad_shape.proofs.RegionLemmas.{all_held}
use Rattle.cad_shape.proofs.polygon.Region.bounds.Goals as goal

pub returns-clause-outer : goal.returns-clause-outer
returns-clause-outer c = subst (λ (cs : List Point). IsLeastBounds c.bounds.result cs) c.outer.ensures c.bounds.ensures

pub returns-clause-all : goal.returns-clause-all
returns-clause-all c =
    let region = c.args.self.now in
    all_held c.bounds.result (rings_of region) region.inside (subst (λ (cs : List Point). IsLeastBounds c.bounds.result cs) c.outer.ensures c.bounds.ensures)
