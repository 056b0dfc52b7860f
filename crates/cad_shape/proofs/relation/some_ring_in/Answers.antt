use Rattle.std.proofs.Common.{refl}
use Rattle.std.proofs.lemmas.Bool.{false≢true}
use Rattle.cad_shape.specs.declared.point.Point.{Point}
use Rattle.cad_shape.specs.Shapes.{IsIn, lent_shape}
use Rattle.cad_shape.proofs.RestOfRings.{some_corner, none_here, one_here}
use Rattle.cad_shape.proofs.relation.some_ring_in.Goals as goal

pub returns-then-some_in : goal.returns-then-some_in
returns-then-some_in c =
    let p = some_corner (λ (q : Point). IsIn q (lent_shape c.args.shape)) c.args.rings.now c.loop-ring.ring-index c.ring-item.result c.loop-ring-test.true c.ring-item.is in
    (λ t. one_here c.loop-ring.invariant p (rw c.corners.ensures at c.if-some_in.ensures.0 refl), λ m. refl)

pub loop-ring-preserved : goal.loop-ring-preserved
loop-ring-preserved c =
    let p = some_corner (λ (q : Point). IsIn q (lent_shape c.args.shape)) c.args.rings.now c.loop-ring.ring-index c.ring-item.result c.loop-ring-test.true c.ring-item.is in
    none_here c.loop-ring.invariant p (λ m. false≢true (c.if-some_in.ensures.1 (rw c.corners.ensures m)))
