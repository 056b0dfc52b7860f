use Rattle.std.proofs.Common.{◌≡◌, ◌==◌, ◌++◌, ap, length, true, arith}
use Rattle.cad_versions.specs.ShapeBytes.{ring_bytes}
use Rattle.cad_versions.specs.lemmas.RingLemmas.{no_rings, ring_taken, ring_is_long}
use Rattle.cad_versions.proofs.shape_bytes.all_rings.Goals as goal

pub returns-in_default : goal.returns-in_default
returns-in_default c rings e =
    no_rings c.loop-rest.rings.items c.args.bytes.now c.loop-rest.rest.now (λ none. let empty : (length c.loop-rest.rest.now == 0) ≡ true = ap (λ l. length l == 0) none in absurd cc) (rw c.in_default.is at c.in_ok-ring.ensures) c.loop-rest.invariant rings e

pub loop-rest-smaller : goal.loop-rest-smaller
loop-rest-smaller c =
    let here : c.loop-rest.rest.now ≡ ring_bytes c.in-Some.ring ++ c.in-Some.behind.now = rw c.in-Some.is at c.in_ok-ring.ensures in
    omega (arith, ring_is_long c.in-Some.ring c.in-Some.behind.now, ap length here)

pub loop-rest-preserved : goal.loop-rest-preserved
loop-rest-preserved c =
    let here : c.loop-rest.rest.now ≡ ring_bytes c.in-Some.ring ++ c.in-Some.behind.now = rw c.in-Some.is at c.in_ok-ring.ensures in
    rw c.in_ok-push.ensures.items (ring_taken c.loop-rest.rings.items c.in-Some.ring c.args.bytes.now c.loop-rest.rest.now c.in-Some.behind.now c.loop-rest.invariant here)
