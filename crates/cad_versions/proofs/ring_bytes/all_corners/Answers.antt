use Rattle.std.proofs.Common.{◌≡◌, ◌==◌, ap, length, true}
use Rattle.cad_versions.specs.lemmas.ShapeLemmas.{no_corners, corner_taken, corner_is_long}
use Rattle.cad_versions.proofs.ring_bytes.all_corners.Goals as goal

pub returns-in_default : goal.returns-in_default
returns-in_default c corners e =
    no_corners c.loop-rest.corners.items c.args.bytes.now c.loop-rest.rest.now (λ none. let empty : (length c.loop-rest.rest.now == 0) ≡ true = ap (λ l. length l == 0) none in absurd cc) c.in_default.ensures c.loop-rest.invariant corners e

pub loop-rest-smaller : goal.loop-rest-smaller
loop-rest-smaller c = corner_is_long c.in-Some.corner c.loop-rest.rest.now c.in-Some.behind.now c.in-Some.ensures

pub loop-rest-preserved : goal.loop-rest-preserved
loop-rest-preserved c = rw c.in_ok-push.ensures.items (corner_taken c.loop-rest.corners.items c.in-Some.corner c.args.bytes.now c.loop-rest.rest.now c.in-Some.behind.now c.loop-rest.invariant c.in-Some.ensures)
