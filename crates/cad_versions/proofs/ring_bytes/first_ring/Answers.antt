use Rattle.std.proofs.Common.{◌≡◌, ◌++◌, sym, ap₂, subst, ◌∙◌, arith, take-append-drop}
use Rattle.cad_shape.specs.Outlines.{IsRing}
use Rattle.cad_shape.specs.Rings.{corners_of, ring_is}
use Rattle.cad_versions.specs.ShapeBytes.{corners_bytes}
use Rattle.cad_versions.specs.lemmas.ShapeLemmas.{corners_same}
use Rattle.cad_versions.specs.lemmas.RingLemmas.{corners_fit, corners_taken, ring_read}
use Rattle.cad_versions.proofs.ring_bytes.first_ring.Goals as goal

pub returns-in_default-split_at_checked : goal.returns-in_default-split_at_checked
returns-in_default-split_at_checked c ring more e =
    absurd (omega (arith, corners_fit c.in-Some.count c.in-Some.rest.now ring more c.in-Some.ensures.1 (sym c.in-Some.ensures.0 ∙ e), c.in_default-split_at_checked.ensures.cases))

pub returns-in_default-2 : goal.returns-in_default-2
returns-in_default-2 c ring more e =
    (rw c.in_default-2.is at c.in_ok-corners.ensures) (corners_of ring) (c.in-Some-split_at_checked.ensures.cases.1 ∙ corners_taken c.in-Some.count c.in-Some.rest.now ring more c.in-Some.ensures.1 (sym c.in-Some.ensures.0 ∙ e))

pub returns-in-Some-ring_through : goal.returns-in-Some-ring_through
returns-in-Some-ring_through c =
    let front = c.in-Some-split_at_checked.front.now in
    let behind = c.in-Some-split_at_checked.behind.now in
    let corners = c.in-Some-2.corners.items in
    let split : c.in-Some.rest.now ≡ front ++ behind = sym (take-append-drop _ _) ∙ ap₂ ◌++◌ (sym c.in-Some-split_at_checked.ensures.cases.1) (sym c.in-Some-split_at_checked.ensures.cases.2) in
    let held : front ≡ corners_bytes corners = rw c.in-Some-2.is at c.in_ok-corners.ensures in
    ring_read c.in-Some.count c.args.bytes.now c.in-Some.rest.now front behind corners c.in-Some-ring_through.ring c.in-Some.ensures.0 split c.in-Some-split_at_checked.ensures.cases.3 held c.in-Some-ring_through.ensures

pub returns-in-None : goal.returns-in-None
returns-in-None c ring more e =
    let corners = c.in-Some-2.corners.items in
    let held : c.in-Some-split_at_checked.front.now ≡ corners_bytes corners = rw c.in-Some-2.is at c.in_ok-corners.ensures in
    let taken = corners_taken c.in-Some.count c.in-Some.rest.now ring more c.in-Some.ensures.1 (sym c.in-Some.ensures.0 ∙ e) in
    c.in-None.ensures (subst IsRing (sym (corners_same corners (corners_of ring) (sym held ∙ c.in-Some-split_at_checked.ensures.cases.1 ∙ taken))) (ring_is ring))
