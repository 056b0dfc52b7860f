use Rattle.std.proofs.Common.{◌≡◌, ◌∷◌, ◌++◌, [], ◌+◌, length, take, sym, ap, ◌∙◌, append_assoc, append-nil}
use Rattle.std.specs.Int.{to_be_bytes, w16}
use Rattle.std.proofs.lemmas.List.{take_more}
use Rattle.cad_versions.specs.ShapeBytes.{corner_bytes, corners_bytes}
use Rattle.cad_versions.specs.lemmas.ShapeLemmas.{corners_bytes-append}
use Rattle.cad_versions.proofs.ring_bytes.push_ring.Goals as goal

pub loop-corner-preserved : goal.loop-corner-preserved
loop-corner-preserved c =
    let corners = c.corners-corners.result.now in
    let at = c.loop-corner.corner-index in
    let corner = c.corner-item.result in
    let front = c.args.bytes.now.items ++ to_be_bytes w16 (length corners) in
    let more : corners_bytes (take (at + 1) corners) ≡ corners_bytes (take at corners) ++ corner_bytes corner =
    ap corners_bytes (take_more corners at corner c.loop-corner-test.true ∙ ap (λ x. take at corners ++ x ∷ []) (sym c.corner-item.is)) ∙ corners_bytes-append (take at corners) (corner ∷ []) ∙ ap (λ l. corners_bytes (take at corners) ++ l) (append-nil _) in
    c.in_ok-push_corner.ensures ∙ ap (λ l. l ++ corner_bytes corner) c.loop-corner.invariant ∙ append_assoc front (corners_bytes (take at corners)) (corner_bytes corner) ∙ ap (λ l. front ++ l) (sym more)
