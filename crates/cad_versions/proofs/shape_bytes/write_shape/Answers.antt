use Rattle.std.proofs.Common.{◌≡◌, ◌∷◌, ◌++◌, [], ◌+◌, length, take, sym, ap, ◌∙◌, append_assoc, append-nil}
use Rattle.std.specs.Int.{to_be_bytes, w16}
use Rattle.std.proofs.lemmas.List.{take_more}
use Rattle.cad_versions.specs.ShapeBytes.{ring_bytes, rings_bytes}
use Rattle.cad_versions.specs.lemmas.RingLemmas.{rings_bytes-append}
use Rattle.cad_versions.proofs.shape_bytes.write_shape.Goals as goal

pub loop-ring-preserved : goal.loop-ring-preserved
loop-ring-preserved c =
    let rings = c.rings-rings.result.now in
    let at = c.loop-ring.ring-index in
    let ring = c.ring-item.result in
    let front = 2 ∷ to_be_bytes w16 (length rings) in
    let more : rings_bytes (take (at + 1) rings) ≡ rings_bytes (take at rings) ++ ring_bytes ring =
    ap rings_bytes (take_more rings at ring c.loop-ring-test.true ∙ ap (λ x. take at rings ++ x ∷ []) (sym c.ring-item.is)) ∙ rings_bytes-append (take at rings) (ring ∷ []) ∙ ap (λ l. rings_bytes (take at rings) ++ l) (append-nil _) in
    c.in_ok-push_ring.ensures ∙ ap (λ l. l ++ ring_bytes ring) c.loop-ring.invariant ∙ append_assoc front (rings_bytes (take at rings)) (ring_bytes ring) ∙ ap (λ l. front ++ l) (sym more)
