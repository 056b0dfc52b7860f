-- Rings are read as they were written.
use Rattle.std.proofs.Common.{◌≡◌, ◌≢◌, ℕ, ◌+◌, ◌*◌, ◌<◌, ◌≤◌, ◌^◌, List, [], ◌∷◌, ◌++◌, length, take, refl, sym, ap, ap₂, ◌∙◌, arith, append_assoc, append-nil, length-append}
use Rattle.std.specs.Int.{to_be_bytes, w16}
use Rattle.std.proofs.Math.Seq.{take-append_seam}
use Rattle.cad_shape.specs.declared.point.Point.{Point}
use Rattle.cad_shape.specs.declared.ring.Ring.{Ring}
use Rattle.cad_shape.specs.Rings.{corners_of, same_ring}
use Rattle.cad_versions.specs.ShapeBytes.{corner_bytes, corners_bytes, ring_bytes, rings_bytes, counted_rings_bytes}
use Rattle.cad_versions.specs.lemmas.ShapeLemmas.{length-corner_bytes, corners_same, count_same, front_same, back_same}

pub length-corners_bytes : (ps : List Point) → length (corners_bytes ps) ≡ 16 * length ps
length-corners_bytes [] = refl
length-corners_bytes (p ∷ ps) = omega (arith, length-append (corner_bytes p) (corners_bytes ps), length-corner_bytes p, length-corners_bytes ps)

-- the number of corners and their bytes, at the front of bytes that begin with a ring
pub ring_at_front : (count : ℕ) (rest : List ℕ) (ring : Ring) (more : List ℕ) → count < 2 ^ 16 → to_be_bytes w16 count ++ rest ≡ ring_bytes ring ++ more → (count ≡ length (corners_of ring)) × (rest ≡ corners_bytes (corners_of ring) ++ more)
ring_at_front count rest ring more small e =
    let few = ring.not_too_many in
    count_same count (length (corners_of ring)) rest (corners_bytes (corners_of ring) ++ more) small (omega arith) (e ∙ append_assoc (to_be_bytes w16 (length (corners_of ring))) (corners_bytes (corners_of ring)) more)

-- bytes that begin with a ring begin with no other ring
pub same_front_ring : (a b : Ring) (us vs : List ℕ) → ring_bytes a ++ us ≡ ring_bytes b ++ vs → (a ≡ b) × (us ≡ vs)
same_front_ring a b us vs e =
    let few = a.not_too_many in
    let parts = ring_at_front (length (corners_of a)) (corners_bytes (corners_of a) ++ us) b vs (omega arith) (sym (append_assoc (to_be_bytes w16 (length (corners_of a))) (corners_bytes (corners_of a)) us) ∙ e) in
    let long : length (corners_bytes (corners_of a)) ≡ length (corners_bytes (corners_of b)) = length-corners_bytes (corners_of a) ∙ ap (λ n. 16 * n) parts.0 ∙ sym (length-corners_bytes (corners_of b)) in
    (same_ring a b (corners_same (corners_of a) (corners_of b) (front_same _ _ us vs long parts.1)), back_same _ _ us vs long parts.1)

-- a ring takes at least two bytes
pub ring_is_long : (ring : Ring) (more : List ℕ) → 2 + length more ≤ length (ring_bytes ring ++ more)
ring_is_long ring more =
    let count = to_be_bytes w16 (length (corners_of ring)) in
    let corners = corners_bytes (corners_of ring) in
    let two : length count ≡ 2 = refl in
    omega (arith, length-append (count ++ corners) more, length-append count corners, two)

not_empty : (ring : Ring) (us : List ℕ) → ring_bytes ring ++ us ≡ [] → ⊥
not_empty ring us e = absurd (omega (arith, ring_is_long ring us, ap length e))

pub rings_bytes-append : (xs ys : List Ring) → rings_bytes (xs ++ ys) ≡ rings_bytes xs ++ rings_bytes ys
rings_bytes-append [] ys = refl
rings_bytes-append (x ∷ xs) ys = ap (λ l. ring_bytes x ++ l) (rings_bytes-append xs ys) ∙ sym (append_assoc (ring_bytes x) (rings_bytes xs) (rings_bytes ys))

-- if the bytes of a list of rings begin with those of another list, so does the list, and the rest of the bytes are those of its rest
pub rings_left : (xs rs : List Ring) (rest : List ℕ) → rings_bytes xs ++ rest ≡ rings_bytes rs → (qs : List Ring) × (rest ≡ rings_bytes qs) × (rs ≡ xs ++ qs)
rings_left [] rs rest e = (rs, e, refl)
rings_left (x ∷ xs) [] rest e = absurd (not_empty x (rings_bytes xs ++ rest) (sym (append_assoc (ring_bytes x) (rings_bytes xs) rest) ∙ e))
rings_left (x ∷ xs) (r ∷ rs) rest e =
    let both = same_front_ring x r (rings_bytes xs ++ rest) (rings_bytes rs) (sym (append_assoc (ring_bytes x) (rings_bytes xs) rest) ∙ e) in
    let more = rings_left xs rs rest both.1 in
    (more.0, more.1, ap₂ ◌∷◌ (sym both.0) more.2)

pub rings_same : (xs rs : List Ring) → rings_bytes xs ≡ rings_bytes rs → xs ≡ rs
rings_same xs rs e =
    let more = rings_left xs rs [] (append-nil _ ∙ e) in
    sym (more.2 ∙ ap (λ l. xs ++ l) (none_left more.0 more.1) ∙ append-nil xs)
  where
    none_left : (qs : List Ring) → [] ≡ rings_bytes qs → qs ≡ []
    none_left [] e = refl
    none_left (q ∷ qs) e = absurd (not_empty q (rings_bytes qs) (sym e))

-- if no ring begins at the rest, the bytes are not those of rings
pub no_rings : (xs : List Ring) (bytes rest : List ℕ) → rest ≢ [] → ((ring : Ring) (more : List ℕ) → rest ≢ ring_bytes ring ++ more) → bytes ≡ rings_bytes xs ++ rest → (rs : List Ring) → bytes ≢ rings_bytes rs
no_rings xs bytes rest some none is rs e = let left = rings_left xs rs rest (sym is ∙ e) in go left.0 left.1
  where
    go : (qs : List Ring) → rest ≡ rings_bytes qs → ⊥
    go [] e = some e
    go (q ∷ qs) e = none q (rings_bytes qs) e

-- one more ring
pub ring_taken : (xs : List Ring) (ring : Ring) (bytes rest more : List ℕ) → bytes ≡ rings_bytes xs ++ rest → rest ≡ ring_bytes ring ++ more → bytes ≡ rings_bytes (xs ++ ring ∷ []) ++ more
ring_taken xs ring bytes rest more is here =
    is ∙ ap (λ l. rings_bytes xs ++ l) here ∙ sym (append_assoc (rings_bytes xs) (ring_bytes ring) more)
    ∙ ap (λ l. (rings_bytes xs ++ l) ++ more) (sym (append-nil (ring_bytes ring))) ∙ ap (λ l. l ++ more) (sym (rings_bytes-append xs (ring ∷ [])))

-- the number of rings and their bytes
pub rings_counted : (count : ℕ) (rest : List ℕ) (rings : List Ring) → count < 2 ^ 16 → length rings ≤ 100 → to_be_bytes w16 count ++ rest ≡ counted_rings_bytes rings → (count ≡ length rings) × (rest ≡ rings_bytes rings)
rings_counted count rest rings small few e = count_same count (length rings) rest (rings_bytes rings) small (omega arith) e

-- ---- a ring by the number of its corners

-- the bytes after the count are at least as long as the corners
pub corners_fit : (count : ℕ) (rest : List ℕ) (ring : Ring) (more : List ℕ) → count < 2 ^ 16 → to_be_bytes w16 count ++ rest ≡ ring_bytes ring ++ more → 16 * count ≤ length rest
corners_fit count rest ring more small e =
    let at = ring_at_front count rest ring more small e in
    omega (arith, at.0, ap length at.1, length-append (corners_bytes (corners_of ring)) more, length-corners_bytes (corners_of ring))

-- and the bytes that are taken for them are theirs
pub corners_taken : (count : ℕ) (rest : List ℕ) (ring : Ring) (more : List ℕ) → count < 2 ^ 16 → to_be_bytes w16 count ++ rest ≡ ring_bytes ring ++ more → take (16 * count) rest ≡ corners_bytes (corners_of ring)
corners_taken count rest ring more small e =
    let at = ring_at_front count rest ring more small e in
    let long : 16 * count ≡ length (corners_bytes (corners_of ring)) = ap (λ n. 16 * n) at.0 ∙ sym (length-corners_bytes (corners_of ring)) in
    ap₂ take long at.1 ∙ take-append_seam (corners_bytes (corners_of ring)) more

-- the ring of corners that were taken
pub ring_read : (count : ℕ) (bytes rest front behind : List ℕ) (corners : List Point) (ring : Ring) → bytes ≡ to_be_bytes w16 count ++ rest → rest ≡ front ++ behind → length front ≡ 16 * count → front ≡ corners_bytes corners → corners_of ring ≡ corners → bytes ≡ ring_bytes ring ++ behind
ring_read count bytes rest front behind corners ring is split long held of =
    let counted : count ≡ length corners = omega (arith, long, ap length held, length-corners_bytes corners) in
    is ∙ ap₂ (λ n l. to_be_bytes w16 n ++ l) (counted ∙ ap length (sym of)) (split ∙ ap (λ l. l ++ behind) (held ∙ ap corners_bytes (sym of)))
    ∙ sym (append_assoc (to_be_bytes w16 (length (corners_of ring))) (corners_bytes (corners_of ring)) behind)
