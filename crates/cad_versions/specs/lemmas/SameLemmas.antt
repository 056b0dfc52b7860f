-- Values with the same ordinary fields are one value, since each of their facts has only one proof.
use Rattle.std.proofs.Common.{◌≡◌, ℕ, ◌≤◌, false, ◌==◌, List, [], ◌∷◌, ◌++◌, length, inl, inr, refl, sym, ap, ap₂, ◌∙◌, subst, arith}
use Rattle.std.specs.Int.{to_be_bytes, w16}
use Rattle.std.specs.Coded.{le_prop, Coded-set, coded_bool}
use Rattle.std.specs.List.{list_any}
use Rattle.std.specs.Prelude.{IsUtf8}
use Rattle.cad_shape.specs.declared.polygon.Region.{Region}
use Rattle.cad_shape.specs.RegionRings.{rings_of, same_region}
use Rattle.cad_versions.specs.declared.object_id.ObjectId.{ObjectId}
use Rattle.cad_versions.specs.declared.words.Words.{Words}
use Rattle.cad_versions.specs.declared.share.Share.{Share}
use Rattle.cad_versions.specs.Limits.{most_number}
use Rattle.cad_versions.specs.Objects.{object_number}
use Rattle.cad_versions.specs.Texts.{bytes_of}
use Rattle.cad_versions.specs.Fractions.{num_of, den_of}
use Rattle.cad_versions.specs.ShapeBytes.{rings_bytes, counted_rings_bytes, shape_bytes, IsOneRingOf, IsShapeOf}
use Rattle.cad_versions.specs.lemmas.ShapeLemmas.{back_same}
use Rattle.cad_versions.specs.lemmas.RingLemmas.{same_front_ring, rings_same}

pub same_object : (a b : ObjectId) → object_number a ≡ object_number b → a ≡ b
same_object a b e =
    subst (λ n. (p : 1 ≤ n) (q : n ≤ most_number) → a ≡ record { number = n; positive = p; small = q }) e
    (λ p q. ap₂ (λ p q. record { number = a.number; positive = p; small = q }) (le_prop a.positive p) (le_prop a.small q)) b.positive b.small

pub same_share : (a b : Share) → num_of a ≡ num_of b → den_of a ≡ den_of b → a ≡ b
same_share a b e f =
    subst (λ (m : ℕ). (p : 1 ≤ m) (q : m ≤ b.den) → a ≡ record { num = m; den = b.den; some = p; within = q; small = b.small }) e
    (λ p q. subst (λ (n : ℕ). (q : a.num ≤ n) (r : n ≤ 1000000000) → a ≡ record { num = a.num; den = n; some = p; within = q; small = r }) f
    (λ q r. ap₂ (λ (p : 1 ≤ a.num) (s : (a.num ≤ a.den) × (a.den ≤ 1000000000)). record { num = a.num; den = a.den; some = p; within = s.0; small = s.1 }) (le_prop a.some p)
    (ap₂ (λ (q : a.num ≤ a.den) (r : a.den ≤ 1000000000). (q, r)) (le_prop a.within q) (le_prop a.small r))) q b.small) b.some b.within

text_prop : (bytes : List ℕ) → IsProp (list_any (λ b. b == 0) bytes ≡ false)
text_prop bytes = Coded-set coded_bool _ _

pub same_words : (a b : Words) → bytes_of a ≡ bytes_of b → a ≡ b
same_words a b e =
    subst (λ t. (p : 1 ≤ length t) (q : length t ≤ 200) (r : list_any (λ b. b == 0) t ≡ false) (s : ∥ IsUtf8 t ∥₁) → a ≡ record { spelling = t; some = p; few = q; printable = r; utf8 = s }) e
    (λ p q r s. ap₂ (λ (u : (1 ≤ length a.spelling) × (length a.spelling ≤ 200)) (v : (list_any (λ b. b == 0) a.spelling ≡ false) × ∥ IsUtf8 a.spelling ∥₁).
    record { spelling = a.spelling; some = u.0; few = u.1; printable = v.0; utf8 = v.1 })
    (ap₂ (λ (p : 1 ≤ length a.spelling) (q : length a.spelling ≤ 200). (p, q)) (le_prop a.some p) (le_prop a.few q))
    (ap₂ (λ (r : list_any (λ b. b == 0) a.spelling ≡ false) (s : ∥ IsUtf8 a.spelling ∥₁). (r, s)) (text_prop a.spelling a.printable r) (squash₁ a.utf8 s))) b.some b.few b.printable b.utf8

counted_same : (a b : Region) → counted_rings_bytes (rings_of a) ≡ counted_rings_bytes (rings_of b) → a ≡ b
counted_same a b e =
    same_region a b (rings_same (rings_of a) (rings_of b) (back_same (to_be_bytes w16 (length (rings_of a))) (to_be_bytes w16 (length (rings_of b))) (rings_bytes (rings_of a)) (rings_bytes (rings_of b)) refl e))

alone_same : (bytes : List ℕ) (a b : Region) → IsOneRingOf bytes a → IsOneRingOf bytes b → a ≡ b
alone_same bytes a b s t =
    let rings : s.0 ≡ t.0 = (same_front_ring s.0 t.0 [] [] (ap (λ l. l ++ []) (sym s.2 ∙ t.2))).0 in
    same_region a b (s.1 ∙ ap (λ ring. ring ∷ []) rings ∙ sym t.1)

pub one_shape : (bytes : List ℕ) (a b : Region) → IsShapeOf bytes a → IsShapeOf bytes b → a ≡ b
one_shape [] a b s t = absurd s
one_shape (form ∷ bytes) a b (inl s) (inl t) = alone_same bytes a b s.1 t.1
one_shape (form ∷ bytes) a b (inr s) (inr t) = counted_same a b (sym s.1 ∙ t.1)
one_shape (form ∷ bytes) a b (inl s) (inr t) = absurd (omega (arith, s.0, t.0))
one_shape (form ∷ bytes) a b (inr s) (inl t) = absurd (omega (arith, s.0, t.0))

-- the written bytes encode the shape
pub written_shape : (region : Region) → IsShapeOf (shape_bytes region) region
written_shape region = inr (refl, refl)
