-- Walks round rings, and their edges.
use Rattle.std.proofs.Common.{◌↔◌, IsTrue, Bool, ℕ, zero, suc, ◌+◌, ◌-◌, ◌≡◌, ◌<◌, ◌%◌, ◌⊎◌, inl, inr, ⊎_elim, pos, List, [], ◌∷◌, ◌++◌, length, get_or, refl, sym, ap, ◌∙◌, subst, arith, length-append}
use Rattle.std.proofs.lemmas.List.{get_or_append_left, get_or_push}
use Rattle.cad_shape.specs.Segments.{IsBetween, turn}
use Rattle.cad_shape.specs.Edges.{Edge, AnyOf, walk, edges_of, end_of}
use Rattle.cad_shape.specs.Regions.{IsOnEdge, crossings, IsInRegion}
use Rattle.cad_shape.specs.Areas.{doubled_area}
use Rattle.cad_shape.specs.Crossings.{origin, edge_at}
use Rattle.cad_shape.specs.declared.point.Point.{Point}
use Rattle.cad_shape.proofs.Signs.{sums}
use Rattle.cad_shape.proofs.SharedPoints.{one_times}

pub edge_turn : (t p q : Point) → IsOnEdge t p q → turn p q t ≡ pos 0
edge_turn t p q h = let e = simp one_times at h.line in omega (arith, sums)

pub edge_x : (t p q : Point) → IsOnEdge t p q → IsBetween p.x q.x t.x
edge_x t p q h = simp one_times at h.in_x

pub edge_y : (t p q : Point) → IsOnEdge t p q → IsBetween p.y q.y t.y
edge_y t p q h = simp one_times at h.in_y

-- ---- some element
pub any_pushed : {X : Type 0} (P : X → Type 0) (xs : List X) (x : X) → AnyOf P (x ∷ xs) → AnyOf P (xs ++ x ∷ [])
any_pushed P [] x h = h
any_pushed P (y ∷ ys) x (inl h) = inr (any_pushed P ys x (inl h))
any_pushed P (y ∷ ys) x (inr (inl h)) = inl h
any_pushed P (y ∷ ys) x (inr (inr h)) = inr (any_pushed P ys x (inr h))

pub any_unpushed : {X : Type 0} (P : X → Type 0) (xs : List X) (x : X) → AnyOf P (xs ++ x ∷ []) → AnyOf P (x ∷ xs)
any_unpushed P [] x h = h
any_unpushed P (y ∷ ys) x (inl h) = inr (inl h)
any_unpushed P (y ∷ ys) x (inr h) = ⊎_elim (λ k. inl k) (λ k. inr (inr k)) (any_unpushed P ys x h)

pub any_mapped : {X : Type 0} (P Q : X → Type 0) → ((x : X) → P x → Q x) → (xs : List X) → AnyOf P xs → AnyOf Q xs
any_mapped P Q f [] h = absurd h
any_mapped P Q f (x ∷ xs) (inl h) = inl (f x h)
any_mapped P Q f (x ∷ xs) (inr h) = inr (any_mapped P Q f xs h)

pub any_split : {X : Type 0} (P : X → Type 0) (xs ys : List X) → AnyOf P (xs ++ ys) → AnyOf P xs ⊎ AnyOf P ys
any_split P [] ys h = inr h
any_split P (x ∷ xs) ys (inl h) = inl (inl h)
any_split P (x ∷ xs) ys (inr h) = ⊎_elim (λ k. inl (inr k)) (λ k. inr k) (any_split P xs ys h)

pub any_before : {X : Type 0} (P : X → Type 0) (xs ys : List X) → AnyOf P xs → AnyOf P (xs ++ ys)
any_before P [] ys h = absurd h
any_before P (x ∷ xs) ys (inl h) = inl h
any_before P (x ∷ xs) ys (inr h) = inr (any_before P xs ys h)

pub any_after : {X : Type 0} (P : X → Type 0) (xs ys : List X) → AnyOf P ys → AnyOf P (xs ++ ys)
any_after P [] ys h = h
any_after P (x ∷ xs) ys h = inr (any_after P xs ys h)

-- ---- an edge more at the end counts as one at the front
pub crossings-push : (t : Point) (es : List Edge) (e : Edge) → crossings t (es ++ e ∷ []) ≡ crossings t (e ∷ es)
crossings-push t [] e = refl
crossings-push t (d ∷ es) e = let h = crossings-push t es e in omega (arith, h)

-- and edges of two lists as those of each
pub crossings-append : (t : Point) (es fs : List Edge) → crossings t (es ++ fs) ≡ crossings t es + crossings t fs
crossings-append t [] fs = omega arith
crossings-append t (e ∷ es) fs = let h = crossings-append t es fs in omega (arith, h)

pub area-push : (es : List Edge) (e : Edge) → doubled_area (es ++ e ∷ []) ≡ doubled_area (e ∷ es)
area-push [] e = refl
area-push (d ∷ es) e = let h = area-push es e in omega (arith, sums, h)

pub region_pushed : (t : Point) (es : List Edge) (e : Edge) → IsInRegion t (e ∷ es) ↔ IsInRegion t (es ++ e ∷ [])
region_pushed t es e = (
  λ h. ⊎_elim (λ k. inl (any_pushed (λ (d : Edge). IsOnEdge t d.from d.to) es e k)) (λ k. inr (ap (λ n. n % 2) (crossings-push t es e) ∙ k)) h,
  λ h. ⊎_elim (λ k. inl (any_unpushed (λ (d : Edge). IsOnEdge t d.from d.to) es e k)) (λ k. inr (ap (λ n. n % 2) (sym (crossings-push t es e)) ∙ k)) h,
)

-- ---- a walk to one point more
pub walk-push : (p r : Point) (qs : List Point) → walk p (qs ++ r ∷ []) ≡ walk p qs ++ record { from = end_of p qs; to = r } ∷ []
walk-push p r [] = refl
walk-push p r (q ∷ qs) = ap (λ es. record { from = p; to = q } ∷ es) (walk-push q r qs)

-- the edge that closes the ring, first
closing : Point → List Point → Edge
closing p qs = record { from = end_of p qs; to = p }

-- what holds of the walk from the last corner, if it may begin with its last edge, holds of the ring's edges
pub closed : (P : List Edge → Type 0) → ((es : List Edge) (e : Edge) → P (e ∷ es) → P (es ++ e ∷ [])) → (p : Point) (qs : List Point) → P (walk (end_of p qs) (p ∷ qs)) → P (edges_of (p ∷ qs))
unfolding closing
closed P f p qs h = rw (walk-push p p qs) (f (walk p qs) (closing p qs) h)

pub opened : (P : List Edge → Type 0) → ((es : List Edge) (e : Edge) → P (es ++ e ∷ []) → P (e ∷ es)) → (p : Point) (qs : List Point) → P (edges_of (p ∷ qs)) → P (walk (end_of p qs) (p ∷ qs))
unfolding closing
opened P f p qs h = f (walk p qs) (closing p qs) (rw (walk-push p p qs) at h)

-- the end of a walk is its last point
end_is : (p : Point) (qs : List Point) (d : Point) → get_or (p ∷ qs) (length qs) d ≡ end_of p qs
end_is p [] d = refl
end_is p (q ∷ qs) d = end_is q qs d

pub last_is : (p : Point) (qs : List Point) (d : Point) → d ≡ get_or (p ∷ qs) (length (p ∷ qs) - 1) d → d ≡ end_of p qs
last_is p qs d e =
    let n : length (p ∷ qs) - 1 ≡ length qs = omega arith in
    e ∙ ap (λ i. get_or (p ∷ qs) i d) n ∙ end_is p qs d

-- the walk from the last corner goes round the ring
pub round : (P : List Edge → Type 0) → ((es : List Edge) (e : Edge) → P (e ∷ es) ↔ P (es ++ e ∷ [])) → (b : Bool) (cs : List Point) (d : Point) → 0 < length cs → d ≡ get_or cs (length cs - 1) d → (IsTrue b ↔ P (walk d cs)) → (IsTrue b ↔ P (edges_of cs))
round P f b [] d h e k = absurd (omega arith)
round P f b (p ∷ qs) d h e k =
    let m : IsTrue b ↔ P (walk (end_of p qs) (p ∷ qs)) = subst (λ (z : Point). IsTrue b ↔ P (walk z (p ∷ qs))) (last_is p qs d e) k in
    (λ t. closed P (λ es d. (f es d).0) p qs (m.0 t), λ t. m.1 (opened P (λ es d. (f es d).1) p qs t))

-- the same without a test
pub round_from : (P : List Edge → Type 0) → ((es : List Edge) (e : Edge) → P (e ∷ es) → P (es ++ e ∷ [])) → (cs : List Point) (d : Point) → 0 < length cs → d ≡ get_or cs (length cs - 1) d → P (walk d cs) → P (edges_of cs)
round_from P f [] d h e k = absurd (omega arith)
round_from P f (p ∷ qs) d h e k = closed P f p qs (subst (λ (z : Point). P (walk z (p ∷ qs))) (last_is p qs d e) k)

pub area_round : (cs : List Point) (d : Point) → 0 < length cs → d ≡ get_or cs (length cs - 1) d → doubled_area (walk d cs) ≡ doubled_area (edges_of cs)
area_round [] d h e = absurd (omega arith)
area_round (p ∷ qs) d h e =
    ap (λ z. doubled_area (walk z (p ∷ qs))) (last_is p qs d e)
    ∙ closed (λ es. doubled_area (walk (end_of p qs) (p ∷ qs)) ≡ doubled_area es) (λ es a i. i ∙ sym (area-push es a)) p qs refl

-- ---- edges by their number
pub length-walk : (p : Point) (qs : List Point) → length (walk p qs) ≡ length qs
length-walk p [] = refl
length-walk p (q ∷ qs) = ap suc (length-walk q qs)

pub length-edges : (cs : List Point) → length (edges_of cs) ≡ length cs
length-edges [] = refl
length-edges (p ∷ qs) = length-walk p (qs ++ p ∷ []) ∙ omega (arith, length-append qs (p ∷ []))

walk_at : (p : Point) (qs : List Point) (i : ℕ) → i < length qs → edge_at (walk p qs) i ≡ record { from = get_or (p ∷ qs) i origin; to = get_or qs i origin }
walk_at p [] i h = absurd (omega arith)
walk_at p (q ∷ qs) zero h = refl
walk_at p (q ∷ qs) (suc i) h = walk_at q qs i (omega arith)

pub from_is : (cs : List Point) (i : ℕ) → i < length cs → (edge_at (edges_of cs) i).from ≡ get_or cs i origin
from_is [] i h = absurd (omega arith)
from_is (p ∷ qs) i h =
    ap (λ (e : Edge). e.from) (walk_at p (qs ++ p ∷ []) i (omega (arith, length-append qs (p ∷ []))))
    ∙ get_or_append_left (p ∷ qs) (p ∷ []) origin i h

pub to_next : (cs : List Point) (i : ℕ) → i + 1 < length cs → (edge_at (edges_of cs) i).to ≡ get_or cs (i + 1) origin
to_next [] i h = absurd (omega arith)
to_next (p ∷ qs) i h =
    ap (λ (e : Edge). e.to) (walk_at p (qs ++ p ∷ []) i (omega (arith, length-append qs (p ∷ []))))
    ∙ get_or_append_left qs (p ∷ []) origin i (omega arith)
    ∙ sym (ap (λ k. get_or (p ∷ qs) k origin) (let e : i + 1 ≡ suc i = omega arith in e))

pub to_first : (cs : List Point) (i : ℕ) → i + 1 ≡ length cs → (edge_at (edges_of cs) i).to ≡ get_or cs 0 origin
to_first [] i h = absurd (omega arith)
to_first (p ∷ qs) i h =
    ap (λ (e : Edge). e.to) (walk_at p (qs ++ p ∷ []) i (omega (arith, length-append qs (p ∷ []))))
    ∙ get_or_push qs p origin i (omega arith)
