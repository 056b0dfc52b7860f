-- The corners of a ring lie on its edges.
use Rattle.std.proofs.Common.{inl, inr, List, [], ◌∷◌, ◌++◌}
use Rattle.std.specs.List.{AllByRecursion}
use Rattle.cad_shape.specs.declared.point.Point.{Point}
use Rattle.cad_shape.specs.Edges.{walk, edges_of}
use Rattle.cad_shape.specs.Regions.{IsOnSome}
use Rattle.cad_shape.proofs.SharedPoints.{at_second}

pub all_mapped : {X : Type 0} (P Q : X → Type 0) → ((x : X) → P x → Q x) → (xs : List X) → AllByRecursion P xs → AllByRecursion Q xs
all_mapped P Q f [] h = tt
all_mapped P Q f (x ∷ xs) h = (f x h.0, all_mapped P Q f xs h.1)

ends_on : (p : Point) (qs : List Point) → AllByRecursion (λ (c : Point). IsOnSome c (walk p qs)) qs
ends_on p [] = tt
ends_on p (q ∷ qs) = (inl (at_second p q), all_mapped (λ (c : Point). IsOnSome c (walk q qs)) (λ (c : Point). IsOnSome c (walk p (q ∷ qs))) (λ c h. inr h) qs (ends_on q qs))

all_unpushed : {X : Type 0} (P : X → Type 0) (xs : List X) (x : X) → AllByRecursion P (xs ++ x ∷ []) → AllByRecursion P (x ∷ xs)
all_unpushed P [] x h = h
all_unpushed P (y ∷ ys) x h = let k = all_unpushed P ys x h.1 in (k.0, (h.0, k.1))

pub corners_on : (cs : List Point) → AllByRecursion (λ (c : Point). IsOnSome c (edges_of cs)) cs
corners_on [] = tt
corners_on (p ∷ qs) = all_unpushed (λ (c : Point). IsOnSome c (edges_of (p ∷ qs))) qs p (ends_on p (qs ++ p ∷ []))
