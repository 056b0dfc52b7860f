-- What is left of a list of rings, one ring on.
use Rattle.std.proofs.Common.{◌≡◌, ◌↔◌, ℕ, ◌+◌, ◌<◌, ◌⊎◌, inl, inr, ⊎_elim, List, [], ◌∷◌, ◌++◌, length, get_or, drop, sym, ap, ◌∙◌}
use Rattle.std.proofs.lemmas.List.{at_drop_more}
use Rattle.cad_shape.specs.declared.point.Point.{Point}
use Rattle.cad_shape.specs.declared.ring.Ring.{Ring}
use Rattle.cad_shape.specs.Edges.{Edge, AnyOf, edges_of}
use Rattle.cad_shape.specs.Polygons.{rings_corners, rings_edges}
use Rattle.cad_shape.specs.Regions.{crossings, MeetsSome, SomeMeet}
use Rattle.cad_shape.specs.Segments.{Meet}
use Rattle.cad_shape.specs.Rings.{corners_of}
use Rattle.cad_shape.proofs.Walks.{any_split, any_before, any_after, any_mapped, crossings-append}

edges_rest : (rings : List Ring) (i : ℕ) (r : Ring) → i < length rings → r ≡ get_or rings i r → rings_edges (drop i rings) ≡ edges_of (corners_of r) ++ rings_edges (drop (i + 1) rings)
edges_rest rings i r h e = at_drop_more rings_edges rings i r h ∙ ap (λ z. edges_of (corners_of z) ++ rings_edges (drop (i + 1) rings)) (sym e)

corners_rest : (rings : List Ring) (i : ℕ) (r : Ring) → i < length rings → r ≡ get_or rings i r → rings_corners (drop i rings) ≡ corners_of r ++ rings_corners (drop (i + 1) rings)
corners_rest rings i r h e = at_drop_more rings_corners rings i r h ∙ ap (λ z. corners_of z ++ rings_corners (drop (i + 1) rings)) (sym e)

-- ---- some edge or corner is one of the ring, or of a later one
parts : {X : Type 0} (P : X → Type 0) (xs ys : List X) → AnyOf P (xs ++ ys) ↔ (AnyOf P xs ⊎ AnyOf P ys)
parts P xs ys = (any_split P xs ys, λ h. ⊎_elim (any_before P xs ys) (any_after P xs ys) h)

pub some_edge : (P : Edge → Type 0) (rings : List Ring) (i : ℕ) (r : Ring) → i < length rings → r ≡ get_or rings i r → AnyOf P (rings_edges (drop i rings)) ↔ (AnyOf P (edges_of (corners_of r)) ⊎ AnyOf P (rings_edges (drop (i + 1) rings)))
some_edge P rings i r h e = rw (edges_rest rings i r h e) (parts P (edges_of (corners_of r)) (rings_edges (drop (i + 1) rings)))

pub some_corner : (P : Point → Type 0) (rings : List Ring) (i : ℕ) (r : Ring) → i < length rings → r ≡ get_or rings i r → AnyOf P (rings_corners (drop i rings)) ↔ (AnyOf P (corners_of r) ⊎ AnyOf P (rings_corners (drop (i + 1) rings)))
some_corner P rings i r h e = rw (corners_rest rings i r h e) (parts P (corners_of r) (rings_corners (drop (i + 1) rings)))

pub crossings_on : (t : Point) (rings : List Ring) (i : ℕ) (r : Ring) → i < length rings → r ≡ get_or rings i r → crossings t (rings_edges (drop i rings)) ≡ crossings t (edges_of (corners_of r)) + crossings t (rings_edges (drop (i + 1) rings))
crossings_on t rings i r h e = ap (crossings t) (edges_rest rings i r h e) ∙ crossings-append t (edges_of (corners_of r)) (rings_edges (drop (i + 1) rings))

meet_split : (es fs gs : List Edge) → SomeMeet es (fs ++ gs) → SomeMeet es fs ⊎ SomeMeet es gs
meet_split [] fs gs h = absurd h
meet_split (e ∷ es) fs gs (inl h) = ⊎_elim (λ k. inl (inl k)) (λ k. inr (inl k)) (any_split (λ (f : Edge). Meet e.from e.to f.from f.to) fs gs h)
meet_split (e ∷ es) fs gs (inr h) = ⊎_elim (λ k. inl (inr k)) (λ k. inr (inr k)) (meet_split es fs gs h)

meet_parts : (es fs gs : List Edge) → SomeMeet es (fs ++ gs) ↔ (SomeMeet es fs ⊎ SomeMeet es gs)
meet_parts es fs gs = (
  meet_split es fs gs,
  λ h. ⊎_elim
      (any_mapped (λ (e : Edge). MeetsSome e.from e.to fs) (λ (e : Edge). MeetsSome e.from e.to (fs ++ gs)) (λ e k. any_before (λ (f : Edge). Meet e.from e.to f.from f.to) fs gs k) es)
      (any_mapped (λ (e : Edge). MeetsSome e.from e.to gs) (λ (e : Edge). MeetsSome e.from e.to (fs ++ gs)) (λ e k. any_after (λ (f : Edge). Meet e.from e.to f.from f.to) fs gs k) es)
      h,
)

pub meets_one : (es : List Edge) (rings : List Ring) (i : ℕ) (r : Ring) → i < length rings → r ≡ get_or rings i r → SomeMeet es (rings_edges (drop i rings)) ↔ (SomeMeet es (edges_of (corners_of r)) ⊎ SomeMeet es (rings_edges (drop (i + 1) rings)))
meets_one es rings i r h e = rw (edges_rest rings i r h e) (meet_parts es (edges_of (corners_of r)) (rings_edges (drop (i + 1) rings)))

-- ---- a loop over the rings that looks for one: the ring is none, or it is one
pub none_here : {A X B C : Type 0} → A ↔ X → X ↔ (B ⊎ C) → ¬ B → A ↔ C
none_here f g n = (λ a. ⊎_elim (λ b. absurd (n b)) (λ c. c) (g.0 (f.0 a)), λ c. f.1 (g.1 (inr c)))

pub one_here : {A X B C : Type 0} → A ↔ X → X ↔ (B ⊎ C) → B → A
one_here f g b = f.1 (g.1 (inl b))

pub none_meets : (es : List Edge) → ¬ (SomeMeet es [])
none_meets [] h = absurd h
none_meets (e ∷ es) (inl h) = absurd h
none_meets (e ∷ es) (inr h) = none_meets es h
