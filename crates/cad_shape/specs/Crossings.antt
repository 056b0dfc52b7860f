-- Rings whose edges cross.
use Rattle.std.specs.Prelude.{ℕ, ◌+◌, ◌<◌, ◌≤◌, ℤ, pos, ◌+ℤ◌, ◌-ℤ◌, ◌*ℤ◌, ◌≡◌, ◌⊎◌, nat_eq, ◌&&◌, if◌then◌else◌, List, length, slice_index_or}
use Rattle.cad_shape.specs.declared.point.Point.{Point}
use Rattle.cad_shape.specs.declared.crossing.Pair.{Pair}
use Rattle.cad_shape.specs.declared.crossing.Pair.TheVariants.{Same, Next, Round, Far}
use Rattle.cad_shape.specs.Segments.{IsShared, Meet}
use Rattle.cad_shape.specs.Edges.{Edge}

abbrev pub origin : Point
origin = record {
  x = pos 0;
  y = pos 0;
  x_in_range = (record { le = tt }, record { le = tt });
  y_in_range = (record { le = tt }, record { le = tt });
}

-- edge i
abbrev pub edge_at : List Edge → ℕ → Edge
edge_at edges i = slice_index_or edges i (record { from = origin; to = origin })

-- the segments from p to c and from c to s share (x / w, y / w), which is not c
pub record IsMore (p c s : Point) (x y w : ℤ) : Type 0 where
  pub shared : IsShared p c c s x y w
  pub other : ¬ ((x ≡ w *ℤ c.x) × (y ≡ w *ℤ c.y))

-- they share more than c
abbrev pub ShareMore : Point → Point → Point → Type 0
ShareMore p c s = (x : ℤ) × (y : ℤ) × (w : ℤ) × IsMore p c s x y w

-- above 0 where p and s lie on one side of c, as seen along the line from c to s
abbrev pub along : Point → Point → Point → ℤ
along p c s = (p.x -ℤ c.x) *ℤ (s.x -ℤ c.x) +ℤ (p.y -ℤ c.y) *ℤ (s.y -ℤ c.y)

-- how edge i and edge j, i at most j, are related in a ring of n edges
abbrev pub pair_of : ℕ → ℕ → ℕ → Pair
pair_of n i j =
    if nat_eq i j then Same
    else (if nat_eq (i + 1) j then Next else (if nat_eq i 0 && nat_eq (j + 1) n then Round else Far))

-- the edge from p to q and the one from r to s, which may be one, share more than they may: an edge has length, neighbours share only their
-- corner, and others share no point
abbrev pub Cross : Pair → Point → Point → Point → Point → Type 0
Cross Same p q r s = (p.x ≡ q.x) × (p.y ≡ q.y)
Cross Next p q r s = ShareMore p q s
Cross Round p q r s = ShareMore r s q
Cross Far p q r s = Meet p q r s

-- edges i and j of the ring cross
abbrev pub IsCrossing : List Edge → ℕ → ℕ → Type 0
IsCrossing edges i j = Cross (pair_of (length edges) i j) (edge_at edges i).from (edge_at edges i).to (edge_at edges j).from (edge_at edges j).to

-- pair (k, l) comes before pair (i, j)
abbrev pub Before : ℕ → ℕ → ℕ → ℕ → Type 0
Before k l i j = (k < i) ⊎ ((k ≡ i) × (l < j))

-- no edges cross (OGC 06-103r4, 6.1.6, `IsSimple`)
abbrev pub NoneCross : List Edge → Type 0
NoneCross edges = (k l : ℕ) → k ≤ l → l < length edges → ¬ (IsCrossing edges k l)

-- edges i and j cross, and no pair before them
pub record IsFirstCrossing (edges : List Edge) (i j : ℕ) : Type 0 where
  pub ordered : i ≤ j
  pub within : j < length edges
  pub cross : IsCrossing edges i j
  pub first : (k l : ℕ) → k ≤ l → l < length edges → Before k l i j → ¬ (IsCrossing edges k l)
