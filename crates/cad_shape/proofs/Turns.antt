-- Equations between turns.
use Rattle.std.proofs.Common.{◌≡◌, ℤ, ◌+ℤ◌, ◌-ℤ◌, ◌*ℤ◌, arith}
use Rattle.cad_shape.proofs.Equations.{as_gap, gaps, gap_same}

-- f = f(r) + u × (s - r)
pub turn_moved : (a b c d e f g h : ℤ) → a *ℤ (f -ℤ d) -ℤ b *ℤ (e -ℤ c) ≡ (a *ℤ (h -ℤ d) -ℤ b *ℤ (g -ℤ c)) +ℤ (a *ℤ (f -ℤ h) -ℤ b *ℤ (e -ℤ g))
turn_moved a b c d e f g h = rw (as_gap a, as_gap b, as_gap c, as_gap d, as_gap e, as_gap f, as_gap g, as_gap h) (simp gaps (gap_same _ _ _ _ (omega arith)))

-- the same at (x / w, y / w)
pub turn_shared : (a b w x y px py rx ry : ℤ) → a *ℤ (y -ℤ w *ℤ py) -ℤ b *ℤ (x -ℤ w *ℤ px) ≡ w *ℤ (a *ℤ (ry -ℤ py) -ℤ b *ℤ (rx -ℤ px)) +ℤ (a *ℤ (y -ℤ w *ℤ ry) -ℤ b *ℤ (x -ℤ w *ℤ rx))
turn_shared a b w x y px py rx ry = rw (as_gap a, as_gap b, as_gap w, as_gap x, as_gap y, as_gap px, as_gap py, as_gap rx, as_gap ry) (simp gaps (gap_same _ _ _ _ (omega arith)))

pub weights : (w i j m n a b f : ℤ) → (w *ℤ i -ℤ m) *ℤ f +ℤ m *ℤ (f +ℤ (a *ℤ j -ℤ b *ℤ i)) ≡ i *ℤ (w *ℤ f +ℤ (a *ℤ n -ℤ b *ℤ m)) -ℤ a *ℤ (i *ℤ n -ℤ j *ℤ m)
weights w i j m n a b f = rw (as_gap w, as_gap i, as_gap j, as_gap m, as_gap n, as_gap a, as_gap b, as_gap f) (simp gaps (gap_same _ _ _ _ (omega arith)))

-- the two ways to weigh the ends of the two segments give one point
pub shared_x : (px py qx qy rx ry sx sy : ℤ) → ((qx -ℤ px) *ℤ (sy -ℤ py) -ℤ (qy -ℤ py) *ℤ (sx -ℤ px)) *ℤ rx -ℤ ((qx -ℤ px) *ℤ (ry -ℤ py) -ℤ (qy -ℤ py) *ℤ (rx -ℤ px)) *ℤ sx ≡ ((sx -ℤ rx) *ℤ (py -ℤ ry) -ℤ (sy -ℤ ry) *ℤ (px -ℤ rx)) *ℤ qx -ℤ ((sx -ℤ rx) *ℤ (qy -ℤ ry) -ℤ (sy -ℤ ry) *ℤ (qx -ℤ rx)) *ℤ px
shared_x px py qx qy rx ry sx sy = rw (as_gap px, as_gap py, as_gap qx, as_gap qy, as_gap rx, as_gap ry, as_gap sx, as_gap sy) (simp gaps (gap_same _ _ _ _ (omega arith)))

pub shared_y : (px py qx qy rx ry sx sy : ℤ) → ((qx -ℤ px) *ℤ (sy -ℤ py) -ℤ (qy -ℤ py) *ℤ (sx -ℤ px)) *ℤ ry -ℤ ((qx -ℤ px) *ℤ (ry -ℤ py) -ℤ (qy -ℤ py) *ℤ (rx -ℤ px)) *ℤ sy ≡ ((sx -ℤ rx) *ℤ (py -ℤ ry) -ℤ (sy -ℤ ry) *ℤ (px -ℤ rx)) *ℤ qy -ℤ ((sx -ℤ rx) *ℤ (qy -ℤ ry) -ℤ (sy -ℤ ry) *ℤ (qx -ℤ rx)) *ℤ py
shared_y px py qx qy rx ry sx sy = rw (as_gap px, as_gap py, as_gap qx, as_gap qy, as_gap rx, as_gap ry, as_gap sx, as_gap sy) (simp gaps (gap_same _ _ _ _ (omega arith)))

pub shared_w : (px py qx qy rx ry sx sy : ℤ) → ((qx -ℤ px) *ℤ (sy -ℤ py) -ℤ (qy -ℤ py) *ℤ (sx -ℤ px)) -ℤ ((qx -ℤ px) *ℤ (ry -ℤ py) -ℤ (qy -ℤ py) *ℤ (rx -ℤ px)) ≡ ((sx -ℤ rx) *ℤ (py -ℤ ry) -ℤ (sy -ℤ ry) *ℤ (px -ℤ rx)) -ℤ ((sx -ℤ rx) *ℤ (qy -ℤ ry) -ℤ (sy -ℤ ry) *ℤ (qx -ℤ rx))
shared_w px py qx qy rx ry sx sy = rw (as_gap px, as_gap py, as_gap qx, as_gap qy, as_gap rx, as_gap ry, as_gap sx, as_gap sy) (simp gaps (gap_same _ _ _ _ (omega arith)))
