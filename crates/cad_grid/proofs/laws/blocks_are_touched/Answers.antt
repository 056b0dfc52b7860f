use Rattle.cad_grid.proofs.CellLemmas.{reached, reaches}
use Rattle.cad_grid.proofs.laws.blocks_are_touched.Goals as goal

pub returns : goal.returns
returns c = λ b column row. (
  λ t. let h = reached b.x_min b.x_max column t.0 in let v = reached b.y_min b.y_max row t.1 in (h.0, h.1, v.0, v.1),
  λ i. (reaches b.x_min b.x_max column b.width.2 i.0 i.1, reaches b.y_min b.y_max row b.height.2 i.2 i.3),
)
