use Rattle.std.proofs.Common.{◌∙◌, sym}
use Rattle.cad_grid.specs.Counted.{block_at}
use Rattle.cad_extents.proofs.BlockLemmas.{not_looked_at}
use Rattle.cad_extents.proofs.MarkLemmas.{not_shared}
use Rattle.cad_extents.proofs.covered.Covered.may_share.Goals as goal

pub returns-then-share_a_cell : goal.returns-then-share_a_cell
returns-then-share_a_cell c = λ none own held. not_shared c.args.self.now c.args.asked (c.has_marked_square.ensures none) own held

pub returns-else-share_a_cell : goal.returns-else-share_a_cell
returns-else-share_a_cell c = λ apart own held. not_looked_at own (block_at c.args.self.now.block) (block_at c.args.asked) held.0 (sym c.share_a_cell.ensures ∙ apart)
