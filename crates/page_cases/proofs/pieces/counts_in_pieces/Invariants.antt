use Rattle.std.proofs.Common.{◌-◌, length}
use Rattle.cad_plan.specs.Leaves.{AreFirstOf}
use Rattle.cad_page.specs.Plans.{counts_in}
use Rattle.page_cases.proofs.pieces.counts_in_pieces.Given as goal

abbrev pub invariant-pieces : goal.invariant-pieces
invariant-pieces l = AreFirstOf l.counts.items (counts_in l.full l.ask l.snapshot)

-- how many leaves are not counted yet
abbrev pub decreases-pieces : goal.decreases-pieces
decreases-pieces l = length (counts_in l.full l.ask l.snapshot) - length l.counts.items
