use Rattle.cad_page.specs.Pieces.{IsSearchFor, remaining_in}
use Rattle.page_cases.proofs.pieces.body_in_pieces.Given as goal

abbrev pub invariant-pieces : goal.invariant-pieces
invariant-pieces l = IsSearchFor l.plan l.search l.ask l.snapshot

abbrev pub decreases-pieces : goal.decreases-pieces
decreases-pieces l = remaining_in l.search l.ask l.snapshot
