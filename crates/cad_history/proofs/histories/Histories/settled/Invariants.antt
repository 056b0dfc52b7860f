use Rattle.std.proofs.Common.{◌≡◌, take}
use Rattle.cad_history.proofs.histories.Histories.settled.Given as goal

-- The histories so far have the same rows.
abbrev pub invariant-loop-history : goal.invariant-loop-history
invariant-loop-history l = l.each.items ≡ take l.history-index l.history-items
