use Rattle.std.proofs.Common.{◌≤◌, length}
use Rattle.cad_dry_run.proofs.place.find_from.Given as goal

abbrev pub invariant-loop-step : goal.invariant-loop-step
invariant-loop-step l = l.place ≤ length l.line
