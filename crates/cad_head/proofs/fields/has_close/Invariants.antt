use Rattle.std.proofs.Common.{◌≡◌, length}
use Rattle.std.specs.List.{list_any}
use Rattle.cad_head.specs.Request.{members, is_close}
use Rattle.cad_head.proofs.fields.has_close.Given as goal

abbrev pub invariant-loop-others : goal.invariant-loop-others
invariant-loop-others l = list_any is_close (members l.list) ≡ list_any is_close (members l.rest)

abbrev pub decreases-loop-others : goal.decreases-loop-others
decreases-loop-others l = length l.rest
