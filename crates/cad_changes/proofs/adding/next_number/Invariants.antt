use Rattle.std.proofs.Common.{◌≡◌, ◌≤◌, ◌+◌, length}
use Rattle.cad_changes.specs.Touching.{count_of}
use Rattle.cad_changes.proofs.adding.next_number.Given as goal

-- all but those that are left were counted
abbrev pub invariant-loop-number : goal.invariant-loop-number
invariant-loop-number l = record {
  counted : l.number + length l.walk ≡ 1 + count_of l.fn.object l.features.features;
  positive : 1 ≤ l.number;
  small : l.number ≤ 2147483647;
}

abbrev pub decreases-loop-number : goal.decreases-loop-number
decreases-loop-number l = length l.walk
