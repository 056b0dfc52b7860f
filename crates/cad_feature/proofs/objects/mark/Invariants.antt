use Rattle.std.proofs.Common.{◌≡◌, ◌+◌, ◌-◌, ◌≤◌, ◌++◌, length, replicate}
use Rattle.cad_feature.proofs.objects.mark.Given as goal

abbrev pub invariant-loop-next : goal.invariant-loop-next
invariant-loop-next l = record {
  filled : l.starts.items ≡ l.fn.starts.items ++ replicate (l._next - length l.fn.starts.items) l.position;
  no_more : l._next - length l.fn.starts.items ≤ l.stretch + 1 - length l.fn.starts.items;
}
