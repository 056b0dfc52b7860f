use Rattle.std.proofs.Common.{◌≡◌, ◌≤◌, take}
use Rattle.std.specs.List.{All}
use Rattle.cad_index.specs.inner.Periods.{starts_of, ends_of}
use Rattle.cad_index.proofs.periods.Periods.of.Given as goal

abbrev pub invariant-loop-feature : goal.invariant-loop-feature
invariant-loop-feature l = record {
  starts : l.starts.items ≡ starts_of (take l.feature-index l.features);
  ends : l.ends.items ≡ ends_of (take l.feature-index l.features);
  bounded : All (λ x. x.period.end ≤ 4294967295) (take l.feature-index l.features);
}
