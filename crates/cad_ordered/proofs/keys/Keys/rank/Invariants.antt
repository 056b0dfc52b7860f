use Rattle.std.proofs.Common.{◌-◌}
use Rattle.cad_feature.specs.Limits.{scalar_datum}
use Rattle.cad_ordered.specs.Columns.{data_of}
use Rattle.cad_ordered.proofs.Searches.{IsSought}
use Rattle.cad_ordered.proofs.keys.Keys.rank.Given as goal

abbrev pub invariant-loop-low : goal.invariant-loop-low
invariant-loop-low l = IsSought l.upto (data_of l.self) (scalar_datum l.scalar) l.low l.high

abbrev pub decreases-loop-low : goal.decreases-loop-low
decreases-loop-low l = l.high - l.low
