use Rattle.std.proofs.Common.{◌≡◌, ◌++◌, drop, map}
use Rattle.cad_ordered.specs.Ranged.{column}
use Rattle.cad_ordered.specs.Columns.{keyed_from}
use Rattle.cad_ordered.proofs.key.read_all.Given as goal

abbrev pub invariant-loop-position : goal.invariant-loop-position
invariant-loop-position g l = map (λ e. (g.K.Key.datum e.0, e.1)) l.pairs.items ++ keyed_from l.position (drop l.position (column l.place l.features)) ≡ keyed_from 0 (column l.place l.features)
