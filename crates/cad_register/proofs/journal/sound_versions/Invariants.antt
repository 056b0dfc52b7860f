use Rattle.std.proofs.Common.{◌≡◌, ◌++◌, List, length}
use Rattle.std.specs.Vec.Iter.{into_iter_items, into_iter_len}
use Rattle.sqlite_value.specs.Order.{Row}
use Rattle.cad_register.specs.inner.Found.{AreReadOf}
use Rattle.cad_register.proofs.SoundRowLemmas.{AreJudgedSound}
use Rattle.cad_register.proofs.journal.sound_versions.Given as goal

abbrev pub invariant-loop-row : goal.invariant-loop-row
invariant-loop-row l = record {
  rest : l.fn.found.items ≡ l.yielded ++ into_iter_items l.row-iterator;
  left : into_iter_len l.row-iterator ≡ length (into_iter_items l.row-iterator);
  judged : (rows : List Row) → AreReadOf rows l.fn.found.items → AreJudgedSound l.newest rows (length l.yielded) l.versions.items;
}
