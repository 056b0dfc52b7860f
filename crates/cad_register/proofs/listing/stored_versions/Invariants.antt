use Rattle.std.proofs.Common.{◌≡◌, ◌++◌, List, length, map, vec_len}
use Rattle.std.specs.Vec.Iter.{into_iter_items, into_iter_len}
use Rattle.sqlite_value.specs.Order.{Row}
use Rattle.cad_register.specs.StoredVersions.{entry_of}
use Rattle.cad_register.specs.inner.Found.{AreReadOf}
use Rattle.cad_register.proofs.JudgedLemmas.{AreJudged}
use Rattle.cad_register.proofs.listing.stored_versions.Given as goal

abbrev pub invariant-loop-row : goal.invariant-loop-row
invariant-loop-row l = record {
  rest : l.fn.found.items ≡ l.yielded ++ into_iter_items l.row-iterator;
  left : into_iter_len l.row-iterator ≡ length (into_iter_items l.row-iterator);
  count : vec_len l.versions ≡ length l.yielded;
  judged : (rows : List Row) → AreReadOf rows l.fn.found.items → AreJudged l.newest rows l.before (length l.yielded) (map entry_of l.versions.items);
}
