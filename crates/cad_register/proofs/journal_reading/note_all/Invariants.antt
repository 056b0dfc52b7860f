use Rattle.std.proofs.Common.{◌≡◌, ◌++◌, ℕ, List, length, map}
use Rattle.std.specs.Vec.Iter.{into_iter_items, into_iter_len}
use Rattle.cad_versions.specs.Entries.{Entry}
use Rattle.cad_register.specs.StoredVersions.{entry_of}
use Rattle.cad_register.specs.inner.Gathering.{Gathers}
use Rattle.cad_register.proofs.journal_reading.note_all.Given as goal

abbrev pub invariant-loop-version : goal.invariant-loop-version
invariant-loop-version l = record {
  rest : l.fn.versions.items ≡ l.yielded ++ into_iter_items l.version-iterator;
  left : into_iter_len l.version-iterator ≡ length (into_iter_items l.version-iterator);
  behind : l.gathering.behind ≡ l.initial.gathering.behind;
  notes : (behind count : ℕ) (entries : List Entry) → Gathers behind count entries l.initial.gathering → Gathers behind count (entries ++ map entry_of l.yielded) l.gathering;
}
