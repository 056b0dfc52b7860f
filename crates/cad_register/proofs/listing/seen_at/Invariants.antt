use Rattle.std.proofs.Common.{◌≡◌, ◌++◌, map}
use Rattle.std.specs.Vec.Iter.{into_iter_items}
use Rattle.cad_versions.specs.Entries.{seen_at}
use Rattle.cad_register.specs.StoredVersions.{entry_of}
use Rattle.cad_register.proofs.listing.seen_at.Given as goal

abbrev pub invariant-loop-version : goal.invariant-loop-version
invariant-loop-version l = record {
  rest : l.fn.stored.items ≡ l.yielded ++ into_iter_items l.version-iterator;
  so_far : l.versions.items ≡ map (seen_at l.revision) (map entry_of l.yielded);
}
