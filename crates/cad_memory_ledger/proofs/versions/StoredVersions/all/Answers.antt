use Rattle.std.proofs.Common.{map, refl}
use Rattle.std.proofs.lemmas.Map.Views.{All-map-IsPermutation}
use Rattle.cad_versions.specs.Entries.{version_in}
use Rattle.cad_versions.specs.VersionedObject.{IsVersion}
use Rattle.cad_versions.specs.lemmas.OrderLemmas.{identifiers_apart}
use Rattle.cad_memory_ledger.proofs.ShowLemmas.{all_listed}
use Rattle.cad_memory_ledger.proofs.versions.StoredVersions.all.Goals as goal

pub entries_in_order-requires : goal.entries_in_order-requires
entries_in_order-requires c = rw (c.in_ok-entries.ensures.same, c.deref.ensures.value) (identifiers_apart (map version_in c.self.inside.kept.items) c.self.invariant.histories)

pub returns-clause-ascending : goal.returns-clause-ascending
returns-clause-ascending c =
    let shown = c.in_ok-entries_in_order.ensures.sorted in
    let sound = All-map-IsPermutation version_in IsVersion c.in_ok-entries.entries.items c.entries_in_order.new.entries.items c.in_ok-entries_in_order.ensures.same c.in_ok-entries.ensures.sound in
    all_listed c.self.inside.kept.items c.entries_in_order.new.entries.items c.self.invariant (rw (shown, c.in_ok-entries.ensures.same, c.deref.ensures.value) refl) sound
