use Rattle.std.proofs.Common.{refl}
use Rattle.std.proofs.lemmas.List.Sorted.{All-permutation}
use Rattle.cad_versions.specs.VersionedObject.{IsVersion}
use Rattle.cad_memory_ledger.proofs.PlainLemmas.{seen_apart}
use Rattle.cad_memory_ledger.proofs.ShowLemmas.{listing}
use Rattle.cad_memory_ledger.proofs.versions.StoredVersions.as_of.Goals as goal

pub in_order-requires : goal.in_order-requires
in_order-requires c = rw (c.in_ok-versions.ensures.seen, c.deref.ensures.value) (seen_apart c.args.revision c.self.inside.kept.items c.self.invariant)

pub returns-clause-ascending : goal.returns-clause-ascending
returns-clause-ascending c =
    let shown = c.in_ok-in_order.ensures.sorted in
    let sound = All-permutation IsVersion c.in_ok-versions.versions.items c.in_order.new.versions.items c.in_ok-in_order.ensures.same c.in_ok-versions.ensures.sound in
    listing c.args.revision c.self.inside.kept.items c.in_order.new.versions.items c.self.invariant (rw (shown, c.in_ok-versions.ensures.seen, c.deref.ensures.value) refl) sound
