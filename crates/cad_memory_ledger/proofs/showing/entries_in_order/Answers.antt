use Rattle.std.proofs.Common.{◌≡◌, rules}
use Rattle.std.proofs.lemmas.Fn.{always_returns_same}
use Rattle.cad_memory_ledger.proofs.ShowLemmas.{key_of_entry, entries_in_order_are}
use Rattle.cad_memory_ledger.proofs.showing.entries_in_order.Goals as goal

pub returns-clause-sorted : goal.returns-clause-sorted
returns-clause-sorted c =
    let sorted = c.in_ok-sort_by_key.ensures in
    entries_in_order_are c.args.entries.now.items c.sort_by_key.new.self.items c.requires sorted.permutation (sorted.sorted key_of_entry (always_returns_same _ (λ a r. r ≡ key_of_entry a.0.now) _ (λ a r q k. search rules)))
