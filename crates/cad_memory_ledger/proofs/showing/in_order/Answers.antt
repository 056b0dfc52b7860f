use Rattle.std.proofs.Common.{◌≡◌, rules}
use Rattle.std.proofs.lemmas.Fn.{always_returns_same}
use Rattle.cad_memory_ledger.proofs.ShowLemmas.{key_of, in_order_is}
use Rattle.cad_memory_ledger.proofs.showing.in_order.Goals as goal

pub returns-clause-sorted : goal.returns-clause-sorted
returns-clause-sorted c =
    let sorted = c.in_ok-sort_by_key.ensures in
    in_order_is c.args.versions.now.items c.sort_by_key.new.self.items c.requires sorted.permutation (sorted.sorted key_of (always_returns_same _ (λ a r. r ≡ key_of a.0.now) _ (λ a r q k. search rules)))
