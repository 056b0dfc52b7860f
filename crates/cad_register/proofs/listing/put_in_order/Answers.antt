use Rattle.std.proofs.Common.{◌≡◌, rules}
use Rattle.std.proofs.lemmas.Fn.{always_returns_same}
use Rattle.cad_register.specs.inner.Found.{identifier_of}
use Rattle.cad_register.proofs.listing.put_in_order.Goals as goal

pub returns-clause-sorted : goal.returns-clause-sorted
returns-clause-sorted c = c.sort_unstable_by_key.ensures.sorted identifier_of (always_returns_same _ (λ a r. r ≡ identifier_of a.0.now) _ (λ a r q k. search rules))
