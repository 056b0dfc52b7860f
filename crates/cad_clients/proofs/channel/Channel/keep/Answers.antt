use Rattle.std.proofs.Common.{[], refl}
use Rattle.cad_network.specs.lemmas.DeedLemmas.{Adds-nil}
use Rattle.cad_clients.proofs.channel.Channel.keep.Goals as goal

pub returns : goal.returns
returns g c =
    let idle = c.requires.idle in
    ([], Adds-nil _, (_, refl, (idle, c.requires.piece, c.in-Ok.ensures.items, record { sent = record { none_at_hand = idle.ready.sent.none_at_hand; none_owed = idle.ready.sent.none_owed }; goes_on = idle.ready.goes_on }, refl)))
