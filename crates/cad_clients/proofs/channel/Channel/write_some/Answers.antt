use Rattle.std.proofs.Common.{◌<◌, ◌≤◌, length, take, drop, refl, arith, length-take}
use Rattle.cad_clients.proofs.ChannelLemmas.{goes_on_before}
use Rattle.cad_stream.specs.Beginning.{told_all}
use Rattle.cad_clients.proofs.channel.Channel.write_some.Goals as goal

pub returns-in-Ok : goal.returns-in-Ok
returns-in-Ok g c =
    let channel = c.args.self.now in
    let told = rw (c.rest_from.ensures, c.deref.ensures.value) at c.in-Ok.ensures.done in
    let held = drop channel.output_at channel.output.items in
    let bytes = take c.in-Ok.count held in
    let within : c.in-Ok.count ≤ length held = rw (c.rest_from.ensures, c.deref.ensures.value) at c.in-Ok.ensures.bound in
    let no_zero = c.in-Ok.count-test.1 in
    let taken = length-take c.in-Ok.count held in
    let some : 0 < length bytes = omega (arith, within, no_zero, taken) in
    (_, told, (bytes, refl, some, c.requires, (goes_on_before channel.output_at c.in-Ok.count channel.output.items (told_all g.R.WorkingResponder.owes channel.parts.items), refl, refl, refl)))
