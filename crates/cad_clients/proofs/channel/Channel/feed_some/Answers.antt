use Rattle.std.proofs.Common.{◌≡◌, ℕ, List, [], ◌++◌, drop, sym, ap, ◌∙◌, refl}
use Rattle.cad_network.specs.lemmas.DeedLemmas.{Adds-nil}
use Rattle.cad_clients.specs.Channels.{unfed}
use Rattle.cad_clients.proofs.ChannelLemmas.{is_piece, is_left, is_last, refused}
use Rattle.cad_stream.specs.Beginning.{told_all}
use Rattle.cad_clients.proofs.channel.Channel.feed_some.Goals as goal

pub returns-in-Ok-begin : goal.returns-in-Ok-begin
returns-in-Ok-begin g c =
    let channel = c.args.self.now in
    let part = c.first_part-part.result.now in
    let made = c.take_made.ensures in
    let rest : c.rest_from.result.now ≡ unfed channel = rw c.deref.ensures.value at c.rest_from.ensures in (
      [],
      Adds-nil _,
      (
        refl,
        (
          c.in-Ok.piece,
          told_all g.R.WorkingResponder.owes c.in-Ok-begin.field-0.parts.items,
          c.in-Ok-begin.field-0.ends,
          (
            c.requires.ready,
            is_piece channel c.in-Ok.piece.items part c.rest_from.result.now c.in-Ok.ensures.items rest c.requires.some c.first_part-part.ensures.some c.first_part-part.ensures.within,
            is_left channel c.in-Ok.piece.items part c.rest_from.result.now c.in-Ok.ensures.items rest c.first_part-part.ensures.front ∙ ap (λ (bytes : List ℕ). c.in-Ok.piece.items ++ bytes) (sym made.fed),
            made.sent g.R.WorkingResponder.owes ∙ ap (λ (bytes : List ℕ). drop 0 bytes ++ told_all g.R.WorkingResponder.owes c.in-Ok-begin.field-0.parts.items) c.new.ensures.items,
            made.ends,
            c.in-Ok-begin.ensures,
          ),
          made.last_fed ∙ is_last channel c.in-Ok.piece.items part c.rest_from.result.now c.in-Ok.ensures.items rest c.first_part-part.ensures.front,
        ),
      ),
    )

pub returns-in-Err : goal.returns-in-Err
returns-in-Err g c =
    let channel = c.args.self.now in
    let part = c.first_part-part.result.now in
    let rest : c.rest_from.result.now ≡ unfed channel = rw c.deref.ensures.value at c.rest_from.ensures in
    refused g.R.Responder g.R.WorkingResponder.owes c.args.c _ _ _ c.args.desk.now c.begin.new.self channel channel c.in-Err.fault c.refuse-in-Err.result c.refuse-in-Err.ensures.refused c.requires.ready c.refuse-in-Err.ensures.head (
      c.in-Ok.piece,
      _,
      is_piece channel c.in-Ok.piece.items part c.rest_from.result.now c.in-Ok.ensures.items rest c.requires.some c.first_part-part.ensures.some c.first_part-part.ensures.within,
      is_left channel c.in-Ok.piece.items part c.rest_from.result.now c.in-Ok.ensures.items rest c.first_part-part.ensures.front,
      c.in-Err.ensures,
    )
