use Rattle.std.proofs.lemmas.Result.{on_ok_weaker}
use Rattle.cad_json.proofs.features.send_own_links.Goals as goal

pub returns : goal.returns
returns g c =
    let w = g.S.Serializer.written in
    on_ok_weaker c.end_seq.result (λ e. (
      (
        w c.begin_seq.new.self,
        c.in_ok-begin_seq.ensures,
        (w c.send_link.new.out, c.in_ok-send_link.ensures.0, (w c.send_link-2.new.out, c.in_ok-send_link-2.ensures.0, e)),
      ),
      (c.in_ok-send_link.ensures.1, (c.in_ok-send_link-2.ensures.1, tt)),
    )) c.end_seq.ensures
