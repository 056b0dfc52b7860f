use Rattle.std.proofs.lemmas.Result.{on_ok_weaker}
use Rattle.cad_json.proofs.shapes.send_polygon.Goals as goal

pub returns : goal.returns
returns g c =
    let w = g.S.Serializer.written in
    on_ok_weaker c.end_map.result (λ e. (
      (
        w c.begin_map.new.self,
        c.in_ok-begin_map.ensures,
        (
          w c.key.new.self,
          w c.send_rings.new.out,
          c.in_ok-key.ensures,
          c.in_ok-send_rings.ensures.0,
          (w c.key-2.new.self, w c.str.new.self, c.in_ok-key-2.ensures, c.in_ok-str.ensures, e),
        ),
      ),
      (c.in_ok-send_rings.ensures.1, (tt, tt)),
    )) c.end_map.ensures
