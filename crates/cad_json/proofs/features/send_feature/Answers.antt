use Rattle.std.proofs.lemmas.Result.{on_ok_weaker}
use Rattle.cad_json.proofs.features.send_feature.Goals as goal

pub returns : goal.returns
returns g c =
    let w = g.S.Serializer.written in
    on_ok_weaker c.end_map.result (λ e. (
      (
        w c.begin_map.new.self,
        c.in_ok-begin_map.ensures,
        (
          w c.key.new.self,
          w c.send_geometry.new.out,
          c.in_ok-key.ensures,
          c.in_ok-send_geometry.ensures.0,
          (
            w c.key-2.new.self,
            w c.send_identifier.new.out,
            c.in_ok-key-2.ensures,
            c.in_ok-send_identifier.ensures.0,
            (
              w c.key-3.new.self,
              w c.send_properties.new.out,
              c.in_ok-key-3.ensures,
              c.in_ok-send_properties.ensures.0,
              (w c.key-4.new.self, w c.str.new.self, c.in_ok-key-4.ensures, c.in_ok-str.ensures, e),
            ),
          ),
        ),
      ),
      (c.in_ok-send_geometry.ensures.1, (c.in_ok-send_identifier.ensures.1, (c.in_ok-send_properties.ensures.1, (tt, tt)))),
    )) c.end_map.ensures
