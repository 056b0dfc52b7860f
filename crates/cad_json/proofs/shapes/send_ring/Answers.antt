use Rattle.std.proofs.Common.{List, sym, subst, map}
use Rattle.std.proofs.lemmas.Result.{on_ok_weaker}
use Rattle.serde_json.specs.Data.{array}
use Rattle.serde_json.specs.View.{items_of}
use Rattle.cad_shape.specs.declared.point.Point.{Point}
use Rattle.cad_json.specs.Sent.{Sends}
use Rattle.cad_json.specs.Shapes.{corner_data, closed}
use Rattle.cad_json.proofs.SendLemmas.{none_first}
use Rattle.cad_json.proofs.shapes.send_ring.Goals as goal

pub returns-in_ok-begin_seq-in-None : goal.returns-in_ok-begin_seq-in-None
returns-in_ok-begin_seq-in-None g c =
    let w = g.S.Serializer.written in
    let none = none_first c.args.corners.now c.in-None.ensures.value in
    on_ok_weaker c.end_seq.result (λ e.
    subst (λ (ps : List Point). Sends (array (items_of (map corner_data (closed ps)))) (w c.args.out.now) (w c.end_seq.new.self)) (sym none)
    ((w c.begin_seq.new.self, c.in_ok-begin_seq-in-None.ensures, e), tt)) c.end_seq.ensures
