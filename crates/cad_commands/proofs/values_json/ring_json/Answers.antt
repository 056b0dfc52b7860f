use Rattle.std.proofs.Common.{◌∙◌, ap, take_all}
use Rattle.serde_json.proofs.Views.{view-Array}
use Rattle.serde_json.specs.Data.{array}
use Rattle.serde_json.specs.View.{items_of}
use Rattle.cad_commands.specs.Writing.{points_json}
use Rattle.cad_commands.proofs.WritingLemmas.{points_listed}
use Rattle.cad_commands.proofs.values_json.ring_json.Goals as goal

pub returns : goal.returns
returns c =
    let all = rw (take_all c.loop-corner.corner-index c.corners-corners.result.now c.loop-corner-test.false) at c.loop-corner.invariant in
    view-Array c.loop-corner.list ∙ ap (λ ds. array (items_of ds)) all ∙ ap array (points_listed c.corners-corners.result.now ∙ ap points_json c.corners-corners.ensures)
