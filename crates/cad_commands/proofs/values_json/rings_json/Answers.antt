use Rattle.std.proofs.Common.{◌∙◌, ap, take_all}
use Rattle.serde_json.proofs.Views.{view-Array}
use Rattle.serde_json.specs.Data.{array}
use Rattle.serde_json.specs.View.{items_of}
use Rattle.cad_commands.proofs.WritingLemmas.{rings_listed}
use Rattle.cad_commands.proofs.values_json.rings_json.Goals as goal

pub returns : goal.returns
returns c =
    let all = rw (take_all c.loop-ring.ring-index c.args.rings.now c.loop-ring-test.false) at c.loop-ring.invariant in
    view-Array c.loop-ring.list ∙ ap (λ ds. array (items_of ds)) all ∙ ap array (rings_listed c.args.rings.now)
