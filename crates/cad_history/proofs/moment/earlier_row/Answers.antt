use Rattle.std.proofs.lemmas.List.{nil_from_length}
use Rattle.cad_layer.specs.Identifiers.{identifier}
use Rattle.cad_history.proofs.FoundLemmas.{nothing_before, row_more, all_before}
use Rattle.cad_history.proofs.moment.earlier_row.Goals as goal

pub loop-layer-init : goal.loop-layer-init
loop-layer-init c = nothing_before (identifier c.args.object c.args.number) c.args.revision c.args.layers.now c.requires

pub loop-layer-preserved : goal.loop-layer-preserved
loop-layer-preserved c = row_more (identifier c.args.object c.args.number) c.args.revision c.args.layers.now _ _ _ c.in-Some.ensures.cases.0 _ _ _ c.later_or-found.ensures c.row_at.ensures c.loop-layer.invariant

pub returns : goal.returns
returns c = all_before (identifier c.args.object c.args.number) c.args.revision c.args.layers.now _ _ (nil_from_length _ c.in_default.ensures.cases) c.loop-layer.invariant
