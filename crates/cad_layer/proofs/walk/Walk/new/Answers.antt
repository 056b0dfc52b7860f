use Rattle.cad_feature.specs.Features.{by_identifier}
use Rattle.cad_layer.specs.lemmas.ItemLemmas.{items_total}
use Rattle.cad_layer.specs.lemmas.MergeLemmas.{merged_ascends}
use Rattle.cad_layer.proofs.walk.Walk.new.Goals as goal

pub invariant_of-result : goal.invariant_of-result
invariant_of-result c = (c.requires.indexed, (merged_ascends by_identifier items_total c.args.base.now c.args.older.now c.requires.indexed.0, c.requires.changes))
