use Rattle.cad_feature.specs.Features.{by_identifier}
use Rattle.cad_layer.specs.lemmas.ItemLemmas.{items_total}
use Rattle.cad_layer.specs.lemmas.MergeLemmas.{merged_merged}
use Rattle.cad_layer.proofs.laws.changes_add.Goals as goal

pub returns : goal.returns
returns c = merged_merged by_identifier items_total
