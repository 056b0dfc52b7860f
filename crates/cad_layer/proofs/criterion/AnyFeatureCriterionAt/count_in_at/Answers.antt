use Rattle.std.proofs.Common.{◌∙◌, sym}
use Rattle.cad_index.specs.Moments.{rows_at}
use Rattle.cad_layer.specs.lemmas.MomentLemmas.{each_left}
use Rattle.cad_layer.proofs.criterion.AnyFeatureCriterionAt.count_in_at.Goals as goal

pub returns : goal.returns
returns c = c.count_at.ensures ∙ sym (each_left (rows_at c.args.revision c.args.base.now.features))
