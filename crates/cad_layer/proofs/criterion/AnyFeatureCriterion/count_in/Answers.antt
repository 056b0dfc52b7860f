use Rattle.std.proofs.Common.{◌∙◌, ap, length, sym}
use Rattle.cad_layer.specs.lemmas.MomentLemmas.{each_left}
use Rattle.cad_layer.proofs.criterion.AnyFeatureCriterion.count_in.Goals as goal

pub returns : goal.returns
returns c = ap length c.features.ensures.features ∙ sym (each_left c.args.base.now.features)
