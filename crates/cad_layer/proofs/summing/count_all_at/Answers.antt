use Rattle.std.proofs.Common.{◌∙◌}
use Rattle.cad_index.specs.Moments.{is_shown_at}
use Rattle.cad_layer.specs.Segments.{joined}
use Rattle.cad_layer.specs.lemmas.MomentLemmas.{filter_counted}
use Rattle.cad_layer.proofs.summing.count_all_at.Goals as goal

pub returns : goal.returns
returns g c = c.count_all.ensures ∙ filter_counted (g.T.Criterion.passes c.args.criterion.now) (is_shown_at c.args.revision) (joined c.args.segments.now)
