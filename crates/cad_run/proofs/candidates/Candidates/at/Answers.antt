use Rattle.std.proofs.Common.{◌∙◌}
use Rattle.cad_run.proofs.SoughtLemmas.{sought_at}
use Rattle.cad_run.proofs.candidates.Candidates.at.Goals as goal

pub returns : goal.returns
returns c = c.sought.ensures.left ∙ sought_at c.args.plan.now c.args.revision c.args.layer.now.features
