use Rattle.cad_day.proofs.RelationLemmas.{mirrored}
use Rattle.cad_day.proofs.laws.each_relation_has_its_mirror.Goals as goal

pub returns : goal.returns
returns c = mirrored c.args.relation c.args.a c.args.b
