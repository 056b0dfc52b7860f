use Rattle.cad_day.proofs.RelationLemmas.{share_where_intersecting, intersect_where_sharing}
use Rattle.cad_day.proofs.laws.intersecting_is_sharing_a_day.Goals as goal

pub returns : goal.returns
returns c = (share_where_intersecting c.args.a c.args.b, intersect_where_sharing c.args.a c.args.b)
