use Rattle.cad_head.proofs.MemberLemmas.{members_make_the_value}
use Rattle.cad_head.proofs.laws.members_make_the_value.Goals as goal

pub returns : goal.returns
returns c = members_make_the_value
