use Rattle.cad_head.proofs.MemberLemmas.{members_hold_no_comma}
use Rattle.cad_head.proofs.laws.members_hold_no_comma.Goals as goal

pub returns : goal.returns
returns c = members_hold_no_comma
