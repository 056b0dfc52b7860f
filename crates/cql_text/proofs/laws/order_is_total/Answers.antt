use Rattle.std.proofs.lemmas.Cmp.{nat_list_cmp_total}
use Rattle.cql_text.proofs.laws.order_is_total.Goals as goal

pub returns : goal.returns
returns c = nat_list_cmp_total
