use Rattle.std.proofs.Common.{ap, ◌∙◌, sym}
use Rattle.std.proofs.lemmas.Cmp.{nat_list_cmp_total, tied_itself}
use Rattle.std.proofs.lemmas.Map.Lookups.{exact_bytes}
use Rattle.cql_text.specs.Order.{text_cmp}
use Rattle.cql_text.proofs.laws.one_text_is_equal.Goals as goal

pub returns : goal.returns
returns c = λ left right. (exact_bytes left right, λ e. ap (text_cmp left) (sym e) ∙ tied_itself nat_list_cmp_total left)
