use Rattle.cql_rewrite.proofs.Covered.{chosen_has, covered}
use Rattle.cql_rewrite.specs.Menus.{menu}
use Rattle.cql_rewrite.proofs.laws.menus_cover.Goals as goal

pub returns : goal.returns
returns c = λ counts n x h. let all = covered counts x n h in (all, chosen_has counts x (menu counts n) all)
