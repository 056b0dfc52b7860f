-- The running minimum is the first way of least cost.
use Rattle.std.proofs.Common.{◌≡◌, ◌∙◌, ap, refl, ◌<◌, ◌≤◌, Bool, true, false, List, [], ◌∷◌, ◌++◌, map, arith}
use Rattle.std.specs.Prelude.{nat_lt, if◌then◌else◌}
use Rattle.std.specs.List.{AllByRecursion}
use Rattle.std.proofs.lemmas.List.Elements.{All-from_recursion}
use Rattle.cad_lookup.specs.Ways.{Way, all_features, Counts, cost}
use Rattle.cql_rewrite.specs.declared.form.Normal.{Normal}
use Rattle.cql_rewrite.specs.declared.form.Normal.TheOpen.{Normal-F}
use Rattle.cql_rewrite.specs.declared.form.Normal.TheFolds.{fold_out-Normal, map-Normal}
use Rattle.cql_rewrite.specs.declared.form.Normal.TheViews.{out-Normal}
use Rattle.cql_rewrite.specs.inner.Choices.{first_cost, min_of_under}
use Rattle.cql_rewrite.specs.Menus.{IsFirstOfLeast, chosen, choice, first_least, menu, menu_step}

-- the same, with lists that are walked
record Found (counts : Counts) (w : Way) (ws : List Way) : Type 0 where
  before : List Way
  behind : List Way
  stands : ws ≡ before ++ w ∷ behind
  less : AllByRecursion (λ v. cost counts w < cost counts v) before
  no_more : AllByRecursion (λ v. cost counts w ≤ cost counts v) behind

-- what is found costs no more than the first
least_first : (counts : Counts) (w : Way) (ws : List Way) → cost counts (first_least counts w ws) ≤ cost counts w
least_first counts w ws = omega (arith, first_cost counts w ws, min_of_under (cost counts w) (map (cost counts) ws))

-- the first costs more than the second: it stands before what is found among the others
found_later : (counts : Counts) (r w v : Way) (vs : List Way) → cost counts r ≤ cost counts v → cost counts v < cost counts w → Found counts r (v ∷ vs) → Found counts r (w ∷ v ∷ vs)
found_later counts r w v vs under over f = record {
  before = w ∷ f.before;
  behind = f.behind;
  stands = ap (λ ws. w ∷ ws) f.stands;
  less = (omega (arith, under, over), f.less);
  no_more = f.no_more;
}

-- the first costs no more than the second: what is found stays found with the second among them
found_with : (counts : Counts) (r w v : Way) (vs before behind : List Way) → cost counts w ≤ cost counts v → w ∷ vs ≡ before ++ r ∷ behind
    → AllByRecursion (λ u. cost counts r < cost counts u) before → AllByRecursion (λ u. cost counts r ≤ cost counts u) behind → Found counts r (w ∷ v ∷ vs)
found_with counts r w v vs [] behind h e less no_more =
    let first : w ≡ r = cc in
    let rest : vs ≡ behind = cc in
    record {
      before = [];
      behind = v ∷ behind;
      stands = ap (λ u. u ∷ v ∷ vs) first ∙ ap (λ us. r ∷ v ∷ us) rest;
      less = tt;
      no_more = (rw (← first) h, no_more);
    }
found_with counts r w v vs (b ∷ bs) behind h e less no_more =
    let first : w ≡ b = cc in
    let rest : vs ≡ bs ++ r ∷ behind = cc in
    let under : cost counts r < cost counts w = rw first less.0 in
    record {
      before = w ∷ v ∷ bs;
      behind = behind;
      stands = ap (λ us. w ∷ v ∷ us) rest;
      less = (under, (omega (arith, under, h), less.1));
      no_more = no_more;
    }

found_if : (counts : Counts) (w v : Way) (vs : List Way) (b : Bool) → b ≡ nat_lt (cost counts v) (cost counts w) → Found counts (first_least counts v vs) (v ∷ vs) → Found counts (first_least counts w vs) (w ∷ vs)
    → Found counts (first_least counts (if b then v else w) vs) (w ∷ v ∷ vs)
found_if counts w v vs true at goes stays = found_later counts (first_least counts v vs) w v vs (least_first counts v vs) (grind (arith, at)) goes
found_if counts w v vs false at goes stays =
    found_with counts (first_least counts w vs) w v vs stays.before stays.behind (grind (arith, at)) stays.stands stays.less stays.no_more

found : (counts : Counts) (w : Way) (ws : List Way) → Found counts (first_least counts w ws) (w ∷ ws)
found counts w [] = record { before = []; behind = []; stands = refl; less = tt; no_more = tt }
found counts w (v ∷ vs) = found_if counts w v vs (nat_lt (cost counts v) (cost counts w)) refl (found counts v vs) (found counts w vs)

first_of : (counts : Counts) (w : Way) (ws : List Way) → IsFirstOfLeast counts (chosen counts (w ∷ ws)) (w ∷ ws)
first_of counts w ws =
    let f = found counts w ws in
    record {
      before = f.before;
      behind = f.behind;
      stands = f.stands;
      less = All-from_recursion (λ v. cost counts (first_least counts w ws) < cost counts v) f.before f.less;
      no_more = All-from_recursion (λ v. cost counts (first_least counts w ws) ≤ cost counts v) f.behind f.no_more;
    }

-- no menu is empty
step_first : (counts : Counts) (y : Normal-F (List Way)) → IsFirstOfLeast counts (chosen counts (menu_step counts y)) (menu_step counts y)
step_first counts (Normal-F.Constant true) = first_of counts all_features _
step_first counts (Normal-F.Constant false) = first_of counts all_features _
step_first counts (Normal-F.Range r) = first_of counts all_features _
step_first counts (Normal-F.Like pattern r) = first_of counts all_features _
step_first counts (Normal-F.Atom f side) = first_of counts all_features _
step_first counts (Normal-F.Owned f side) = first_of counts all_features _
step_first counts (Normal-F.Folded text) = first_of counts all_features _
step_first counts (Normal-F.LikeFolded p) = first_of counts all_features _
step_first counts (Normal-F.Near f property shape) = first_of counts all_features _
step_first counts (Normal-F.And parts) = first_of counts all_features _
step_first counts (Normal-F.Or parts) = first_of counts all_features _

pub first_choice : (counts : Counts) (n : Normal) → IsFirstOfLeast counts (choice counts n) (menu counts n)
first_choice counts n = rw (fold_out-Normal (List Way) (menu_step counts) n) (step_first counts (map-Normal Normal (List Way) (menu counts) (out-Normal n)))
