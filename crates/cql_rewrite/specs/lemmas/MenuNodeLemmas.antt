-- The menu of each kind of form, and the choice of a part.
use Rattle.std.specs.Prelude.{◌≡◌, true, false, List, [], ◌∷◌, map, filter, ◌++◌, Vec}
use Rattle.std.proofs.Common.{◌∙◌, ap, refl, sym}
use Rattle.std.specs.declared.alloc.Global.{Global}
use Rattle.cad_grid.specs.Blocks.{block_around}
use Rattle.cad_shape.specs.Shapes.{shape_corners}
use Rattle.cad_lookup.specs.Ways.{Way, all_features, no_feature, near_block, join_of, ways_in, range_way, Counts}
use Rattle.cql_rewrite.specs.declared.form.Normal.{Normal}
use Rattle.cql_rewrite.specs.declared.form.Normal.TheVariants as form
use Rattle.cql_rewrite.specs.declared.form.Normal.TheOpen.{Normal-F}
use Rattle.cql_rewrite.specs.declared.form.Normal.TheFolds.{fold-roll-Normal, fold_out-Normal, map-Normal}
use Rattle.cql_rewrite.specs.declared.form.Normal.TheViews.{out-Normal}
use Rattle.cql_rewrite.specs.Menus.{chosen, is_narrow, meets_of, and_menu, or_menu, menu_step, menu, choice}
use Rattle.cql_rewrite.specs.inner.Choices.{Costs, EachCosts, all_costs, first_costs}

choices_of : (counts : Counts) (ns : List Normal) → map (chosen counts) (map (menu counts) ns) ≡ map (choice counts) ns
choices_of counts [] = refl
choices_of counts (n ∷ ns) = ap (λ ws. choice counts n ∷ ws) (choices_of counts ns)

pub menu_And : (counts : Counts) (v : Vec Normal Global) → menu counts (form.And v) ≡ and_menu (map (choice counts) v.items)
menu_And counts v = ap (menu counts) (sym (form.rolls-And v)) ∙ fold-roll-Normal (List Way) (menu_step counts) (Normal-F.And v) ∙ ap and_menu (choices_of counts v.items)

pub menu_Or : (counts : Counts) (v : Vec Normal Global) → menu counts (form.Or v) ≡ or_menu (map (choice counts) v.items)
menu_Or counts v = ap (menu counts) (sym (form.rolls-Or v)) ∙ fold-roll-Normal (List Way) (menu_step counts) (Normal-F.Or v) ∙ ap or_menu (choices_of counts v.items)

-- ---- a choice is all, or costs less

and_costs : (counts : Counts) (ws : List Way) → Costs counts (chosen counts (and_menu ws))
and_costs counts ws = first_costs counts all_features (meets_of (filter is_narrow ws) ++ ws) (all_costs counts)

or_costs : (counts : Counts) (ws : List Way) → Costs counts (chosen counts (or_menu ws))
or_costs counts ws = first_costs counts all_features (join_of (ways_in ws) ∷ []) (all_costs counts)

step_costs : (counts : Counts) (y : Normal-F (List Way)) → Costs counts (chosen counts (menu_step counts y))
step_costs counts (Normal-F.Constant true) = all_costs counts
step_costs counts (Normal-F.Constant false) = first_costs counts all_features (no_feature ∷ []) (all_costs counts)
step_costs counts (Normal-F.Range r) = first_costs counts all_features (range_way r ∷ []) (all_costs counts)
step_costs counts (Normal-F.Like pattern r) = first_costs counts all_features (range_way r ∷ []) (all_costs counts)
step_costs counts (Normal-F.Atom f side) = all_costs counts
step_costs counts (Normal-F.Owned f side) = all_costs counts
step_costs counts (Normal-F.Folded text) = all_costs counts
step_costs counts (Normal-F.LikeFolded p) = all_costs counts
step_costs counts (Normal-F.Near f property shape) = first_costs counts all_features (near_block property (block_around (shape_corners shape.now)) ∷ []) (all_costs counts)
step_costs counts (Normal-F.And parts) = and_costs counts (map (chosen counts) parts.items)
step_costs counts (Normal-F.Or parts) = or_costs counts (map (chosen counts) parts.items)

pub choice_costs : (counts : Counts) (n : Normal) → Costs counts (choice counts n)
choice_costs counts n = rw (fold_out-Normal (List Way) (menu_step counts) n) (step_costs counts (map-Normal Normal (List Way) (menu counts) (out-Normal n)))

pub choices_cost : (counts : Counts) (ns : List Normal) → EachCosts counts (map (choice counts) ns)
choices_cost counts [] = tt
choices_cost counts (n ∷ ns) = (choice_costs counts n, choices_cost counts ns)
