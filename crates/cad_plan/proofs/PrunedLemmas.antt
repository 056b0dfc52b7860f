-- What is left of a full plan is the choice of the form.
use Rattle.std.proofs.Common.{◌≡◌, ◌∙◌, ap, ap₂, refl, sym, subst, ℕ, true, false, List, [], ◌∷◌, ◌++◌, map, filter}
use Rattle.cad_feature.specs.Limits.{Limit}
use Rattle.cad_grid.specs.Blocks.{Block}
use Rattle.cad_lookup.specs.Ways.{Way, all_features, no_feature, in_range, near_block, meet_of, join_of, ways_in, Counts}
use Rattle.cql_rewrite.specs.declared.form.Normal.{Normal}
use Rattle.cql_rewrite.specs.declared.form.Normal.TheOpen.{Normal-F}
use Rattle.cql_rewrite.specs.declared.form.Normal.TheFolds.{fold-roll-Normal, ind-Normal, map-Normal}
use Rattle.cql_rewrite.specs.Menus.{and_menu, cheaper, choice, chosen, is_narrow, meets_of, menu, menu_step, or_menu}
use Rattle.cql_rewrite.specs.inner.Choices.{Costs, EachCosts, all_costs, first_costs}
use Rattle.cad_plan.specs.Leaves.{full_step, full_way}
use Rattle.cad_plan.specs.inner.Pruned.{pruned, pruned_in}

pub of_all : (counts : Counts) → pruned counts all_features ≡ all_features
unfolding pruned
of_all counts = refl

pub of_none : (counts : Counts) → pruned counts no_feature ≡ cheaper counts all_features no_feature
unfolding pruned
of_none counts = refl

pub of_range : (counts : Counts) (property : ℕ) (low high : Limit) → pruned counts (in_range property low high) ≡ cheaper counts all_features (in_range property low high)
unfolding pruned
of_range counts property low high = refl

pub of_near : (counts : Counts) (property : ℕ) (block : Block) → pruned counts (near_block property block) ≡ cheaper counts all_features (near_block property block)
unfolding pruned
of_near counts property block = refl

of_parts : (counts : Counts) (ws : List Way) → pruned_in counts (ways_in ws) ≡ map (pruned counts) ws
unfolding pruned_in
of_parts counts [] = refl
of_parts counts (w ∷ ws) = ap (λ vs. pruned counts w ∷ vs) (of_parts counts ws)

pub of_meet : (counts : Counts) (ws : List Way) → pruned counts (meet_of (ways_in ws)) ≡ chosen counts (and_menu (map (pruned counts) ws))
unfolding pruned
of_meet counts ws = ap (λ vs. chosen counts (and_menu vs)) (of_parts counts ws)

pub of_join : (counts : Counts) (ws : List Way) → pruned counts (join_of (ways_in ws)) ≡ chosen counts (or_menu (map (pruned counts) ws))
unfolding pruned
of_join counts ws = ap (λ vs. chosen counts (or_menu vs)) (of_parts counts ws)

-- ---- it is all, or costs less

pub pruned_costs : (counts : Counts) (w : Way) → Costs counts (pruned counts w)
unfolding pruned
pruned_costs counts all_features = all_costs counts
pruned_costs counts no_feature = first_costs counts all_features (no_feature ∷ []) (all_costs counts)
pruned_costs counts (in_range property low high) = first_costs counts all_features (in_range property low high ∷ []) (all_costs counts)
pruned_costs counts (near_block property block) = first_costs counts all_features (near_block property block ∷ []) (all_costs counts)
pruned_costs counts (meet_of ways) = first_costs counts all_features (meets_of (filter is_narrow (pruned_in counts ways)) ++ pruned_in counts ways) (all_costs counts)
pruned_costs counts (join_of ways) = first_costs counts all_features (join_of (ways_in (pruned_in counts ways)) ∷ []) (all_costs counts)

pub each_costs : (counts : Counts) (ws : List Way) → EachCosts counts (map (pruned counts) ws)
each_costs counts [] = tt
each_costs counts (w ∷ ws) = (pruned_costs counts w, each_costs counts ws)

-- ---- it is the choice

abbrev Known : Counts → Type 0
Known counts = (n : Normal) × (pruned counts (full_way n) ≡ choice counts n)

all_known : (counts : Counts) (ks : List (Known counts)) → map (pruned counts) (map full_way (map (λ k. k.0) ks)) ≡ map (chosen counts) (map (menu counts) (map (λ k. k.0) ks))
all_known counts [] = refl
all_known counts (k ∷ ks) = ap₂ (λ w ws. w ∷ ws) k.1 (all_known counts ks)

step_known : (counts : Counts) (y : Normal-F (Known counts)) → pruned counts (full_step (map-Normal Normal Way full_way (map-Normal (Known counts) Normal (λ k. k.0) y))) ≡ chosen counts (menu_step counts (map-Normal Normal (List Way) (menu counts) (map-Normal (Known counts) Normal (λ k. k.0) y)))
step_known counts (Normal-F.Constant true) = of_all counts
step_known counts (Normal-F.Constant false) = of_none counts
step_known counts (Normal-F.Range r) = of_range counts _ _ _
step_known counts (Normal-F.Like pattern r) = of_range counts _ _ _
step_known counts (Normal-F.Atom f side) = of_all counts
step_known counts (Normal-F.Owned f side) = of_all counts
step_known counts (Normal-F.Folded text) = of_all counts
step_known counts (Normal-F.LikeFolded p) = of_all counts
step_known counts (Normal-F.Near f property shape) = of_near counts _ _
step_known counts (Normal-F.And parts) = of_meet counts _ ∙ ap (λ ws. chosen counts (and_menu ws)) (all_known counts parts.items)
step_known counts (Normal-F.Or parts) = of_join counts _ ∙ ap (λ ws. chosen counts (or_menu ws)) (all_known counts parts.items)

pub pruned_form : (counts : Counts) (n : Normal) → pruned counts (full_way n) ≡ choice counts n
pruned_form counts n = ind-Normal (λ n. pruned counts (full_way n) ≡ choice counts n) (λ d y is.
    ap (pruned counts) (fold-roll-Normal Way full_step d)
    ∙ subst (λ d'. pruned counts (full_step (map-Normal Normal Way full_way d')) ≡ chosen counts (menu_step counts (map-Normal Normal (List Way) (menu counts) d'))) is (step_known counts y)
    ∙ ap (chosen counts) (sym (fold-roll-Normal (List Way) (menu_step counts) d))) n
