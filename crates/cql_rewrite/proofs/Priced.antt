-- The choice of a menu costs no more than the least.
use Rattle.std.proofs.Common.{◌≡◌, ◌∙◌, ap, refl, subst, ℕ, suc, ◌≤◌, min, true, false, List, [], ◌∷◌, ◌++◌, map, length, filter, arith}
use Rattle.cad_grid.specs.Blocks.{block_around}
use Rattle.cad_grid.specs.Near.{is_near}
use Rattle.cad_shape.specs.Shapes.{shape_corners}
use Rattle.cad_range.specs.Ranges.{lies_in}
use Rattle.cad_feature.specs.declared.range.Range.{Range}
use Rattle.cad_feature.specs.Limits.{limit_of}
use Rattle.cad_lookup.specs.Ways.{Way, all_features, no_feature, near_block, join_of, ways_in, range_way, Counts, cost, counts_of, how_many, min_of, total}
use Rattle.cad_lookup.specs.WayLaws.{cost_all, cost_none, cost_range, cost_near, cost_join, how_many_map}
use Rattle.cql_rewrite.specs.declared.form.Normal.{Normal}
use Rattle.cql_rewrite.specs.declared.form.Normal.TheOpen.{Normal-F}
use Rattle.cql_rewrite.specs.declared.form.Normal.TheFolds.{fold-roll-Normal, ind-Normal, map-Normal}
use Rattle.cql_rewrite.specs.inner.Choices.{cheaper_cost, first_cost}
use Rattle.cql_rewrite.specs.Costs.{every, least, least_step, near_count}
use Rattle.cql_rewrite.specs.Meets.{Written}
use Rattle.cql_rewrite.specs.Menus.{chosen, is_narrow, meets_of, and_menu, menu_step, menu}

-- the features of the list, counted
abbrev counted : List Written → Counts
counted t = counts_of (map (λ x. x.item) t)

length_map : {X Y : Type 0} (f : X → Y) (xs : List X) → length (map f xs) ≡ length xs
length_map f [] = refl
length_map f (x ∷ xs) = ap suc (length_map f xs)

all_cost : (t : List Written) → cost (counted t) all_features ≡ every t
all_cost t = cost_all (counted t) ∙ length_map (λ x. x.item) t

range_cost : (t : List Written) (r : Range) → cost (counted t) (range_way r) ≡ how_many (λ x. lies_in x.item r) t
range_cost t r = cost_range (counted t) r.property (limit_of r.low) (limit_of r.high) ∙ how_many_map (λ x. lies_in x r) (λ x. x.item) t

-- of all and one other
two_cost : (t : List Written) (w : Way) → cost (counted t) (chosen (counted t) (all_features ∷ w ∷ [])) ≡ min (cost (counted t) w) (every t)
two_cost t w = cheaper_cost (counted t) all_features w ∙ ap (λ n. min (cost (counted t) w) n) (all_cost t)

-- ---- AND

less_more : (n : ℕ) (cs ds : List ℕ) → min_of n (cs ++ ds) ≤ min_of n ds
less_more n [] ds = omega arith
less_more n (c ∷ cs) ds = omega (arith, less_more n cs ds)

map_more : (counts : Counts) (vs ws : List Way) → map (cost counts) (vs ++ ws) ≡ map (cost counts) vs ++ map (cost counts) ws
map_more counts [] ws = refl
map_more counts (v ∷ vs) ws = ap (λ cs. cost counts v ∷ cs) (map_more counts vs ws)

and_cost : (t : List Written) (ws : List Way) → cost (counted t) (chosen (counted t) (and_menu ws)) ≤ min_of (every t) (map (cost (counted t)) ws)
and_cost t ws =
    let vs : List Way = meets_of (filter is_narrow ws) in
    let e : cost (counted t) (chosen (counted t) (and_menu ws)) ≡ min_of (every t) (map (cost (counted t)) vs ++ map (cost (counted t)) ws) =
    first_cost (counted t) all_features (vs ++ ws) ∙ ap (λ n. min_of n (map (cost (counted t)) (vs ++ ws))) (all_cost t) ∙ ap (min_of (every t)) (map_more (counted t) vs ws) in
    omega (arith, e, less_more (every t) (map (cost (counted t)) vs) (map (cost (counted t)) ws))

-- each of the forms
abbrev Known : List Written → Type 0
Known t = (n : Normal) × (cost (counted t) (chosen (counted t) (menu (counted t) n)) ≤ least t n)

abbrev choices_of : (t : List Written) → List (Known t) → List Way
choices_of t ns = map (chosen (counted t)) (map (menu (counted t)) (map (λ k. k.0) ns))

all_parts : (t : List Written) (ns : List (Known t)) → min_of (every t) (map (cost (counted t)) (choices_of t ns)) ≤ min_of (every t) (map (least t) (map (λ k. k.0) ns))
all_parts t [] = omega arith
all_parts t (k ∷ ns) = let h = k.1 in omega (arith, all_parts t ns)

some_parts : (t : List Written) (ns : List (Known t)) → total (map (cost (counted t)) (choices_of t ns)) ≤ total (map (least t) (map (λ k. k.0) ns))
some_parts t [] = omega arith
some_parts t (k ∷ ns) = let h = k.1 in omega (arith, some_parts t ns)

step_priced : (t : List Written) (y : Normal-F (Known t)) →
    cost (counted t) (chosen (counted t) (menu_step (counted t) (map-Normal Normal (List Way) (menu (counted t)) (map-Normal (Known t) Normal (λ k. k.0) y))))
    ≤ least_step t (map-Normal Normal ℕ (least t) (map-Normal (Known t) Normal (λ k. k.0) y))
step_priced t (Normal-F.Constant true) = omega (arith, all_cost t)
step_priced t (Normal-F.Constant false) = omega (arith, two_cost t no_feature, cost_none (counted t))
step_priced t (Normal-F.Range r) = omega (arith, two_cost t (range_way r), range_cost t r)
step_priced t (Normal-F.Like pattern r) = omega (arith, two_cost t (range_way r), range_cost t r)
step_priced t (Normal-F.Atom f side) = omega (arith, all_cost t)
step_priced t (Normal-F.Owned f side) = omega (arith, all_cost t)
step_priced t (Normal-F.Folded text) = omega (arith, all_cost t)
step_priced t (Normal-F.LikeFolded p) = omega (arith, all_cost t)
step_priced t (Normal-F.Near f property shape) =
    let w : Way = near_block property (block_around (shape_corners shape.now)) in
    let e : cost (counted t) w ≡ near_count t property shape.now = cost_near (counted t) property (block_around (shape_corners shape.now)) ∙ how_many_map (is_near property (block_around (shape_corners shape.now))) (λ x. x.item) t in
    omega (arith, two_cost t w, e)
step_priced t (Normal-F.And parts) = omega (arith, and_cost t (choices_of t parts.items), all_parts t parts.items)
step_priced t (Normal-F.Or parts) = omega (arith, two_cost t (join_of (ways_in (choices_of t parts.items))), cost_join (counted t) (choices_of t parts.items), some_parts t parts.items)

by_steps : (a b c d : ℕ) → a ≡ c → b ≡ d → c ≤ d → a ≤ b
by_steps a b c d e f h = omega arith

pub priced : (t : List Written) (n : Normal) → cost (counted t) (chosen (counted t) (menu (counted t) n)) ≤ least t n
priced t = ind-Normal (λ n. cost (counted t) (chosen (counted t) (menu (counted t) n)) ≤ least t n) (λ d y is.
    by_steps _ _ _ _
    (ap (λ ws. cost (counted t) (chosen (counted t) ws)) (fold-roll-Normal (List Way) (menu_step (counted t)) d))
    (fold-roll-Normal ℕ (least_step t) d)
    (subst (λ d'. cost (counted t) (chosen (counted t) (menu_step (counted t) (map-Normal Normal (List Way) (menu (counted t)) d'))) ≤ least_step t (map-Normal Normal ℕ (least t) d')) is (step_priced t y)))
