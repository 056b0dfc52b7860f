-- The full plan of each kind of form, and the leaves of each kind of way.
use Rattle.std.proofs.Common.{◌≡◌, ◌∙◌, ap, refl, sym, ℕ, zero, suc, ◌+◌, ◌≤◌, List, [], ◌∷◌, ◌++◌, append_assoc, append-nil, map, length, take, drop, get_or, arith}
use Rattle.std.specs.Prelude.{Vec}
use Rattle.std.proofs.lemmas.List.{map-append, take_all}
use Rattle.std.specs.declared.alloc.Global.{Global}
use Rattle.cad_feature.specs.Limits.{Limit}
use Rattle.cad_grid.specs.Blocks.{Block}
use Rattle.cad_lookup.specs.declared.plan.Plan.{Plan}
use Rattle.cad_lookup.specs.Ways.{Way, all_features, no_feature, in_range, near_block, meet_of, join_of, ways_in, way_of, Counts, cost}
use Rattle.cql_rewrite.specs.declared.form.Normal.{Normal}
use Rattle.cql_rewrite.specs.declared.form.Normal.TheVariants as form
use Rattle.cql_rewrite.specs.declared.form.Normal.TheOpen.{Normal-F}
use Rattle.cql_rewrite.specs.declared.form.Normal.TheFolds.{fold-roll-Normal}
use Rattle.cad_plan.specs.Leaves.{full_step, full_way, leaf_counts, leaves, leaves_in}
use Rattle.cad_plan.specs.inner.Windows.{counts_of_leaves}
use Rattle.cad_plan.proofs.ListLemmas.{map_next, map_push}

-- ---- full ways

pub full_And : (v : Vec Normal Global) → full_way (form.And v) ≡ meet_of (ways_in (map full_way v.items))
full_And v = ap full_way (sym (form.rolls-And v)) ∙ fold-roll-Normal Way full_step (Normal-F.And v)

pub full_Or : (v : Vec Normal Global) → full_way (form.Or v) ≡ join_of (ways_in (map full_way v.items))
full_Or v = ap full_way (sym (form.rolls-Or v)) ∙ fold-roll-Normal Way full_step (Normal-F.Or v)

-- ---- leaves

pub all_leaf : (counts : Counts) → leaf_counts counts all_features ≡ cost counts all_features ∷ []
unfolding leaves
all_leaf counts = refl

pub none_leaf : (counts : Counts) → leaf_counts counts no_feature ≡ cost counts no_feature ∷ []
unfolding leaves
none_leaf counts = refl

pub range_leaf : (counts : Counts) (property : ℕ) (low high : Limit) → leaf_counts counts (in_range property low high) ≡ cost counts (in_range property low high) ∷ []
unfolding leaves
range_leaf counts property low high = refl

pub near_leaf : (counts : Counts) (property : ℕ) (block : Block) → leaf_counts counts (near_block property block) ≡ cost counts (near_block property block) ∷ []
unfolding leaves
near_leaf counts property block = refl

-- the cost of a leaf is its count
pub same_leaf : (counts : Counts) (w leaf : Way) → w ≡ leaf → leaf_counts counts leaf ≡ cost counts leaf ∷ [] → cost counts w ∷ [] ≡ leaf_counts counts w
same_leaf counts w leaf e one = ap (λ v. cost counts v ∷ []) e ∙ sym one ∙ ap (leaf_counts counts) (sym e)

parts_leaves : (counts : Counts) (ws : List Way) → map (cost counts) (leaves_in (ways_in ws)) ≡ counts_of_leaves counts ws
unfolding leaves_in
parts_leaves counts [] = refl
parts_leaves counts (w ∷ ws) = map-append (cost counts) (leaves w) (leaves_in (ways_in ws)) ∙ ap (λ ns. leaf_counts counts w ++ ns) (parts_leaves counts ws)

pub meet_leaves : (counts : Counts) (ws : List Way) → leaf_counts counts (meet_of (ways_in ws)) ≡ counts_of_leaves counts ws
unfolding leaves
meet_leaves counts ws = parts_leaves counts ws

pub join_leaves : (counts : Counts) (ws : List Way) → leaf_counts counts (join_of (ways_in ws)) ≡ counts_of_leaves counts ws
unfolding leaves
join_leaves counts ws = parts_leaves counts ws

-- ---- the leaves of plans, one after the other

abbrev pub leaves_of_plans : Counts → List Plan → List ℕ
leaves_of_plans counts ps = counts_of_leaves counts (map way_of ps)

counts_push : (counts : Counts) (ws : List Way) (w : Way) → counts_of_leaves counts (ws ++ w ∷ []) ≡ counts_of_leaves counts ws ++ leaf_counts counts w
counts_push counts [] w = append-nil (leaf_counts counts w)
counts_push counts (v ∷ ws) w = ap (λ ns. leaf_counts counts v ++ ns) (counts_push counts ws w) ∙ sym (append_assoc (leaf_counts counts v) (counts_of_leaves counts ws) (leaf_counts counts w))

next_by : {X : Type 0} (xs : List X) (i k : ℕ) (x : X) → k ≡ suc i → suc i ≤ length xs → x ≡ get_or xs i x → take k xs ≡ take i xs ++ x ∷ []
next_by [] i k x n h e = absurd (omega (arith, h))
next_by (y ∷ xs) i zero x n h e = absurd (omega (arith, n))
next_by (y ∷ xs) zero (suc k) x n h e = let z : k ≡ 0 = omega (arith, n) in ap (λ j. y ∷ take j xs) z ∙ ap (λ v. v ∷ []) (sym e)
next_by (y ∷ xs) (suc i) (suc k) x n h e = ap (λ ys. y ∷ ys) (next_by xs i k x (omega (arith, n)) (omega (arith, h)) e)

take_next : {X : Type 0} (xs : List X) (i : ℕ) (x : X) → suc i ≤ length xs → x ≡ get_or xs i x → take (i + 1) xs ≡ take i xs ++ x ∷ []
take_next xs i x h e = next_by xs i (i + 1) x (omega arith) h e

pub leaves_up_to : (counts : Counts) (ps : List Plan) (i : ℕ) (p : Plan) → suc i ≤ length ps → p ≡ get_or ps i p → leaves_of_plans counts (take (i + 1) ps) ≡ leaves_of_plans counts (take i ps) ++ leaf_counts counts (way_of p)
leaves_up_to counts ps i p h e = ap (leaves_of_plans counts) (take_next ps i p h e) ∙ ap (counts_of_leaves counts) (map_push way_of (take i ps) p) ∙ counts_push counts (map way_of (take i ps)) (way_of p)

pub leaves_up_to_end : (counts : Counts) (ps : List Plan) (i : ℕ) → length ps ≤ i → leaves_of_plans counts (take i ps) ≡ leaves_of_plans counts ps
leaves_up_to_end counts ps i h = ap (leaves_of_plans counts) (take_all i ps h)

pub leaves_from : (counts : Counts) (ps : List Plan) (i : ℕ) (p : Plan) → suc i ≤ length ps → p ≡ get_or ps i p → leaves_of_plans counts (drop i ps) ≡ leaf_counts counts (way_of p) ++ leaves_of_plans counts (drop (i + 1) ps)
leaves_from counts ps i p h e = ap (counts_of_leaves counts) (map_next way_of ps i p h e)
