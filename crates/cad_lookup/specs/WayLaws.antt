-- The way of each kind of plan, its candidates and its cost.
use Rattle.std.specs.Prelude.{◌≡◌, ℕ, min, Bool, true, false, ◌&&◌, ◌||◌, List, [], ◌∷◌, map, Vec}
use Rattle.std.specs.List.{list_all, list_any}
use Rattle.std.proofs.Common.{◌∙◌, ap, ap₂, refl, sym, subst, suc, if◌then◌else◌}
use Rattle.std.specs.declared.alloc.Global.{Global}
use Rattle.cad_shape.specs.declared.boxes.Bounds.{Bounds}
use Rattle.cad_grid.specs.Blocks.{Block, block_of}
use Rattle.cad_grid.specs.Near.{is_near}
use Rattle.cad_feature.specs.Features.{Item}
use Rattle.cad_feature.specs.Limits.{Limit}
use Rattle.cad_feature.specs.declared.range.Range.{Range}
use Rattle.cad_range.specs.Ranges.{lies_in}
use Rattle.cad_lookup.specs.declared.plan.Plan.{Plan}
use Rattle.cad_lookup.specs.declared.plan.Plan.TheVariants as plan
use Rattle.cad_lookup.specs.declared.plan.Plan.TheOpen.{Plan-F}
use Rattle.cad_lookup.specs.declared.plan.Plan.TheFolds.{fold-roll-Plan, ind-Plan, map-Plan}
use Rattle.cad_lookup.specs.Candidates.{candidate_step, is_candidate}
use Rattle.cad_lookup.specs.Ways.{Way, all_features, no_feature, in_range, near_block, meet_of, join_of, ways_in, range_way, way_step, way_of, is_found, found_by_all, found_by_some, least_or, total, Counts, most, cost, costs, how_many}

pub way_All : way_of plan.All ≡ all_features
way_All = ap way_of (sym plan.rolls-All) ∙ fold-roll-Plan Way way_step Plan-F.All

pub way_Empty : way_of plan.Empty ≡ no_feature
way_Empty = ap way_of (sym plan.rolls-Empty) ∙ fold-roll-Plan Way way_step Plan-F.Empty

pub way_Range : (r : Range) → way_of (plan.Range r) ≡ range_way r
way_Range r = ap way_of (sym (plan.rolls-Range r)) ∙ fold-roll-Plan Way way_step (Plan-F.Range r)

pub way_Near : (property : ℕ) (bounds : Bounds) → way_of (plan.Near property bounds) ≡ near_block property (block_of bounds)
way_Near property bounds = ap way_of (sym (plan.rolls-Near property bounds)) ∙ fold-roll-Plan Way way_step (Plan-F.Near property bounds)

pub way_Meet : (plans : Vec Plan Global) → way_of (plan.Meet plans) ≡ meet_of (ways_in (map way_of plans.items))
way_Meet plans = ap way_of (sym (plan.rolls-Meet plans)) ∙ fold-roll-Plan Way way_step (Plan-F.Meet plans)

pub way_Join : (plans : Vec Plan Global) → way_of (plan.Join plans) ≡ join_of (ways_in (map way_of plans.items))
way_Join plans = ap way_of (sym (plan.rolls-Join plans)) ∙ fold-roll-Plan Way way_step (Plan-F.Join plans)

-- ---- candidates

pub found_all : (x : Item) → is_found all_features x ≡ true
unfolding is_found
found_all x = refl

pub found_none : (x : Item) → is_found no_feature x ≡ false
unfolding is_found
found_none x = refl

pub found_range : (r : Range) (x : Item) → is_found (range_way r) x ≡ lies_in x r
unfolding is_found
found_range r x = refl

pub found_near : (property : ℕ) (block : Block) (x : Item) → is_found (near_block property block) x ≡ is_near property block x
unfolding is_found
found_near property block x = refl

by_all : (ws : List Way) (x : Item) → found_by_all (ways_in ws) x ≡ list_all (λ w. is_found w x) ws
unfolding found_by_all
by_all [] x = refl
by_all (w ∷ ws) x = ap (λ b. is_found w x && b) (by_all ws x)

by_some : (ws : List Way) (x : Item) → found_by_some (ways_in ws) x ≡ list_any (λ w. is_found w x) ws
unfolding found_by_some
by_some [] x = refl
by_some (w ∷ ws) x = ap (λ b. is_found w x || b) (by_some ws x)

pub found_meet : (ws : List Way) (x : Item) → is_found (meet_of (ways_in ws)) x ≡ list_all (λ w. is_found w x) ws
unfolding is_found
found_meet ws x = by_all ws x

pub found_join : (ws : List Way) (x : Item) → is_found (join_of (ways_in ws)) x ≡ list_any (λ w. is_found w x) ws
unfolding is_found
found_join ws x = by_some ws x

-- ---- a plan's candidates are those of its way

-- each of the plans
abbrev Known : Item → Type 0
Known x = (p : Plan) × (is_candidate p x ≡ is_found (way_of p) x)

all_known : (x : Item) (ps : List (Known x)) → list_all (λ b. b) (map (λ p. is_candidate p x) (map (λ k. k.0) ps)) ≡ list_all (λ w. is_found w x) (map way_of (map (λ k. k.0) ps))
all_known x [] = refl
all_known x (k ∷ ps) = ap₂ (λ a b. a && b) k.1 (all_known x ps)

some_known : (x : Item) (ps : List (Known x)) → list_any (λ b. b) (map (λ p. is_candidate p x) (map (λ k. k.0) ps)) ≡ list_any (λ w. is_found w x) (map way_of (map (λ k. k.0) ps))
some_known x [] = refl
some_known x (k ∷ ps) = ap₂ (λ a b. a || b) k.1 (some_known x ps)

step_known : (x : Item) (y : Plan-F (Known x)) → candidate_step x (map-Plan Plan Bool (λ p. is_candidate p x) (map-Plan (Known x) Plan (λ k. k.0) y)) ≡ is_found (way_step (map-Plan Plan Way way_of (map-Plan (Known x) Plan (λ k. k.0) y))) x
step_known x Plan-F.All = sym (found_all x)
step_known x Plan-F.Empty = sym (found_none x)
step_known x (Plan-F.Range r) = sym (found_range r x)
step_known x (Plan-F.Near property bounds) = sym (found_near property (block_of bounds) x)
step_known x (Plan-F.Meet plans) = all_known x plans.items ∙ sym (found_meet (map way_of (map (λ k. k.0) plans.items)) x)
step_known x (Plan-F.Join plans) = some_known x plans.items ∙ sym (found_join (map way_of (map (λ k. k.0) plans.items)) x)

pub found_candidates : (p : Plan) (x : Item) → is_candidate p x ≡ is_found (way_of p) x
found_candidates p x = ind-Plan (λ p. is_candidate p x ≡ is_found (way_of p) x) (λ d y is.
    fold-roll-Plan Bool (candidate_step x) d
    ∙ subst (λ d'. candidate_step x (map-Plan Plan Bool (λ p. is_candidate p x) d') ≡ is_found (way_step (map-Plan Plan Way way_of d')) x) is (step_known x y)
    ∙ ap (λ w. is_found w x) (sym (fold-roll-Plan Way way_step d))) p

-- ---- costs

costs_map : (counts : Counts) (ws : List Way) → costs counts (ways_in ws) ≡ map (cost counts) ws
unfolding costs
costs_map counts [] = refl
costs_map counts (w ∷ ws) = ap (λ cs. cost counts w ∷ cs) (costs_map counts ws)

pub cost_all : (counts : Counts) → cost counts all_features ≡ counts.every
unfolding cost
cost_all counts = refl

pub cost_none : (counts : Counts) → cost counts no_feature ≡ 0
unfolding cost
cost_none counts = refl

pub cost_range : (counts : Counts) (property : ℕ) (low high : Limit) → cost counts (in_range property low high) ≡ counts.between property low high
unfolding cost
cost_range counts property low high = refl

pub cost_near : (counts : Counts) (property : ℕ) (block : Block) → cost counts (near_block property block) ≡ counts.near property block
unfolding cost
cost_near counts property block = refl

pub cost_meet : (counts : Counts) (ws : List Way) → cost counts (meet_of (ways_in ws)) ≡ least_or counts.every (map (cost counts) ws)
unfolding cost
cost_meet counts ws = ap (least_or counts.every) (costs_map counts ws)

pub cost_join : (counts : Counts) (ws : List Way) → cost counts (join_of (ways_in ws)) ≡ min most (total (map (cost counts) ws))
unfolding cost
cost_join counts ws = ap (λ cs. min most (total cs)) (costs_map counts ws)

pub how_many_map : {X Y : Type 0} (test : Y → Bool) (f : X → Y) (xs : List X) → how_many test (map f xs) ≡ how_many (λ x. test (f x)) xs
how_many_map test f [] = refl
how_many_map test f (x ∷ xs) = ap (λ n. if test (f x) then (suc n) else n) (how_many_map test f xs)
