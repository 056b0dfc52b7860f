-- The candidates of a plan (own profile).
use Rattle.std.specs.Prelude.{◌≡◌, ℕ, Bool, true, false, List, [], ◌∷◌, ◌||◌, map, filter, Vec}
use Rattle.std.specs.List.{list_all, list_any}
use Rattle.std.proofs.Common.{◌∙◌, ap, refl, sym}
use Rattle.std.proofs.lemmas.List.Folds.{list_all-map}
use Rattle.std.specs.declared.alloc.Global.{Global}
use Rattle.cad_shape.specs.declared.boxes.Bounds.{Bounds}
use Rattle.cad_grid.specs.Blocks.{block_of}
use Rattle.cad_grid.specs.Near.{is_near}
use Rattle.cad_feature.specs.Features.{Item}
use Rattle.cad_feature.specs.declared.range.Range.{Range}
use Rattle.cad_range.specs.Ranges.{lies_in}
use Rattle.cad_lookup.specs.declared.plan.Plan.{Plan}
use Rattle.cad_lookup.specs.declared.plan.Plan.TheVariants as plan
use Rattle.cad_lookup.specs.declared.plan.Plan.TheOpen.{Plan-F}
use Rattle.cad_lookup.specs.declared.plan.Plan.TheFolds.{fold-Plan, fold-roll-Plan}

-- a plan, with whether the feature is a candidate of each part in the part's place
abbrev pub candidate_step : Item → Plan-F Bool → Bool
candidate_step x Plan-F.All = true
candidate_step x Plan-F.Empty = false
candidate_step x (Plan-F.Range r) = lies_in x r
candidate_step x (Plan-F.Near property bounds) = is_near property (block_of bounds) x
candidate_step x (Plan-F.Meet plans) = list_all (λ b. b) plans.items
candidate_step x (Plan-F.Join plans) = list_any (λ b. b) plans.items

-- the plan has the feature among its candidates
abbrev pub is_candidate : Plan → Item → Bool
is_candidate p x = fold-Plan Bool (candidate_step x) p

abbrev pub candidates : Plan → List Item → List Item
candidates p xs = filter (is_candidate p) xs

-- ---- what each plan has

any_map : {Y : Type 0} (h : Y → Bool) (ys : List Y) → list_any (λ b. b) (map h ys) ≡ list_any h ys
any_map h [] = refl
any_map h (y ∷ ys) = ap (λ b. h y || b) (any_map h ys)

pub candidate_All : (x : Item) → is_candidate plan.All x ≡ true
candidate_All x = ap (λ p. is_candidate p x) (sym plan.rolls-All) ∙ fold-roll-Plan Bool (candidate_step x) Plan-F.All

pub candidate_Empty : (x : Item) → is_candidate plan.Empty x ≡ false
candidate_Empty x = ap (λ p. is_candidate p x) (sym plan.rolls-Empty) ∙ fold-roll-Plan Bool (candidate_step x) Plan-F.Empty

pub candidate_Range : (x : Item) (r : Range) → is_candidate (plan.Range r) x ≡ lies_in x r
candidate_Range x r = ap (λ p. is_candidate p x) (sym (plan.rolls-Range r)) ∙ fold-roll-Plan Bool (candidate_step x) (Plan-F.Range r)

pub candidate_Near : (x : Item) (property : ℕ) (bounds : Bounds) → is_candidate (plan.Near property bounds) x ≡ is_near property (block_of bounds) x
candidate_Near x property bounds = ap (λ p. is_candidate p x) (sym (plan.rolls-Near property bounds)) ∙ fold-roll-Plan Bool (candidate_step x) (Plan-F.Near property bounds)

pub candidate_Meet : (x : Item) (plans : Vec Plan Global) → is_candidate (plan.Meet plans) x ≡ list_all (λ p. is_candidate p x) plans.items
candidate_Meet x plans =
    ap (λ p. is_candidate p x) (sym (plan.rolls-Meet plans)) ∙ fold-roll-Plan Bool (candidate_step x) (Plan-F.Meet plans)
    ∙ list_all-map (λ b. b) (λ p. is_candidate p x) plans.items

pub candidate_Join : (x : Item) (plans : Vec Plan Global) → is_candidate (plan.Join plans) x ≡ list_any (λ p. is_candidate p x) plans.items
candidate_Join x plans =
    ap (λ p. is_candidate p x) (sym (plan.rolls-Join plans)) ∙ fold-roll-Plan Bool (candidate_step x) (Plan-F.Join plans)
    ∙ any_map (λ p. is_candidate p x) plans.items
