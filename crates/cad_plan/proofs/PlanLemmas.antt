-- The candidates of plans, by their ways.
use Rattle.std.proofs.Common.{◌≡◌, ap₂, refl, ◌&&◌, List, [], ◌∷◌, map}
use Rattle.std.specs.List.{list_all}
use Rattle.cad_feature.specs.Features.{Item}
use Rattle.cad_lookup.specs.Candidates.{is_candidate}
use Rattle.cad_lookup.specs.WayLaws.{found_candidates}
use Rattle.cad_lookup.specs.Ways.{is_found, way_of}
use Rattle.cad_lookup.specs.declared.plan.Plan.{Plan}

pub all_found : (x : Item) (ps : List Plan) → list_all (λ p. is_candidate p x) ps ≡ list_all (λ w. is_found w x) (map way_of ps)
all_found x [] = refl
all_found x (p ∷ ps) = ap₂ (λ a b. a && b) (found_candidates p x) (all_found x ps)
