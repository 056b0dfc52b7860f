-- What holds of plans and their ways.
use Rattle.std.specs.Prelude.{◌≡◌}
use Rattle.cad_feature.specs.Features.{Item}
use Rattle.cad_lookup.specs.declared.plan.Plan.{Plan}
use Rattle.cad_lookup.specs.Candidates.{is_candidate}
use Rattle.cad_lookup.specs.Ways.{is_found, way_of}

-- a plan's candidates are those of its way
abbrev pub WaysHaveTheCandidates : Type 0
WaysHaveTheCandidates = (p : Plan) (x : Item) → is_candidate p x ≡ is_found (way_of p) x
