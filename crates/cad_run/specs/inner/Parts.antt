-- The positions of the parts of a plan.
use Rattle.std.specs.Prelude.{◌≡◌, ℕ, Bool, List}
use Rattle.std.specs.List.{list_all, list_any}
use Rattle.cad_feature.specs.Features.{Item}
use Rattle.cad_lookup.specs.declared.plan.Plan.{Plan}
use Rattle.cad_lookup.specs.Candidates.{is_candidate}
use Rattle.cad_positions.specs.Has.{has}
use Rattle.cad_positions.specs.Held.{has_rank}
use Rattle.cad_run.specs.declared.parts.Wide.{Wide}
use Rattle.cad_run.specs.declared.parts.Part.{Part}
use Rattle.cad_run.specs.declared.parts.Part.TheVariants as part
use Rattle.cad_run.specs.Positions.{holds_at}

abbrev pub has_wide : Wide → ℕ → Bool
has_wide w k = has_rank w.end w.ranks.now w.from w.to k

abbrev pub has_part : Part → ℕ → Bool
has_part (part.Walked source) k = has source k
has_part (part.Wide wide) k = has_wide wide k

abbrev pub has_all_wide : List Wide → ℕ → Bool
has_all_wide ws k = list_all (λ w. has_wide w k) ws

abbrev pub has_all_parts : List Part → ℕ → Bool
has_all_parts ps k = list_all (λ p. has_part p k) ps

abbrev pub has_any_part : List Part → ℕ → Bool
has_any_part ps k = list_any (λ p. has_part p k) ps

-- the part has the positions of the features that pass
abbrev pub PartStands : List Item → (Item → Bool) → Part → Type 0
PartStands xs test p = (k : ℕ) → has_part p k ≡ holds_at test xs k

-- the feature at the position is a candidate of all plans, or of at least one
abbrev pub all_hold : List Plan → List Item → ℕ → Bool
all_hold plans xs k = list_all (λ p. holds_at (is_candidate p) xs k) plans

abbrev pub any_holds : List Plan → List Item → ℕ → Bool
any_holds plans xs k = list_any (λ p. holds_at (is_candidate p) xs k) plans
