-- The listed properties of a feature as members of an object, for private clauses.
use Rattle.std.specs.Prelude.{ℕ, List, [], ◌∷◌, slice_get, Option, Some, None}
use Rattle.serde_json.specs.Data.{Members, no_members, member}
use Rattle.cad_schema.specs.Attributes.{Listed}
use Rattle.cad_feature.specs.Features.{Item}
use Rattle.cad_feature.specs.Values.{Datum}
use Rattle.cad_json.specs.Values.{value_data}

-- the member, if there is a value
abbrev pub member_if : List ℕ → Option Datum → Members → Members
member_if name None ms = ms
member_if name (Some d) ms = member name (value_data d) ms

-- the values at these places, under their names
abbrev pub values_at : List Datum → List Listed → Members
values_at values [] = no_members
values_at values (p ∷ ps) = member_if p.0 (slice_get values p.1) (values_at values ps)

-- of a feature
abbrev pub members_at : Item → List Listed → Members
members_at x = values_at x.values
