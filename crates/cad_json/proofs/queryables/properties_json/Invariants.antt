use Rattle.std.proofs.Common.{◌≡◌, map, take}
use Rattle.std.specs.List.{fold}
use Rattle.serde_json.specs.Data.{no_members}
use Rattle.serde_json.specs.View.{members_view}
use Rattle.cad_schema.specs.Schema.{property_of}
use Rattle.cad_json.specs.Queryables.{with_queryable}
use Rattle.cad_json.proofs.queryables.properties_json.Given as goal

-- the members are the properties so far
abbrev pub invariant-loop-property : goal.invariant-loop-property
invariant-loop-property l = members_view l.members.entries ≡ fold with_queryable no_members (map property_of (take l.property-index l.schema))
