use Rattle.std.proofs.Common.{◌≡◌, ◌+◌, ◌≤◌, map, drop}
use Rattle.serde_json.specs.Events.{members_len}
use Rattle.cad_schema.specs.Attributes.{listed_of}
use Rattle.cad_json.specs.inner.Members.{members_at}
use Rattle.cad_json.proofs.properties.members_count.Given as goal

-- those so far, with those that are left, are all
abbrev pub invariant-loop-property : goal.invariant-loop-property
invariant-loop-property l = record {
  all : l.count + members_len (members_at l.feature (map listed_of (drop l.property-index l.listed))) ≡ members_len (members_at l.feature (map listed_of l.listed));
  few : l.count ≤ l.property-index;
}
