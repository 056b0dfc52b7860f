use Rattle.std.proofs.Common.{map, drop}
use Rattle.serde.specs.Event.{Log}
use Rattle.serde_json.specs.Events.{SendsMembers}
use Rattle.cad_json.specs.Sent.{AreMembersOfWholes}
use Rattle.cad_schema.specs.Attributes.{listed_of}
use Rattle.cad_json.specs.inner.Members.{members_at}
use Rattle.cad_json.proofs.properties.send_members.Given as goal

-- whatever ends it well from here ends it well from the start
abbrev pub invariant-loop-property : goal.invariant-loop-property
invariant-loop-property g l = record {
  sent :
      (end : Log) → SendsMembers (members_at l.feature (map listed_of (drop l.property-index l.listed))) (g.S.Serializer.written l.out) end
      → SendsMembers (members_at l.feature (map listed_of l.listed)) (g.S.Serializer.written l.initial.out) end;
  whole :
      AreMembersOfWholes (members_at l.feature (map listed_of (drop l.property-index l.listed)))
      → AreMembersOfWholes (members_at l.feature (map listed_of l.listed));
}
