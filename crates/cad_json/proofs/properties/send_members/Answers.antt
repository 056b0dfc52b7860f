use Rattle.std.proofs.Common.{◌≡◌, [], map, drop, Some, sym, subst, arith}
use Rattle.std.proofs.lemmas.List.{drop_all}
use Rattle.std.proofs.lemmas.Result.{on_ok_weaker}
use Rattle.serde.specs.Event.{Logs, map_begins}
use Rattle.serde_json.specs.Events.{SendsMembers}
use Rattle.cad_json.specs.Sent.{AreMembersOfWholes}
use Rattle.cad_schema.specs.Attributes.{listed_of}
use Rattle.cad_json.specs.inner.Members.{members_at}
use Rattle.cad_json.proofs.properties.send_members.Goals as goal

pub returns : goal.returns
returns g c =
    let w = g.S.Serializer.written in
    let x = c.args.feature.now in
    let ms = c.args.listed.now in
    let first = w c.begin_map.new.self in
    let begun = subst (λ n. Logs (w c.args.out.now) first (map_begins (Some n))) c.members_count.ensures c.in_ok-begin_map.ensures in
    let none : drop c.loop-property.property-index ms ≡ [] = drop_all c.loop-property.property-index ms (omega arith) in
    let end = w c.end_map.new.self in
    on_ok_weaker c.end_map.result (λ e. (
      (first, begun, c.loop-property.invariant.sent end (subst (λ ys. SendsMembers (members_at x (map listed_of ys)) (w c.loop-property.out) end) (sym none) e)),
      c.loop-property.invariant.whole (subst (λ ys. AreMembersOfWholes (members_at x (map listed_of ys))) (sym none) tt),
    )) c.end_map.ensures
