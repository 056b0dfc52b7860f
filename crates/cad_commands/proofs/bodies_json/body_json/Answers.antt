use Rattle.std.proofs.Common.{◌≡◌, codes, map, ap, ◌∙◌}
use Rattle.serde_json.proofs.Views.{view-Object}
use Rattle.serde_json.specs.Data.{object, no_members}
use Rattle.serde_json.specs.View.{members_view}
use Rattle.cad_versions.specs.BodyParts.{lent}
use Rattle.cad_versions.specs.Class.{class_attributes, class_of}
use Rattle.cad_commands.specs.Writing.{part_members}
use Rattle.cad_commands.proofs.ChosenLemmas.{one_more, puts_chosen}
use Rattle.cad_commands.proofs.PartLemmas.{body_put}
use Rattle.cad_commands.proofs.bodies_json.body_json.Goals as goal

pub returns : goal.returns
returns c =
    let names = class_attributes (class_of c.args.body.now) in
    let same : map (λ name. name.now) c.attributes-names.result.now ≡ names = c.attributes-names.ensures ∙ ap class_attributes c.class.ensures in
    let none : members_view c.new-members.result.entries ≡ no_members = ap members_view c.new-members.ensures.empty in
    let area = one_more _ names (codes "area") _ _ _ _ _ same none c.area_json-area.ensures c.in_ok-put_chosen.ensures in
    let code = one_more _ names (codes "code") _ _ _ _ _ same area c.in_ok-code.ensures c.in_ok-put_chosen-2.ensures in
    let holes = one_more _ names (codes "holes") _ _ _ _ _ same code c.in_ok-holes.ensures c.in_ok-put_chosen-3.ensures in
    let label = one_more _ names (codes "label") _ _ _ _ _ same holes c.in_ok-label.ensures c.in_ok-put_chosen-4.ensures in
    let name = one_more _ names (codes "name") _ _ _ _ _ same label c.in_ok-name.ensures c.in_ok-put_chosen-5.ensures in
    let party = one_more _ names (codes "party") _ _ _ _ _ same name c.any_object_json-party.ensures c.in_ok-put_chosen-6.ensures in
    let required = one_more _ names (codes "required") _ _ _ _ _ same party c.flag_json-required.ensures c.in_ok-put_chosen-7.ensures in
    let shape = one_more _ names (codes "shape") _ _ _ _ _ same required c.in_ok-shape.ensures c.in_ok-put_chosen-8.ensures in
    let share = one_more _ names (codes "share") _ _ _ _ _ same shape c.in_ok-share.ensures c.in_ok-put_chosen-9.ensures in
    let spot = one_more _ names (codes "spot") _ _ _ _ _ same share c.in_ok-spot.ensures c.in_ok-put_chosen-10.ensures in
    let unit = one_more _ names (codes "unit") _ _ _ _ _ same spot c.any_object_json-unit.ensures c.in_ok-put_chosen-11.ensures in
    let all : members_view c.put_chosen-11.new.members.entries ≡ puts_chosen names (part_members (lent c.parts-parts.result)) no_members = unit in
    view-Object c.put_chosen-11.new.members ∙ ap object (all ∙ ap (λ parts. puts_chosen names (part_members parts) no_members) c.parts-parts.ensures ∙ body_put c.args.body.now)
