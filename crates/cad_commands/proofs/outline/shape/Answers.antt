use Rattle.std.proofs.Common.{◌≡◌, ◌∷◌, codes, Some}
use Rattle.serde_json.specs.View.{members_view}
use Rattle.cad_shape.specs.RegionRings.{rings_of}
use Rattle.cad_commands.specs.Bodies.{SaysShape}
use Rattle.cad_commands.specs.Members.{MayHave}
use Rattle.cad_commands.specs.Values.{IsRingOf, AreHolesOf, holes_listed}
use Rattle.cad_commands.proofs.ReadingLemmas.{unread_part}
use Rattle.cad_commands.proofs.ShapeLemmas.{outline_part, holes_part, region_part, shape_said}
use Rattle.cad_commands.proofs.outline.shape.Goals as goal

pub returns-in_err-outline : goal.returns-in_err-outline
returns-in_err-outline c =
    let ms = members_view c.args.members.now.map.entries in
    unread_part (λ v. v) (MayHave IsRingOf (codes "shape") ms) (SaysShape ms) _ _ c.from_residual.ensures.1 c.in_err-outline.ensures (outline_part ms)

pub returns-in_err-holes : goal.returns-in_err-holes
returns-in_err-holes c =
    let ms = members_view c.args.members.now.map.entries in
    unread_part (λ v. v) (MayHave AreHolesOf (codes "holes") ms) (SaysShape ms) _ _ c.from_residual-in_err-holes.ensures.1 c.in_err-holes.ensures (holes_part ms)

pub returns-in_err-region-in-Some : goal.returns-in_err-region-in-Some
returns-in_err-region-in-Some c =
    let ms = members_view c.args.members.now.map.entries in
    let outline = c.in-Some.outline in
    let holes = c.in_ok-holes.holes in
    let says : MayHave IsRingOf (codes "shape") ms (Some outline) = rw c.in-Some.is at c.in_ok-outline.ensures in
    unread_part (λ v. v) (λ region. rings_of region ≡ outline ∷ holes_listed holes) (SaysShape ms) _ _ c.from_residual-in_err-region-in-Some.ensures.1 c.in_err-region-in-Some.ensures (region_part ms outline holes says c.in_ok-holes.ensures)

pub returns-in-Some : goal.returns-in-Some
returns-in-Some c =
    let ms = members_view c.args.members.now.map.entries in
    let outline = c.in-Some.outline in
    let says : MayHave IsRingOf (codes "shape") ms (Some outline) = rw c.in-Some.is at c.in_ok-outline.ensures in
    shape_said ms outline c.in_ok-holes.holes _ says c.in_ok-holes.ensures c.in_ok-region-in-Some.ensures
