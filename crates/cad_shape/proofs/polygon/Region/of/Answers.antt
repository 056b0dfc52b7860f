use Rattle.std.proofs.Common.{◌≡◌, [], ◌∷◌, ◌++◌, sym, ◌∙◌, ap, subst}
use Rattle.cad_shape.specs.Polygons.{IsRegion}
use Rattle.cad_shape.proofs.RegionLemmas.{ring_alone}
use Rattle.cad_shape.proofs.polygon.Region.of.Goals as goal

pub invariant_of-result : goal.invariant_of-result
invariant_of-result c =
    let pushed : c.push.new.self.items ≡ c.args.ring ∷ [] = c.in_ok-push.ensures.items ∙ ap (λ l. l ++ c.args.ring ∷ []) c.in_ok-list.ensures.items in
    let r : IsRegion c.in_ok-rings.rings = subst IsRegion (sym (c.in_ok-rings.ensures ∙ pushed)) (ring_alone c.args.ring) in
    record { some = r.some; not_too_many_rings = r.few.0; not_too_many_corners = r.few.1; inside = r.inside }
