use Rattle.std.proofs.Common.{◌∷◌, sym, ap, subst, ◌∙◌}
use Rattle.cad_shape.specs.Polygons.{IsRegion}
use Rattle.cad_shape.specs.RegionRings.{no_region, region_is}
use Rattle.cad_commands.proofs.outline.region.Goals as goal

pub returns : goal.returns
returns c x is =
    no_region _ _ (rw c.in_ok-rings.ensures.ok at (rw c.in-Err.is at c.new-2.ensures).0) (subst IsRegion (is ∙ ap (λ l. c.args.outline ∷ l) (sym c.listed-rings.ensures) ∙ sym c.in_ok-insert.ensures.items) (region_is x))
