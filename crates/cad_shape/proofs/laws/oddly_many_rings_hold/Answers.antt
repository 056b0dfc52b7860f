use Rattle.std.proofs.Common.{inr, sym, ◌∙◌}
use Rattle.cad_shape.specs.RegionRings.{rings_of, region_edges}
use Rattle.cad_shape.proofs.HoleLemmas.{odd_inside, same_parity}
use Rattle.cad_shape.proofs.laws.oddly_many_rings_hold.Goals as goal

pub returns : goal.returns
returns c t region n =
    let e = same_parity t (rings_of region) n in
    (λ h. sym e ∙ odd_inside t (region_edges region) h n, λ h. inr (e ∙ h))
