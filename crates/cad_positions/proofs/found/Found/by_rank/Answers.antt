use Rattle.std.proofs.Common.{subst}
use Rattle.std.specs.Prelude.{slice_range}
use Rattle.std.specs.List.Sorted.{IsPermutation}
use Rattle.cad_positions.specs.Between.{part_permuted}
use Rattle.cad_positions.proofs.found.Found.by_rank.Goals as goal

pub returns : goal.returns
returns c =
    let p = c.self.invariant in
    subst (λ xs. IsPermutation xs (slice_range c.self.inside.places.now c.self.inside.low c.self.inside.high)) c.self.view_is (part_permuted c.self.inside.places.now c.self.inside.ranks.now c.self.inside.low c.self.inside.high p.inverse p.ordered p.within)
