use Rattle.std.proofs.lemmas.List.Sorted.{IsNonDecreasingBy-from_sort}
use Rattle.cad_grid.specs.Blocks.{block_of}
use Rattle.cad_grid.proofs.Near.{found_sorted}
use Rattle.cad_grid.proofs.grid.Grid.near.Goals as goal

pub returns : goal.returns
returns c =
    let moved = rw (c.in_ok-found-2.ensures, c.deref-2.ensures.value, c.deref-3.ensures.value, c.deref-4.ensures.value) at c.sort_unstable.ensures.permutation in
    rw (← c.self.view_is)
    (found_sorted c.of-asked.result (block_of c.args.bounds) _ _ _ _ c.self.invariant.0 c.of-asked.ensures moved (IsNonDecreasingBy-from_sort (λ x. x) _ c.sort_unstable.ensures.sorted))
