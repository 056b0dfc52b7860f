use Rattle.std.proofs.Common.{◌≡◌, List, arith, drop, map}
use Rattle.std.proofs.lemmas.List.{at_drop_all}
use Rattle.cql_types.specs.declared.filter.Filter.{Filter}
use Rattle.cad_lookup.specs.Ways.{total}
use Rattle.cad_page.specs.Weights.{weight_of}
use Rattle.cad_page.proofs.weights.+weights.Goals as goal

pub weight_of_all-returns : goal.weight_of_all-returns
weight_of_all-returns t c =
    let none : total (map weight_of (drop c.loop-part.part-index c.args.parts.now)) ≡ 0 =
    at_drop_all (λ (xs : List Filter). total (map weight_of xs)) c.args.parts.now c.loop-part.part-index (omega (arith, c.loop-part-test.false)) in
    let was = c.loop-part.invariant in
    omega (arith, none, was.counted, was.within)
