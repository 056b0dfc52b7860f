use Rattle.std.proofs.Common.{◌≡◌, List, arith, drop, map}
use Rattle.std.proofs.lemmas.List.{at_drop_all}
use Rattle.cql_types.specs.declared.filter.WholeTerm.{WholeTerm}
use Rattle.cad_lookup.specs.Ways.{total}
use Rattle.cad_page.specs.Weights.{number_weight}
use Rattle.cad_page.proofs.weights.numbers_weight.Goals as goal

pub returns : goal.returns
returns c =
    let none : total (map number_weight (drop c.loop-term.term-index c.args.terms.now)) ≡ 0 =
    at_drop_all (λ (xs : List WholeTerm). total (map number_weight xs)) c.args.terms.now c.loop-term.term-index (omega (arith, c.loop-term-test.false)) in
    let was = c.loop-term.invariant in
    omega (arith, none, was.counted, was.within)
