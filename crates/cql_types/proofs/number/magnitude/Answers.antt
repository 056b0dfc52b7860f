use Rattle.std.proofs.Common.{◌<◌, length, arith, sym, ◌∙◌}
use Rattle.std.proofs.lemmas.Bool.Decides.{nat_tests}
use Rattle.cql_types.proofs.NumberLemmas.{parsed_is}
use Rattle.cql_types.proofs.number.magnitude.Goals as goal

pub returns : goal.returns
returns c =
    let tested = sym c.is_empty.ensures ∙ c.if-is_empty.false in
    let some : 0 < length c.args.digits.now = grind (arith, nat_tests) in
    c.ok.ensures.value ∙ parsed_is c.args.digits.now c.parse.result c.requires some c.parse.ensures.value.0
