use Rattle.std.proofs.Common.{◌∙◌, to_z-of_z, w64, FitsSigned, rules}
use Rattle.cad_feature.specs.Features.{datum_at}
use Rattle.cql_rewrite.proofs.Turns.{plain_between}
use Rattle.cql_rewrite.proofs.between.between_wholes.Goals as goal

pub returns : goal.returns
returns c = λ x.
    let a : FitsSigned w64 c.args.a = search rules in
    let b : FitsSigned w64 c.args.b = search rules in
    (rw (to_z-of_z a, to_z-of_z b) at (c.range_between.ensures x)) ∙ plain_between (datum_at x c.args.property) c.args.a c.args.b
