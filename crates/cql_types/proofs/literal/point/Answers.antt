use Rattle.std.proofs.Common.{refl, [], ◌∷◌}
use Rattle.std.proofs.lemmas.Result.{err_from_is_err_and}
use Rattle.cad_schema.specs.Schema.{schema_of}
use Rattle.cql_tree.specs.Syntax.{parts_of, point_op}
use Rattle.cql_tree.specs.Views.{numbers_of}
use Rattle.cql_types.specs.Means.{literal_means}
use Rattle.cql_types.proofs.LiteralLemmas.{number_inside, point_unsound, point_drawn}
use Rattle.cql_types.proofs.literal.point.Goals as goal

pub returns-in_err-position : goal.returns-in_err-position
returns-in_err-position c =
    let p = err_from_is_err_and c.from_residual.result c.from_residual.ensures.1 in
    rw (p.1, p.2) (number_inside (schema_of c.args.collection) (point_op c.args.place) (parts_of (numbers_of (c.args.corner.now ∷ []))) c.in_err-position.field-0.0 c.in_err-position.ensures)

pub returns-in_default : goal.returns-in_default
returns-in_default c = rw c.at.ensures (point_unsound c.args.place c.in_ok-position.ensures (rw c.in_default.is at c.point_at.ensures))

pub returns : goal.returns
returns c =
    let made = rw c.in-Some.is at c.point_at.ensures in
    record { place = refl; means = literal_means (point_drawn c.in-Some.point c.in_ok-position.ensures made.0 made.1) }
