use Rattle.std.proofs.Common.{refl, [], ◌∷◌}
use Rattle.std.proofs.lemmas.Result.{err_from_is_err_and}
use Rattle.cad_schema.specs.Schema.{schema_of}
use Rattle.cql_tree.specs.Syntax.{parts_of, bbox_op}
use Rattle.cql_tree.specs.Views.{numbers_of}
use Rattle.cql_types.specs.Means.{literal_means}
use Rattle.cql_types.proofs.LiteralLemmas.{number_inside, numbers_more, of_corner, after_corner, box_unsound, box_drawn}
use Rattle.cql_types.proofs.literal.bbox.Goals as goal

pub returns-in_err-low : goal.returns-in_err-low
returns-in_err-low c =
    let p = err_from_is_err_and c.from_residual.result c.from_residual.ensures.1 in
    rw (p.1, p.2) (number_inside (schema_of c.args.collection) (bbox_op c.args.place) (parts_of (numbers_of (c.args.low.now ∷ c.args.high.now ∷ []))) c.in_err-low.field-0.0
    (of_corner c.args.low.now (c.args.high.now ∷ []) c.in_err-low.field-0.0 c.in_err-low.ensures))

pub returns-in_err-high : goal.returns-in_err-high
returns-in_err-high c =
    let p = err_from_is_err_and c.from_residual-in_err-high.result c.from_residual-in_err-high.ensures.1 in
    rw (p.1, p.2) (number_inside (schema_of c.args.collection) (bbox_op c.args.place) (parts_of (numbers_of (c.args.low.now ∷ c.args.high.now ∷ []))) c.in_err-high.field-0.0
    (after_corner c.args.low.now (c.args.high.now ∷ []) c.in_err-high.field-0.0 c.in_ok-low.ensures c.in_err-high.ensures))

pub returns-in_default : goal.returns-in_default
returns-in_default c = rw c.at.ensures (box_unsound c.args.place (numbers_more c.args.low.now (c.args.high.now ∷ []) c.in_ok-low.ensures c.in_ok-high.ensures) (rw c.in_default.is at c.frame_between.ensures))

pub returns : goal.returns
returns c =
    let made = rw c.in-Some.is at c.frame_between.ensures in
    record { place = refl; means = literal_means (box_drawn c.in-Some.bounds (numbers_more c.args.low.now (c.args.high.now ∷ []) c.in_ok-low.ensures c.in_ok-high.ensures) made.0 made.1.0 made.1.1 made.2.0 made.2.1) }
