use Rattle.std.proofs.Common.{refl}
use Rattle.std.proofs.lemmas.Result.{err_from_is_err_and}
use Rattle.cad_schema.specs.Schema.{schema_of}
use Rattle.cql_tree.specs.Syntax.{parts_of, polygon_op}
use Rattle.cql_tree.specs.Views.{rings_of}
use Rattle.cql_types.specs.Means.{literal_means}
use Rattle.cql_types.proofs.LiteralLemmas.{number_inside, region_unsound, region_drawn}
use Rattle.cql_types.proofs.literal.polygon.Goals as goal

pub returns-in_err-lines : goal.returns-in_err-lines
returns-in_err-lines c =
    let p = err_from_is_err_and c.from_residual.result c.from_residual.ensures.1 in
    rw (p.1, p.2) (number_inside (schema_of c.args.collection) (polygon_op c.args.place) (parts_of (rings_of c.args.rings.now)) c.in_err-lines.field-0.0 c.in_err-lines.ensures)

pub returns-in_default : goal.returns-in_default
returns-in_default c = rw c.at.ensures
    (region_unsound c.args.place c.in_ok-lines.ensures (rw (c.deref.ensures.value, c.in_default.is) at c.in_ok-region.ensures))

pub returns : goal.returns
returns c = record {
  place = refl;
  means = literal_means (region_drawn c.in-Some.region c.in_ok-lines.ensures (rw (c.deref.ensures.value, c.in-Some.is) at c.in_ok-region.ensures));
}
