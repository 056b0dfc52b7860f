use Rattle.std.proofs.Common.{refl, sym, ◌∙◌}
use Rattle.cql_types.specs.Fits.{shape_fits}
use Rattle.cql_types.specs.Means.{kind_of, spatial}
use Rattle.cql_types.proofs.Relating.{no_shape_beside}
use Rattle.cql_types.proofs.Terms.{is_true}
use Rattle.cql_types.proofs.combine.spatial.Goals as goal

pub returns-then-not-related : goal.returns-then-not-related
returns-then-not-related c = rw (c.wrong_kind.ensures, is_true (shape_fits c.args.left.node) c.in_ok-left.ensures.ok, sym c.are_related-related.ensures ∙ c.if-not-related.true)

pub returns-in_err-right : goal.returns-in_err-right
returns-in_err-right c =
    absurd (no_shape_beside c.args.by (kind_of c.args.left.node) (kind_of c.args.right.node) (sym c.are_related-related.ensures ∙ c.if-not-related.false) c.in_err-right.ensures.err.1)

pub returns : goal.returns
returns c = rw c.condition.ensures (record { place = refl; makes = spatial c.in_ok-left.ensures.ok c.in_ok-right.ensures.ok (sym c.are_related-related.ensures ∙ c.if-not-related.false) })
