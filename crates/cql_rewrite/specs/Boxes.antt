-- The features whose geometry meets a box (OGC 17-069r4, 7.15.3: bbox).
use Rattle.std.specs.Prelude.{ℕ, Bool, false, Option, Some, None}
use Rattle.cad_feature.specs.Features.{Item, datum_at}
use Rattle.cad_shape.specs.declared.boxes.Bounds.{Bounds}
use Rattle.cad_shape.specs.declared.shape.Shape.TheVariants as shape
use Rattle.cql_lexer.specs.declared.token.SpatialRelation.TheVariants.{Intersects}
use Rattle.cql_types.specs.declared.filter.Filter.{Filter}
use Rattle.cql_types.specs.declared.filter.Filter.TheVariants as filter
use Rattle.cql_types.specs.declared.filter.ShapeTerm.TheVariants as place
use Rattle.cql_meaning.specs.Sides.{spatial, sides_of}
use Rattle.cql_meaning.specs.Values.{both, shape_in}

-- the shape at that place meets the box; if there is no shape or no place, false
abbrev pub meets_box : Item → Option ℕ → Bounds → Bool
meets_box x None bounds = false
meets_box x (Some geometry) bounds = (sides_of (both (spatial Intersects) (shape_in (datum_at x geometry)) (Some (shape.Frame bounds)))).yes

-- S_INTERSECTS of the geometry and the box; FALSE without a geometry
abbrev pub box_condition : Option ℕ → Bounds → Filter
box_condition None bounds = filter.Truth false
box_condition (Some geometry) bounds = filter.Spatial Intersects (place.Property geometry) (place.Constant (shape.Frame bounds))
