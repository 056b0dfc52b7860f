-- What holds of normal forms, beyond what each call says.
use Rattle.std.specs.Prelude.{ℕ, ◌≤◌, IsTrue, List, map}
use Rattle.std.specs.List.{list_all}
use Rattle.cad_grid.specs.Blocks.{block_around}
use Rattle.cad_grid.specs.Near.{is_near}
use Rattle.cad_shape.specs.declared.shape.Shape.{Shape}
use Rattle.cad_shape.specs.Shapes.{shape_corners}
use Rattle.cad_feature.specs.Features.{Item, IsFeatureOf}
use Rattle.cad_schema.specs.declared.collection.Collection.{Collection}
use Rattle.cad_lookup.specs.Ways.{Counts, cost, counts_of, is_found}
use Rattle.cql_lexer.specs.declared.token.SpatialRelation.{SpatialRelation}
use Rattle.cql_types.specs.declared.filter.Filter.TheVariants as filter
use Rattle.cql_types.specs.declared.filter.ShapeTerm.TheVariants as place
use Rattle.cql_meaning.specs.Sides.{yes}
use Rattle.cql_rewrite.specs.declared.form.Normal.{Normal}
use Rattle.cql_rewrite.specs.Costs.{is_near_by, least}
use Rattle.cql_rewrite.specs.Meets.{HoldsCharacters, Written, meets}
use Rattle.cql_rewrite.specs.Menus.{IsFirstOfLeast, choice, menu}

-- the features of a collection hold only characters
abbrev pub FeaturesAreWritten : Collection → Type 0
FeaturesAreWritten collection = (x : Item) → IsFeatureOf collection x → HoldsCharacters x

-- the choice of a form's menu costs no more than `least`
abbrev pub ChoicesCostTheLeast : Type 0
ChoicesCostTheLeast = (t : List Written) (n : Normal) → cost (counts_of (map (λ x. x.item) t)) (choice (counts_of (map (λ x. x.item) t)) n) ≤ least t n

-- the choice of a form's menu is one of the menu, costs no more than any of it, and less than each that comes before it
abbrev pub ChoicesAreTheFirstOfLeast : Type 0
ChoicesAreTheFirstOfLeast = (counts : Counts) (n : Normal) → IsFirstOfLeast counts (choice counts n) (menu counts n)

-- each way of a form's menu has each feature that meets the form, and so has the choice
abbrev pub MenusCover : Type 0
MenusCover = (counts : Counts) (n : Normal) (x : Item) → IsTrue (meets x n) → IsTrue (list_all (λ w. is_found w x) (menu counts n)) × IsTrue (is_found (choice counts n) x)

-- a feature whose shape meets another, lies within it or holds it is near it
abbrev pub SpatialIsNear : Type 0
SpatialIsNear = (x : Item) (by : SpatialRelation) (property : ℕ) (shape : Shape) → IsTrue (is_near_by by) →
    (IsTrue (yes (filter.Spatial by (place.Property property) (place.Constant shape)) x) → IsTrue (is_near property (block_around (shape_corners shape)) x))
    × (IsTrue (yes (filter.Spatial by (place.Constant shape) (place.Property property)) x) → IsTrue (is_near property (block_around (shape_corners shape)) x))
