-- Ends of ranges that are values of one kind (own profile).
use Rattle.std.specs.Prelude.{◌≡◌, ⊤}
use Rattle.cad_schema.specs.declared.property.PropertyKind.{PropertyKind}
use Rattle.cad_schema.specs.declared.property.PropertyKind.TheVariants as kind
use Rattle.cad_feature.specs.declared.range.Edge.{Edge}
use Rattle.cad_feature.specs.declared.range.Edge.TheVariants as edge
use Rattle.cad_feature.specs.declared.range.Scalar.{Scalar}
use Rattle.cad_feature.specs.declared.range.Scalar.TheVariants as scalar

abbrev pub scalar_kind : Scalar → PropertyKind
scalar_kind (scalar.Text text) = kind.Text
scalar_kind (scalar.Whole n) = kind.Whole
scalar_kind (scalar.Day day) = kind.Day

-- no end, or a value of the kind
abbrev pub IsEdgeOf : PropertyKind → Edge → Type 0
IsEdgeOf k edge.Free = ⊤
IsEdgeOf k (edge.With s) = scalar_kind s ≡ k
IsEdgeOf k (edge.Without s) = scalar_kind s ≡ k
