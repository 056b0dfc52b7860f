-- Edits that fit what they edit (own profile: the kinds of values).
use Rattle.std.specs.Prelude.{Option, Some, None}
use Rattle.cad_schema.specs.declared.property.PropertyKind.TheVariants as kind
use Rattle.cad_feature.specs.Values.{Datum, IsOfKind}
use Rattle.cad_changes.specs.Touching.{Edits}

-- a text or no value, where there is a new one
abbrev pub IsTextIfAny : Option Datum → Type 0
IsTextIfAny None = Unit {0}
IsTextIfAny (Some d) = IsOfKind kind.Text d

pub record Fit (e : Edits) : Type 0 where
  pub unit : IsTextIfAny e.unit_name
  pub party : IsTextIfAny e.party_name
