-- The first sixteen bytes of a text as two numbers.
use Rattle.std.specs.Prelude.{◌≡◌, ℕ, List, drop, string_bytes, ⊤}
use Rattle.std.specs.declared.cmp.Ordering.{Ordering}
use Rattle.std.specs.Ordering.{nat_cmp, ordering_then}
use Rattle.cad_feature.specs.declared.range.Scalar.{Scalar}
use Rattle.cad_feature.specs.declared.range.Scalar.TheVariants as scalar
use Rattle.cad_ordered.specs.Fronts.{front_of, AreBytes}
use Rattle.cad_ordered.specs.declared.text_key.Fronts.{Fronts}

-- the number of the first eight bytes, and that of the next eight
pub record AreFrontsOf (fronts : Fronts) (bytes : List ℕ) : Type 0 where
  pub first_is : fronts.first ≡ front_of 8 bytes
  pub second_is : fronts.second ≡ front_of 8 (drop 8 bytes)
  pub are_bytes : AreBytes bytes

-- those of the text, if the value is one
abbrev pub AreFrontsOfScalar : Fronts → Scalar → Type 0
AreFrontsOfScalar fronts (scalar.Text text) = AreFrontsOf fronts (string_bytes text)
AreFrontsOfScalar fronts (scalar.Whole n) = ⊤
AreFrontsOfScalar fronts (scalar.Day day) = ⊤

-- the order of the numbers
abbrev pub fronts_cmp : Fronts → Fronts → Ordering
fronts_cmp f g = ordering_then (nat_cmp f.first g.first) (nat_cmp f.second g.second)
