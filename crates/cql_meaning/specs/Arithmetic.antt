-- The value of a term of whole numbers on a feature, or none (OGC 21-065r2, requirements class Arithmetic Expressions; 64 bits at each step: own profile).
use Rattle.std.specs.Prelude.{◌^◌, ℤ, zero, suc, pos, negsuc, ◌+ℤ◌, ◌-ℤ◌, ◌*ℤ◌, nat_lt, Bool, if◌then◌else◌, List, [], ◌∷◌, Option, Some, None}
use Rattle.std.specs.Int.RustNames.{int_div, int_rem}
pub use Rattle.cad_feature.specs.Values.{whole_in}
use Rattle.cad_feature.specs.Features.{Item, datum_at}
use Rattle.cql_tree.specs.declared.expression.Operation.{Operation}
use Rattle.cql_tree.specs.declared.expression.Operation.TheVariants.{Plus, Minus, Times, Div, Modulo}
use Rattle.cql_types.specs.declared.filter.WholeTerm.{WholeTerm}
use Rattle.cql_types.specs.declared.filter.WholeTerm.TheOpen.{WholeTerm-F, Step-F}
use Rattle.cql_types.specs.declared.filter.WholeTerm.TheFolds.{fold-WholeTerm}
use Rattle.cql_meaning.specs.Values.{both}

-- within 64 bits, from -2^63 to 2^63 - 1
abbrev pub is_within : ℤ → Bool
is_within (pos n) = nat_lt n (2 ^ 63)
is_within (negsuc n) = nat_lt n (2 ^ 63)

-- a result, if it is within 64 bits
abbrev pub bounded : ℤ → Option ℤ
bounded z = if is_within z then Some z else None

-- the quotient cut toward zero; none for a divisor of zero
abbrev pub quotient : ℤ → ℤ → Option ℤ
quotient a (pos zero) = None
quotient a (pos (suc n)) = bounded (int_div a (pos (suc n)))
quotient a (negsuc n) = bounded (int_div a (negsuc n))

-- the remainder of that quotient
abbrev pub remainder : ℤ → ℤ → Option ℤ
remainder a (pos zero) = None
remainder a (pos (suc n)) = Some (int_rem a (pos (suc n)))
remainder a (negsuc n) = Some (int_rem a (negsuc n))

-- one step, computed on whole numbers without bounds
abbrev pub computed : Operation → ℤ → ℤ → Option ℤ
computed Plus a b = bounded (a +ℤ b)
computed Minus a b = bounded (a -ℤ b)
computed Times a b = bounded (a *ℤ b)
computed Div a b = quotient a b
computed Modulo a b = remainder a b

-- a part of a sum or a product behind the first: what it makes of the value before it
abbrev pub made : Operation → Option ℤ → Option ℤ → Option ℤ
made by term value = both (computed by) value term

-- from the left, part by part
abbrev pub stepped : Option ℤ → List (Option ℤ → Option ℤ) → Option ℤ
stepped value [] = value
stepped value (part ∷ parts) = stepped (part value) parts

-- a part, with the term inside replaced by its value
abbrev pub part_step : Step-F (Option ℤ) (Option ℤ → Option ℤ) → Option ℤ → Option ℤ
part_step part = made part.by part.term

-- a term, with the terms and the parts inside replaced by what they are
abbrev pub whole_step : Item → WholeTerm-F (Option ℤ) (Option ℤ → Option ℤ) → Option ℤ
whole_step x (WholeTerm-F.Constant n) = Some n
whole_step x (WholeTerm-F.Property i) = whole_in (datum_at x i)
whole_step x (WholeTerm-F.Computed first parts) = stepped first.value parts.items

abbrev pub whole_value : Item → WholeTerm → Option ℤ
whole_value x = fold-WholeTerm (Option ℤ) (Option ℤ → Option ℤ) (whole_step x) part_step
