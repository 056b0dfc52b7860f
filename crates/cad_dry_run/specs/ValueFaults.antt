-- That a value is wrong in the way that is named (own profile).
use Rattle.std.specs.Prelude.{◌≡◌, ℕ, ℤ, ◌<◌, ◌≤◌, ◌^◌, ◌==◌, true, List, [], length, Option, Some, None}
use Rattle.std.specs.List.{list_any}
use Rattle.std.specs.Option.{option_and_then}
use Rattle.serde_json.specs.Data.{Data}
use Rattle.serde_json.specs.Find.{as_bool, as_number, as_i64, as_str, as_array}
use Rattle.cad_day.specs.DayTexts.{day_named}
use Rattle.cad_shape.specs.Coordinates.{IsCoordinate}
use Rattle.cad_versions.specs.Objects.{IsObjectNumber}
use Rattle.cad_versions.specs.Fractions.{IsShare}
use Rattle.cad_commands.specs.declared.operation.Operation.{Operation}
use Rattle.cad_commands.specs.Commands.{IsOperationOf}
use Rattle.cad_commands.specs.Values.{natural_in, IsPairOf}
use Rattle.cad_dry_run.specs.declared.cause.ValueFault.{ValueFault}
use Rattle.cad_dry_run.specs.declared.cause.ValueFault.TheVariants as fault

-- a whole number, written without a fraction or an exponent
abbrev pub integer_in : Data → Option ℤ
integer_in d = option_and_then as_i64 (as_number d)

-- the value is a list of these two numbers
abbrev pub IsPairBy : {X : Type 0} → (Data → Option X) → Data → X → X → Type 0
IsPairBy number d m n =
    (first : Data) × (second : Data) × IsPairOf d first second × (number first ≡ Some m) × (number second ≡ Some n)

-- the value is not what its member needs, in this way
abbrev pub IsWrong : Data → ValueFault → Type 0
IsWrong d fault.NotAnOperation = (operation : Operation) → ¬ IsOperationOf d operation
IsWrong d fault.NotANumber = natural_in d ≡ None
IsWrong d fault.NotAnObjectNumber = (n : ℕ) × (natural_in d ≡ Some n) × ¬ IsObjectNumber n
IsWrong d fault.TooLarge = (n : ℕ) × (natural_in d ≡ Some n) × (2 ^ 32 ≤ n)
IsWrong d fault.NotADay = option_and_then day_named (as_str d) ≡ None
IsWrong d fault.NotAText = as_str d ≡ None
IsWrong d fault.Empty = as_str d ≡ Some []
IsWrong d fault.TooLong = (text : List ℕ) × (as_str d ≡ Some text) × (200 < length text)
IsWrong d fault.HasNul = (text : List ℕ) × (as_str d ≡ Some text) × (list_any (λ b. b == 0) text ≡ true)
IsWrong d fault.NotAFlag = as_bool d ≡ None
IsWrong d fault.NotAPair = (m n : ℕ) → ¬ IsPairBy natural_in d m n
IsWrong d fault.NotAShare = (m : ℕ) × (n : ℕ) × IsPairBy natural_in d m n × ¬ IsShare m n
IsWrong d fault.NotAPoint = (x y : ℤ) → ¬ IsPairBy integer_in d x y
IsWrong d fault.TooFar = (x : ℤ) × (y : ℤ) × IsPairBy integer_in d x y × ¬ (IsCoordinate x × IsCoordinate y)
IsWrong d fault.NotAList = as_array d ≡ None
