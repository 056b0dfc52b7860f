-- Identifiers of features, as they are read (OGC 17-069r4, 7.16.2: the id of a feature; the form: own profile).
use Rattle.std.specs.Prelude.{◌≡◌, ◌↔◌, ℕ, List, Option, Some}
use Rattle.std.specs.Option.{option_and_then, option_zip}
pub use Rattle.cad_versions.specs.Identifiers.{Numbers, numbers_of, IsVersionNumber, identifier_text, Identifies}
use Rattle.cad_parameters.specs.Numerals.{counting_number}
use Rattle.cad_parameters.specs.Parts.{parted}

abbrev pub both_numbers : List ℕ × List ℕ → Option Numbers
both_numbers parts = option_zip (counting_number parts.0) (counting_number parts.1)

-- the version that the text identifies: two numbers without leading zeros, separated by a point
abbrev pub identifier_named : List ℕ → Option Numbers
identifier_named text = option_and_then both_numbers (parted 46 text)

-- ---- law

-- the function and the relation agree: a text is read as what it identifies, and as nothing else
abbrev pub ReadsWhatIsIdentified : Type 0
ReadsWhatIsIdentified = (text : List ℕ) (numbers : Numbers) → (identifier_named text ≡ Some numbers) ↔ Identifies text numbers
