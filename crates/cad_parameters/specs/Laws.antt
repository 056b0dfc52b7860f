-- What the definitions of parameters, identifiers and links say together.
use Rattle.std.specs.Prelude.{◌≡◌, ◌↔◌, ℕ, ◌<◌, ◌^◌, ◌==◌, false, List, codes, Some, None, All, IsUtf8}
use Rattle.std.specs.List.{before_first, after_first}
use Rattle.cad_parameters.specs.declared.fault.ParameterFault.{ParameterFault}
use Rattle.cad_parameters.specs.Pairs.{PairText, pairs_of, written, given}
use Rattle.cad_parameters.specs.Parts.{is_byte}
use Rattle.cad_parameters.specs.Numerals.{limit_of, revision_of}
use Rattle.cad_parameters.specs.Boxes.{box_of}
use Rattle.cad_parameters.specs.Identifiers.{Numbers, Identifies, identifier_text, identifier_named}
use Rattle.cad_parameters.specs.Parameters.{have, first_fault, value_of_parameter, days_of}
use Rattle.cad_parameters.specs.Links.{continued, self_target, next_target}

-- ---- faults

-- no fault is reported exactly if the pairs have none
abbrev pub NoFirstFaultMeansNoFault : Type 0
NoFirstFaultMeansNoFault =
    (pairs : List PairText) → (first_fault pairs ≡ None) ↔ ((fault : ParameterFault) → have fault pairs ≡ false)

-- ---- texts that are written and read again

-- a name and a value in UTF-8
abbrev pub IsPairOfTexts : PairText → Type 0
IsPairOfTexts pair = IsUtf8 pair.0 × IsUtf8 pair.1

-- pairs of texts that are written as a query are read again as the same pairs
abbrev pub PairsAreReadBack : Type 0
PairsAreReadBack = (pairs : List PairText) → All IsPairOfTexts pairs → pairs_of (written pairs) ≡ pairs

-- the pairs of any query are pairs of texts
abbrev pub PairsAreTexts : Type 0
PairsAreTexts = (query : List ℕ) → All IsPairOfTexts (pairs_of query)

-- what a target asks for: its path and the pairs of its query (RFC 9110, section 4.2: http URI; the first `?` separates them)
abbrev pub path_of : List ℕ → List ℕ
path_of target = before_first (is_byte 63) target

abbrev pub target_pairs : List ℕ → List PairText
target_pairs target = pairs_of (after_first (is_byte 63) target)

-- a path holds no `?`
abbrev pub IsPath : List ℕ → Type 0
IsPath path = All (λ b. (b == 63) ≡ false) path

-- the target of a page's own link asks for the same path and pairs
abbrev pub SelfIsReadBack : Type 0
SelfIsReadBack =
    (path : List ℕ) (pairs : List PairText) → IsPath path → All IsPairOfTexts pairs
    → (path_of (self_target path pairs) ≡ path) × (target_pairs (self_target path pairs) ≡ pairs)

-- the target of the link to the next page asks for the same path and the continued pairs
abbrev pub NextIsReadBack : Type 0
NextIsReadBack =
    (path : List ℕ) (pairs : List PairText) (revision : ℕ) (last : Numbers)
    → IsPath path → All IsPairOfTexts pairs → revision < 10 ^ 18 → Identifies (identifier_text last) last
    → (path_of (next_target path pairs revision last) ≡ path) × (target_pairs (next_target path pairs revision last) ≡ continued revision last pairs)

-- pairs that ask the same, but begin at this revision after this identifier
pub record AsksToGoOn (pairs : List PairText) (revision : ℕ) (last : Numbers) (again : List PairText) : Type 0 where
  pub no_fault : first_fault again ≡ None
  pub same_limit : value_of_parameter limit_of (codes "limit") again ≡ value_of_parameter limit_of (codes "limit") pairs
  pub same_datetime : value_of_parameter days_of (codes "datetime") again ≡ value_of_parameter days_of (codes "datetime") pairs
  pub same_bbox : value_of_parameter box_of (codes "bbox") again ≡ value_of_parameter box_of (codes "bbox") pairs
  pub same_filter : given (codes "filter") again ≡ given (codes "filter") pairs
  pub revision_is : value_of_parameter revision_of (codes "revision") again ≡ Some revision
  pub after_is : value_of_parameter identifier_named (codes "after") again ≡ Some last

-- if the pairs of a page have no fault, the continued pairs continue it
abbrev pub ContinuedGoesOn : Type 0
ContinuedGoesOn =
    (pairs : List PairText) (revision : ℕ) (last : Numbers)
    → revision < 10 ^ 18 → Identifies (identifier_text last) last
    → first_fault pairs ≡ None → AsksToGoOn pairs revision last (continued revision last pairs)
