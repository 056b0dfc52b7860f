-- The parameters of a request for features, and their faults (OGC 17-069r4, 7.15: limit, bbox, datetime; OGC 19-079r2, 6.4 to 6.6: filter, filter-lang; revision and after: own profile).
use Rattle.std.specs.Prelude.{◌≡◌, ℕ, ◌||◌, not, Bool, false, List, [], ◌∷◌, ◌++◌, codes, Option, Some, None, is_some, option_map, unwrap_or}
use Rattle.std.specs.Option.{option_and_then}
use Rattle.std.specs.Result.{result_ok}
use Rattle.std.specs.List.{list_any, find}
use Rattle.std.specs.Str.{bytes_eq}
use Rattle.cad_day.specs.Moments.{Ends, asked, numbers_of as ends_of}
use Rattle.cad_parameters.specs.declared.fault.ParameterFault.{ParameterFault}
use Rattle.cad_parameters.specs.declared.fault.ParameterFault.TheVariants.{Unknown, Repeated, Limit, Datetime, Bbox, FilterLang, Revision, After}
use Rattle.cad_parameters.specs.declared.selection.Selection.{Selection}
use Rattle.cad_parameters.specs.declared.continuation.Continuation.{Continuation}
use Rattle.cad_parameters.specs.Pairs.{PairText, given}
use Rattle.cad_parameters.specs.Numerals.{limit_of, revision_of}
use Rattle.cad_parameters.specs.Boxes.{box_of, box_numbers}
use Rattle.cad_parameters.specs.Identifiers.{identifier_named, numbers_of}

-- the names that parameters have
abbrev pub names : List (List ℕ)
names =
    codes "limit" ∷ codes "datetime" ∷ codes "bbox" ∷ codes "filter-lang" ∷ codes "filter" ∷ codes "revision" ∷ codes "after" ∷ []

abbrev pub is_unknown : PairText → Bool
is_unknown pair = not (list_any (bytes_eq pair.0) names)

-- some name is given twice
abbrev pub has_twice : List PairText → Bool
has_twice [] = false
has_twice (pair ∷ others) = is_some (given pair.0 others) || has_twice others

-- the days that a text asks for, if it asks for any
abbrev pub days_of : List ℕ → Option Ends
days_of text = result_ok (asked text)

-- the one language of filters
abbrev pub is_language : List ℕ → Bool
is_language text = bytes_eq text (codes "cql2-text")

-- a value is given, and it is not right
abbrev pub is_wrong : (List ℕ → Bool) → Option (List ℕ) → Bool
is_wrong is_right None = false
is_wrong is_right (Some text) = not (is_right text)

-- whether the pairs have the fault
abbrev pub have : ParameterFault → List PairText → Bool
have Unknown pairs = list_any is_unknown pairs
have Repeated pairs = has_twice pairs
have Limit pairs = is_wrong (λ text. is_some (limit_of text)) (given (codes "limit") pairs)
have Datetime pairs = is_wrong (λ text. is_some (days_of text)) (given (codes "datetime") pairs)
have Bbox pairs = is_wrong (λ text. is_some (box_of text)) (given (codes "bbox") pairs)
have FilterLang pairs = is_wrong is_language (given (codes "filter-lang") pairs)
have Revision pairs = is_wrong (λ text. is_some (revision_of text)) (given (codes "revision") pairs)
have After pairs = is_wrong (λ text. is_some (identifier_named text)) (given (codes "after") pairs)

-- the first of these faults that the pairs have
abbrev pub first_of : List ParameterFault → List PairText → Option ParameterFault
first_of faults pairs = find (λ fault. have fault pairs) faults

-- the faults that are looked for before the filter, and those after it
abbrev pub selection_faults : List ParameterFault
selection_faults = Unknown ∷ Repeated ∷ Limit ∷ Datetime ∷ Bbox ∷ FilterLang ∷ []

abbrev pub continuation_faults : List ParameterFault
continuation_faults = Revision ∷ After ∷ []

-- the first fault of the pairs, without regard to their filter
abbrev pub first_fault : List PairText → Option ParameterFault
first_fault pairs = first_of (selection_faults ++ continuation_faults) pairs

-- the meaning of the value under a name, if one is given
abbrev pub value_of_parameter : {V : Type 0} → (List ℕ → Option V) → List ℕ → List PairText → Option V
value_of_parameter read name pairs = option_and_then read (given name pairs)

-- the selection is what the pairs ask for; without a limit it is 10
pub record IsSelection (pairs : List PairText) (selection : Selection) : Type 0 where
  pub limit_is : selection.limit ≡ unwrap_or (value_of_parameter limit_of (codes "limit") pairs) 10
  pub datetime_is : option_map ends_of selection.datetime ≡ value_of_parameter days_of (codes "datetime") pairs
  pub bbox_is : option_map box_numbers selection.bbox ≡ value_of_parameter box_of (codes "bbox") pairs

-- the page begins where the pairs say
pub record IsContinuation (pairs : List PairText) (continuation : Continuation) : Type 0 where
  pub revision_is : continuation.revision ≡ value_of_parameter revision_of (codes "revision") pairs
  pub after_is : option_map numbers_of continuation.after ≡ value_of_parameter identifier_named (codes "after") pairs
