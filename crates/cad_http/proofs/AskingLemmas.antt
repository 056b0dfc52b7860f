-- What a request for a page asks for, and that it is read.
use Rattle.std.proofs.Common.{◌≡◌, ◌≢◌, ℕ, ◌≤◌, ◌<◌, ◌==◌, Bool, true, false, not, cond, List, [], ◌∷◌, length, Option, Some, None, Result, refl, sym, ap, subst, ◌∙◌, arith, true≢false}
use Rattle.std.specs.Prelude.{codes, min, unwrap_or}
use Rattle.std.specs.Option.{option_and_then}
use Rattle.std.specs.List.{list_any}
use Rattle.std.proofs.lemmas.Bool.{eqb-false}
use Rattle.std.proofs.lemmas.Bool.Decides.{nat_tests}
use Rattle.std.proofs.lemmas.List.Elements.{All-from_recursion}
use Rattle.cad_versions.specs.lemmas.ListLemmas.{all_weaker}
use Rattle.cad_schema.specs.declared.collection.Collection.{Collection}
use Rattle.cad_schema.specs.Collections.{name_of}
use Rattle.cad_schema.specs.lemmas.NameLemmas.{each_passes}
use Rattle.cad_json.specs.Paths.{items_path}
use Rattle.cad_head.specs.Request.{Request, path, query}
use Rattle.cad_io.specs.Decimals.{number_in}
use Rattle.cad_parameters.specs.Numerals.{limit_of}
use Rattle.cad_parameters.specs.Pairs.{PairText, pairs_of, given}
use Rattle.cad_parameters.specs.Parts.{is_byte}
use Rattle.cad_ask.specs.declared.ask.Ask.{Ask}
use Rattle.cad_ask.specs.Answers.{IsAsk, AsksWell}
use Rattle.cad_ask.specs.Laws.{HasFaultOrAsks}
use Rattle.cad_page.specs.lemmas.PathLemmas.{lacks_not}
use Rattle.cad_resource.specs.declared.check.Check.{Check}
use Rattle.cad_resource.specs.Requested.{RequestedText, requested}
use Rattle.cad_resource.specs.Laws.{IsGet, IsSegment, ResourcesAreRequested, KnownPathsAreReadBack}
use Rattle.cad_resource.specs.Places.{items, resource_of}
use Rattle.cad_request.specs.declared.request.ParsedRequest.{ParsedRequest}
use Rattle.cad_request.specs.declared.request.ParsedRequest.TheVariants as parsed
use Rattle.cad_request.specs.declared.feature_request.FeatureRequest.TheVariants as features
use Rattle.cad_request.specs.ParsedRequests.{IsPageRequest, IsParsedRequest}

-- ---- paths

is_longer : (xs : List ℕ) → not (length xs == 0) ≡ true → 0 < length xs
is_longer [] h = absurd (true≢false (sym h))
is_longer (x ∷ xs) h = omega arith

named : (c : Collection) → IsSegment (name_of c)
named c = record {
  some = is_longer (name_of c) (each_passes (λ c. not (length (name_of c) == 0)) refl c);
  no_slash = All-from_recursion (λ b. b ≢ 47) (name_of c) (all_weaker (λ b. (b == 47) ≡ false) (λ b. b ≢ 47) (λ b e. eqb-false b 47 e) (name_of c) (lacks_not 47 (name_of c) (each_passes (λ c. not (list_any (is_byte 47) (name_of c))) refl c)));
}

-- ---- what is wanted

pub page_wanted : ResourcesAreRequested → KnownPathsAreReadBack → (r : Request) (c : Collection) (w : ParsedRequest) → IsGet r → path r ≡ items_path c → IsParsedRequest (requested r) w → IsPageRequest c (pairs_of (query r)) w
page_wanted are back r c w get at wanted =
    subst (λ (a : Result RequestedText Check). IsParsedRequest a w) (are r (items c) get (ap resource_of at ∙ back (items c) (named c))) wanted

pub page_read : HasFaultOrAsks → (c : Collection) (pairs : List PairText) (w : ParsedRequest) → AsksWell c pairs → IsPageRequest c pairs w → (ask : Ask) × (w ≡ parsed.Features (features.Page ask)) × IsAsk c pairs ask
page_read or c pairs (parsed.Features (features.Page ask)) well is = (ask, refl, is)
page_read or c pairs (parsed.Immediate told) well is = absurd (or c pairs is.0 is.1 well)
page_read or c pairs (parsed.Features (features.Feature d i)) well is = absurd is

-- ---- what asks has no fault, and asks for some features at least

least : (n : ℕ) (none : Bool) → (n == 0) ≡ none → 1 ≤ unwrap_or (cond none None (Some (min 1000 n))) 10
least n true h = omega arith
least n false h = grind (arith, nat_tests)

read_limit : (n : Option ℕ) → 1 ≤ unwrap_or (option_and_then (λ n. cond (n == 0) None (Some (min 1000 n))) n) 10
read_limit None = omega arith
read_limit (Some n) = least n (n == 0) refl

given_limit : (text : Option (List ℕ)) → 1 ≤ unwrap_or (option_and_then limit_of text) 10
given_limit None = omega arith
given_limit (Some text) = read_limit (number_in text)

pub some_wanted : (c : Collection) (pairs : List PairText) (ask : Ask) → IsAsk c pairs ask → 1 ≤ ask.selection.limit
some_wanted c pairs ask is = subst (λ n. 1 ≤ n) (sym is.selection_is.limit_is) (given_limit (given (codes "limit") pairs))
