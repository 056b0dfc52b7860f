-- What a request wants of the register, or the response that is made without it (own profile of OGC 17-069r4, section 7).
use Rattle.std.specs.Prelude.{◌≡◌, ℕ, List, [], ◌∷◌, codes, string_bytes, Bool, true, false, Result, Ok, Err, MatchOption}
use Rattle.std.specs.Bool.{MatchBool}
use Rattle.serde_json.specs.Written.{compact_text}
use Rattle.cad_schema.specs.declared.collection.Collection.{Collection}
use Rattle.cad_parameters.specs.Identifiers.{identifier_named, numbers_of, Numbers}
use Rattle.cad_parameters.specs.Pairs.{PairText, pairs_of}
use Rattle.cad_ask.specs.declared.fault.AskFault.{AskFault}
use Rattle.cad_ask.specs.Answers.{IsAsk, IsFirstFault}
use Rattle.cad_ask.specs.Bodies.{fault_data}
use Rattle.cad_json.specs.Faults.{word_data}
use Rattle.cad_json.specs.Offers.{landing_data, collection_data, collections_data}
use Rattle.cad_json.specs.Queryables.{queryables_data}
use Rattle.cad_head.specs.declared.status.Status.{Status}
use Rattle.cad_head.specs.declared.status.Status.TheVariants as status
use Rattle.cad_resource.specs.declared.check.Check.{Check}
use Rattle.cad_resource.specs.Requested.{RequestedText}
use Rattle.cad_resource.specs.Checks.{word_of, status_of}
use Rattle.cad_resource.specs.Places.{Place, landing, collections, collection, queryables, items, item}
use Rattle.cad_request.specs.declared.request.ParsedRequest.{ParsedRequest}
use Rattle.cad_request.specs.declared.request.ParsedRequest.TheVariants as parsed
use Rattle.cad_request.specs.declared.feature_request.FeatureRequest.TheVariants as features
use Rattle.cad_request.specs.declared.response.Response.{Response}

-- a reply of this status with this body
pub record IsResponse (status : Status) (text : List ℕ) (response : Response) : Type 0 where
  pub status_is : response.status ≡ status
  pub body_is : string_bytes response.body ≡ text

-- a refusal by its word
abbrev pub IsRefusal : Status → List ℕ → Response → Type 0
IsRefusal status word response = IsResponse status (compact_text (word_data word)) response

abbrev pub has_pairs : List PairText → Bool
has_pairs [] = false
has_pairs (pair ∷ pairs) = true

-- a resource that takes no parameters: any is unknown
abbrev pub IsPlain : List PairText → List ℕ → Response → Type 0
IsPlain pairs text response = MatchBool (has_pairs pairs) (IsRefusal status.BadRequest (codes "unknown") response) (IsResponse status.Ok text response)

-- the response is made without the register
abbrev pub IsAnsweredBy : (Response → Type 0) → ParsedRequest → Type 0
IsAnsweredBy P (parsed.Immediate response) = P response
IsAnsweredBy P (parsed.Features sought) = ⊥

-- the body of a query's fault
abbrev pub fault_text : AskFault → List ℕ
fault_text fault = compact_text (fault_data fault)

-- the page that the pairs ask for, or the refusal of their first fault
abbrev pub IsPageRequest : Collection → List PairText → ParsedRequest → Type 0
IsPageRequest c pairs (parsed.Features (features.Page ask)) = IsAsk c pairs ask
IsPageRequest c pairs (parsed.Immediate response) = (f : AskFault) × IsFirstFault c pairs f × IsResponse status.BadRequest (fault_text f) response
IsPageRequest c pairs (parsed.Features (features.Feature d i)) = ⊥

-- the feature of these numbers
abbrev pub IsFeatureOf : Collection → Numbers → ParsedRequest → Type 0
IsFeatureOf c numbers (parsed.Features (features.Feature d i)) = (d ≡ c) × (numbers_of i ≡ numbers)
IsFeatureOf c numbers (parsed.Immediate response) = ⊥
IsFeatureOf c numbers (parsed.Features (features.Page ask)) = ⊥

-- the feature that a text identifies; if the text is no identifier, there is no such feature
abbrev pub IsIdentified : Collection → List ℕ → ParsedRequest → Type 0
IsIdentified c text w =
    MatchOption (identifier_named text) (IsAnsweredBy (IsRefusal status.NotFound (codes "no-feature")) w) (λ numbers. IsFeatureOf c numbers w)

-- the same, if there are no parameters
abbrev pub IsFeatureRequest : Collection → List PairText → List ℕ → ParsedRequest → Type 0
IsFeatureRequest c pairs text w =
    MatchBool (has_pairs pairs) (IsAnsweredBy (IsRefusal status.BadRequest (codes "unknown")) w) (IsIdentified c text w)

-- what is wanted of a place with these pairs
abbrev pub IsRequestAt : Place Collection → List PairText → ParsedRequest → Type 0
IsRequestAt landing pairs w = IsAnsweredBy (IsPlain pairs (compact_text landing_data)) w
IsRequestAt collections pairs w = IsAnsweredBy (IsPlain pairs (compact_text collections_data)) w
IsRequestAt (collection c) pairs w = IsAnsweredBy (IsPlain pairs (compact_text (collection_data c))) w
IsRequestAt (queryables c) pairs w = IsAnsweredBy (IsPlain pairs (compact_text (queryables_data c))) w
IsRequestAt (items c) pairs w = IsPageRequest c pairs w
IsRequestAt (item c id) pairs w = IsFeatureRequest c pairs id w

-- what a request wants if it asks for this, or fails this check
abbrev pub IsParsedRequest : Result RequestedText Check → ParsedRequest → Type 0
IsParsedRequest (Ok requested) w = IsRequestAt requested.0 (pairs_of requested.1) w
IsParsedRequest (Err check) w = IsAnsweredBy (IsRefusal (status_of check) (word_of check)) w
