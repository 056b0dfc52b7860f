-- A request has one reply.
use Rattle.std.proofs.Common.{◌≡◌, ℕ, Bool, true, false, cond, nat_lt, List, length, Option, Some, None, Result, Ok, Err, sym, ap, ap₂, subst, ◌∙◌}
use Rattle.std.specs.Prelude.{codes, MatchOption, unwrap_or}
use Rattle.std.specs.Bool.{MatchBool}
use Rattle.serde_json.specs.Data.{Data}
use Rattle.serde_json.specs.Written.{compact_text}
use Rattle.cad_versions.specs.declared.command.Command.{Command}
use Rattle.cad_schema.specs.declared.collection.Collection.{Collection}
use Rattle.cad_parameters.specs.Pairs.{PairText, pairs_of}
use Rattle.cad_parameters.specs.Identifiers.{Numbers, identifier_named}
use Rattle.cad_ask.specs.declared.ask.Ask.{Ask}
use Rattle.cad_ask.specs.declared.fault.AskFault.{AskFault}
use Rattle.cad_ask.specs.Laws.{AskTheSame, PairsAskOneThing, HasOneFirstFault, HasFaultOrAsks}
use Rattle.cad_ask.specs.lemmas.AnswerLemmas.{asks_well}
use Rattle.cad_page.specs.Laws.{TheSameIsAnswered}
use Rattle.cad_json.specs.Faults.{word_data}
use Rattle.cad_json.specs.Offers.{landing_data, collection_data, collections_data}
use Rattle.cad_json.specs.Queryables.{queryables_data}
use Rattle.cad_history.specs.Snapshots.{features_at}
use Rattle.cad_head.specs.declared.status.Status.{Status}
use Rattle.cad_head.specs.declared.status.Status.TheVariants as status
use Rattle.cad_resource.specs.declared.check.Check.{Check}
use Rattle.cad_resource.specs.Requested.{RequestedText, requested}
use Rattle.cad_resource.specs.Checks.{status_of, word_of}
use Rattle.cad_resource.specs.Places.{Place, landing, collections, collection, queryables, items, item}
use Rattle.cad_request.specs.declared.request.ParsedRequest.{ParsedRequest}
use Rattle.cad_request.specs.declared.request.ParsedRequest.TheVariants as parsed
use Rattle.cad_request.specs.declared.response.Response.{Response}
use Rattle.cad_request.specs.ParsedRequests.{IsResponse, IsRefusal, IsPlain, IsAnsweredBy, has_pairs, fault_text, IsPageRequest, IsFeatureOf, IsIdentified, IsFeatureRequest, IsRequestAt, IsParsedRequest}
use Rattle.cad_request.specs.declared.feature_request.FeatureRequest.TheVariants.{Page, Feature}
use Rattle.cad_server.specs.Contents.{content_in_response, feature_content, feature_with, refusal, snapshot_at, revision_sought, content_in, content_of, content_requested}
use Rattle.cad_server.specs.Replies.{reply_of}
use Rattle.cad_server.specs.Laws.{RequestsHaveOneReply}

-- two values that are wanted tell the same
abbrev Alike : ParsedRequest → ParsedRequest → Type 0
Alike v w = (commands : List Command) → content_requested v commands ≡ content_requested w commands

-- ---- what is told without the register

told_alike : (status : Status) (text : List ℕ) (a b : Response) → IsResponse status text a → IsResponse status text b → content_in_response a ≡ content_in_response b
told_alike status text a b f g = ap₂ (λ (s : Status) (t : List ℕ). (s, t)) (f.status_is ∙ sym g.status_is) (f.body_is ∙ sym g.body_is)

-- all that a predicate lets pass is told alike
abbrev TellsOne : (Response → Type 0) → Type 0
TellsOne P = (a b : Response) → P a → P b → content_in_response a ≡ content_in_response b

telling_alike : (P : Response → Type 0) → TellsOne P → (v w : ParsedRequest) → IsAnsweredBy P v → IsAnsweredBy P w → Alike v w
telling_alike P one (parsed.Immediate a) (parsed.Immediate b) f g = λ commands. one a b f g
telling_alike P one (parsed.Immediate a) (parsed.Features sought) f g = absurd g
telling_alike P one (parsed.Features sought) w f g = absurd f

plain_one : (pairs : List PairText) (text : List ℕ) → TellsOne (IsPlain pairs text)
plain_one pairs text a b f g = go (has_pairs pairs) f g
  where
    go : (has : Bool) → MatchBool has (IsResponse status.BadRequest (compact_text (word_data (codes "unknown"))) a) (IsResponse status.Ok text a) → MatchBool has (IsResponse status.BadRequest (compact_text (word_data (codes "unknown"))) b) (IsResponse status.Ok text b) → content_in_response a ≡ content_in_response b
    go true f g = told_alike status.BadRequest _ a b f g
    go false f g = told_alike status.Ok text a b f g

-- ---- pages

page_content : TheSameIsAnswered → (a b : Ask) → AskTheSame a b → (commands : List Command) → content_of (Page a) commands ≡ content_of (Page b) commands
page_content answered a b same commands =
    let n = length commands in
    ap (λ (r : ℕ). cond (nat_lt n r) (refusal status.BadRequest (codes "revision")) (content_in (Page a) (snapshot_at r commands))) (ap (λ (o : Option ℕ). unwrap_or o n) same.revision)
    ∙ ap (λ (page : Data). cond (nat_lt n (revision_sought (Page b) n)) (refusal status.BadRequest (codes "revision")) (status.Ok, compact_text page)) (answered a b (snapshot_at (revision_sought (Page b) n) commands) same)

-- ---- one feature

abbrev nothing_told : ParsedRequest → Type 0
nothing_told w = IsAnsweredBy (IsRefusal status.NotFound (codes "no-feature")) w

abbrev unknown_told : ParsedRequest → Type 0
unknown_told w = IsAnsweredBy (IsRefusal status.BadRequest (codes "unknown")) w

feature_alike : (c : Collection) (numbers : Numbers) (v w : ParsedRequest) → IsFeatureOf c numbers v → IsFeatureOf c numbers w → Alike v w
feature_alike c numbers (parsed.Features (Feature d i)) (parsed.Features (Feature e j)) f g = λ commands.
    ap₂ (λ (k : Collection) (m : Numbers). cond (nat_lt (length commands) (length commands)) (refusal status.BadRequest (codes "revision")) (feature_content k (feature_with m (features_at (snapshot_at (length commands) commands) k)))) (f.0 ∙ sym g.0) (f.1 ∙ sym g.1)
feature_alike c numbers (parsed.Features (Feature d i)) (parsed.Immediate b) f g = absurd g
feature_alike c numbers (parsed.Features (Feature d i)) (parsed.Features (Page ask)) f g = absurd g
feature_alike c numbers (parsed.Immediate a) w f g = absurd f
feature_alike c numbers (parsed.Features (Page ask)) w f g = absurd f

identified_alike : (c : Collection) (text : List ℕ) (v w : ParsedRequest) → IsIdentified c text v → IsIdentified c text w → Alike v w
identified_alike c text v w f g = go (identifier_named text) f g
  where
    go : (named : Option Numbers) → MatchOption named (nothing_told v) (λ numbers. IsFeatureOf c numbers v) → MatchOption named (nothing_told w) (λ numbers. IsFeatureOf c numbers w) → Alike v w
    go None f g = telling_alike (IsRefusal status.NotFound (codes "no-feature")) (told_alike status.NotFound _) v w f g
    go (Some numbers) f g = feature_alike c numbers v w f g

feature_wanted : (c : Collection) (pairs : List PairText) (text : List ℕ) (v w : ParsedRequest) → IsFeatureRequest c pairs text v → IsFeatureRequest c pairs text w → Alike v w
feature_wanted c pairs text v w f g = go (has_pairs pairs) f g
  where
    go : (has : Bool) → MatchBool has (unknown_told v) (IsIdentified c text v) → MatchBool has (unknown_told w) (IsIdentified c text w) → Alike v w
    go true f g = telling_alike (IsRefusal status.BadRequest (codes "unknown")) (told_alike status.BadRequest _) v w f g
    go false f g = identified_alike c text v w f g

-- ---- all that is wanted

module _ (one : PairsAskOneThing) (fault : HasOneFirstFault) (or : HasFaultOrAsks) (answered : TheSameIsAnswered) where
  page_alike : (c : Collection) (pairs : List PairText) (v w : ParsedRequest) → IsPageRequest c pairs v → IsPageRequest c pairs w → Alike v w
  page_alike c pairs (parsed.Features (Page a)) (parsed.Features (Page b)) f g = page_content answered a b (one c pairs a b f g)
  page_alike c pairs (parsed.Features (Page a)) (parsed.Immediate b) f g = absurd (or c pairs g.0 g.1 (asks_well c pairs a f))
  page_alike c pairs (parsed.Features (Page a)) (parsed.Features (Feature d i)) f g = absurd g
  page_alike c pairs (parsed.Immediate a) (parsed.Features (Page b)) f g = absurd (or c pairs f.0 f.1 (asks_well c pairs b g))
  page_alike c pairs (parsed.Immediate a) (parsed.Immediate b) f g = λ commands.
      told_alike status.BadRequest (fault_text f.0) a b f.2 (subst (λ (x : AskFault). IsResponse status.BadRequest (fault_text x) b) (fault c pairs g.0 f.0 g.1 f.1) g.2)
  page_alike c pairs (parsed.Immediate a) (parsed.Features (Feature d i)) f g = absurd g
  page_alike c pairs (parsed.Features (Feature d i)) w f g = absurd f

  wanted_at : (place : Place Collection) (pairs : List PairText) (v w : ParsedRequest) → IsRequestAt place pairs v → IsRequestAt place pairs w → Alike v w
  wanted_at landing pairs v w f g = telling_alike (IsPlain pairs (compact_text landing_data)) (plain_one pairs (compact_text landing_data)) v w f g
  wanted_at collections pairs v w f g = telling_alike (IsPlain pairs (compact_text collections_data)) (plain_one pairs (compact_text collections_data)) v w f g
  wanted_at (collection c) pairs v w f g = telling_alike (IsPlain pairs (compact_text (collection_data c))) (plain_one pairs (compact_text (collection_data c))) v w f g
  wanted_at (queryables c) pairs v w f g = telling_alike (IsPlain pairs (compact_text (queryables_data c))) (plain_one pairs (compact_text (queryables_data c))) v w f g
  wanted_at (items c) pairs v w f g = page_alike c pairs v w f g
  wanted_at (item c id) pairs v w f g = feature_wanted c pairs id v w f g

  wanted_alike : (requested : Result RequestedText Check) (v w : ParsedRequest) → IsParsedRequest requested v → IsParsedRequest requested w → Alike v w
  wanted_alike (Ok place) v w f g = wanted_at place.0 (pairs_of place.1) v w f g
  wanted_alike (Err check) v w f g = telling_alike (IsRefusal (status_of check) (word_of check)) (told_alike (status_of check) _) v w f g

  pub one_reply : RequestsHaveOneReply
  one_reply commands request out other f g = f.2 ∙ ap (reply_of request) (wanted_alike (requested request) f.0 g.0 f.1 g.1 commands) ∙ sym g.2
