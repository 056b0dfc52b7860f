-- Walks through the pages of an answer (OGC 17-069r4, 7.15.5: link next; revisions: own profile).
use Rattle.std.specs.Prelude.{◌≡◌, ℕ, ◌+◌, ◌-◌, ◌/◌, max, nat_lt, if◌then◌else◌, List, [], ◌∷◌, ◌++◌, length, Option, Some, None, unwrap_or}
use Rattle.std.specs.List.{AllZip, flat_map}
use Rattle.std.specs.List.Sorted.{IsStrictlySortedBy}
use Rattle.serde_json.specs.Written.{compact_text}
use Rattle.cad_versions.specs.declared.command.Command.{Command}
use Rattle.cad_feature.specs.Features.{Item, by_identifier}
use Rattle.cad_head.specs.Request.{Request, path, query}
use Rattle.cad_parameters.specs.Pairs.{pairs_of}
use Rattle.cad_json.specs.Paths.{items_path}
use Rattle.cad_ask.specs.declared.ask.Ask.{Ask}
use Rattle.cad_ask.specs.Answers.{IsAsk}
use Rattle.cad_history.specs.Snapshots.{RevisionFeatures}
use Rattle.cad_run.specs.Slices.{later}
use Rattle.cad_page.specs.Pages.{beginning, answer_in, rows_in}
use Rattle.cad_page.specs.Bodies.{next_in, page_data}
use Rattle.cad_head.specs.declared.status.Status.TheVariants.{Ok}
use Rattle.cad_resource.specs.Laws.{IsGet}
use Rattle.cad_request.specs.declared.request.ParsedRequest.{ParsedRequest}
use Rattle.cad_request.specs.declared.request.ParsedRequest.TheVariants as parsed
use Rattle.cad_request.specs.declared.feature_request.FeatureRequest.TheVariants as features
use Rattle.cad_server.specs.Contents.{snapshot_at}
use Rattle.cad_server.specs.Replies.{reply_of, IsReply}

-- a request, the commands in force when it is answered, and the bytes of the reply
pub record Visit : Type 0 where
  pub commands : List Command
  pub request : Request
  pub bytes : List ℕ
  pub replied : IsReply commands request bytes

-- ---- what is asked for

-- a GET of the features of a collection, whose query has no fault and asks for this
pub record AsksFor (request : Request) (ask : Ask) : Type 0 where
  pub get : IsGet request
  pub path_is : path request ≡ items_path ask.collection
  pub asks : IsAsk ask.collection (pairs_of (query request)) ask

-- the revision that is asked for, or the newest
abbrev pub revision_requested : Ask → List Command → ℕ
revision_requested ask commands = unwrap_or ask.continuation.revision (length commands)

-- the features of that revision
abbrev pub snapshot_requested : Ask → List Command → RevisionFeatures
snapshot_requested ask commands = snapshot_at (revision_requested ask commands) commands

-- ---- the links

-- the target of the link next of a response; a refusal has none, and a response that is not a page has none
abbrev pub next_link_in : ParsedRequest → List Command → Option (List ℕ)
next_link_in (parsed.Immediate told) commands = None
next_link_in (parsed.Features (features.Feature collection identifier)) commands = None
next_link_in (parsed.Features (features.Page ask)) commands =
    if nat_lt (length commands) (revision_requested ask commands) then None else next_in ask (snapshot_requested ask commands)

abbrev pub next_of : Visit → Option (List ℕ)
next_of visit = next_link_in visit.replied.0 visit.commands

-- the client gets the target of the reply's link next, at once or after further commands
pub record Follows (visit next : Visit) : Type 0 where
  pub linked : next_of visit ≡ Some next.request.target
  pub get : IsGet next.request
  pub added : List Command
  pub meanwhile : next.commands ≡ visit.commands ++ added

-- each visit follows the one before, and the reply to the last one has no link next
abbrev pub IsWalk : List Visit → Type 0
IsWalk [] = ⊥
IsWalk (visit ∷ []) = next_of visit ≡ None
IsWalk (visit ∷ (next ∷ visits)) = Follows visit next × IsWalk (next ∷ visits)

-- ---- the pages

-- the reply is this page of the features, with the link next that the client follows
pub record Shows (snapshot : RevisionFeatures) (visit : Visit) (page : List Item) : Type 0 where
  pub ask : Ask
  pub asks : AsksFor visit.request ask
  pub page_is : page ≡ rows_in ask snapshot
  pub link_is : next_of visit ≡ next_in ask snapshot
  pub told : visit.bytes ≡ reply_of visit.request (Ok, compact_text (page_data ask snapshot))

-- the features of the pages, one page after the other
abbrev pub joined : List (List Item) → List Item
joined pages = flat_map (λ page. page) pages

-- how many pages this many features take, with this many on a page: their quotient rounded up, and at least one
abbrev pub pages_of : ℕ → ℕ → ℕ
pages_of limit features = max 1 ((features + (limit - 1)) / limit)

-- the visits show these pages; joined, they are the whole answer from where the first request begins, each feature once and in the order of
-- identifiers
pub record ShowTheAnswer (ask : Ask) (snapshot : RevisionFeatures) (visits : List Visit) (pages : List (List Item)) : Type 0 where
  pub shown : AllZip (Shows snapshot) visits pages
  pub whole : joined pages ≡ later (beginning ask) (answer_in ask snapshot)
  pub from_the_first : ask.continuation.after ≡ None → joined pages ≡ answer_in ask snapshot
  pub ascending : IsStrictlySortedBy by_identifier (joined pages)
  pub count : length visits ≡ pages_of ask.selection.limit (length (joined pages))
