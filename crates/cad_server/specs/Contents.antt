-- What replies contain with the commands in force (OGC 17-069r4, 7.15: items, 7.16: feature; revisions: own profile).
use Rattle.std.specs.Prelude.{ℕ, Bool, ◌==◌, ◌&&◌, nat_lt, if◌then◌else◌, List, length, codes, string_bytes, Option, Some, None, unwrap_or}
use Rattle.std.specs.List.{find}
use Rattle.serde_json.specs.Written.{compact_text}
use Rattle.cad_versions.specs.declared.command.Command.{Command}
use Rattle.cad_versions.specs.VersionedObject.{VersionedObject}
use Rattle.cad_versions.specs.AsOf.{as_of}
use Rattle.cad_versions.specs.Objects.{object_number}
use Rattle.cad_schema.specs.declared.collection.Collection.{Collection}
use Rattle.cad_feature.specs.Features.{Item}
use Rattle.cad_feature.specs.Flatten.{features_in}
use Rattle.cad_parameters.specs.Identifiers.{Numbers, numbers_of}
use Rattle.cad_history.specs.Snapshots.{RevisionFeatures, features_at, with_features}
use Rattle.cad_json.specs.Faults.{word_data}
use Rattle.cad_page.specs.Bodies.{page_data}
use Rattle.cad_page.specs.Features.{linked_feature_data}
use Rattle.cad_head.specs.declared.status.Status.{Status}
use Rattle.cad_head.specs.declared.status.Status.TheVariants as status
use Rattle.cad_request.specs.declared.request.ParsedRequest.{ParsedRequest}
use Rattle.cad_request.specs.declared.request.ParsedRequest.TheVariants as parsed
use Rattle.cad_request.specs.declared.response.Response.{Response}
use Rattle.cad_request.specs.declared.feature_request.FeatureRequest.{FeatureRequest}
use Rattle.cad_request.specs.declared.feature_request.FeatureRequest.TheVariants.{Page, Feature}
use Rattle.cad_server.specs.declared.located.Located.{Located}
use Rattle.cad_server.specs.declared.located.Located.TheVariants as located

-- the status of a reply, and its body
abbrev pub Content : Type 0
Content = Status × List ℕ

abbrev pub content_in_response : Response → Content
content_in_response response = (response.status, string_bytes response.body)

-- a refusal by its word
abbrev pub refusal : Status → List ℕ → Content
refusal status word = (status, compact_text (word_data word))

-- the features of each collection among these versions, which are the versions of the revision
abbrev pub snapshot_of : ℕ → List VersionedObject → RevisionFeatures
snapshot_of revision versions = with_features revision (features_in versions)

-- the features of each collection after the first commands
abbrev pub snapshot_at : ℕ → List Command → RevisionFeatures
snapshot_at revision commands = snapshot_of revision (as_of revision commands)

-- the feature has these numbers: of its object, and of the version
abbrev pub has_numbers : Numbers → Item → Bool
has_numbers numbers x = object_number x.object == numbers.0 && x.number == numbers.1

abbrev pub feature_with : Numbers → List Item → Option Item
feature_with numbers xs = find (has_numbers numbers) xs

-- one feature, if it exists
abbrev pub feature_content : Collection → Option Item → Content
feature_content collection None = refusal status.NotFound (codes "no-feature")
feature_content collection (Some x) = (status.Ok, compact_text (linked_feature_data collection x))

-- what is sought, among the features of a revision
abbrev pub content_in : FeatureRequest → RevisionFeatures → Content
content_in (Page ask) snapshot = (status.Ok, compact_text (page_data ask snapshot))
content_in (Feature collection identifier) snapshot =
    feature_content collection (feature_with (numbers_of identifier) (features_at snapshot collection))

-- the content of the answer: that of a response, or of the page that is to be made of a snapshot
abbrev pub content_located : Located → Content
content_located (located.Response response) = content_in_response response
content_located (located.Page ask snapshot) = content_in (Page ask) snapshot

-- what is sought, in the snapshot that was found for it; without one, its revision does not exist
abbrev pub content_found : FeatureRequest → Option RevisionFeatures → Content
content_found sought None = refusal status.BadRequest (codes "revision")
content_found sought (Some snapshot) = content_in sought snapshot

-- the revision that is asked for, or the newest
abbrev pub revision_sought : FeatureRequest → ℕ → ℕ
revision_sought (Page ask) newest = unwrap_or ask.continuation.revision newest
revision_sought (Feature collection identifier) newest = newest

-- the same with the commands in force; a revision above theirs is refused
abbrev pub content_of : FeatureRequest → List Command → Content
content_of sought commands =
    if nat_lt (length commands) (revision_sought sought (length commands)) then refusal status.BadRequest (codes "revision")
    else content_in sought (snapshot_at (revision_sought sought (length commands)) commands)

-- what is wanted, with the commands in force
abbrev pub content_requested : ParsedRequest → List Command → Content
content_requested (parsed.Immediate response) commands = content_in_response response
content_requested (parsed.Features sought) commands = content_of sought commands
