-- What is shown of a snapshot does not depend on the periods of its features.
use Rattle.std.proofs.Common.{◌≡◌, ◌∙◌, ℕ, List, [], ◌∷◌, Bool, true, false, cond, map, Option, Some, None, refl, sym, ap}
use Rattle.std.specs.Option.{option_map}
use Rattle.cad_versions.specs.VersionedObject.{VersionedObject}
use Rattle.cad_schema.specs.declared.collection.Collection.{Collection}
use Rattle.cad_feature.specs.Features.{Item}
use Rattle.cad_history.specs.Rows.{bare}
use Rattle.cad_parameters.specs.Identifiers.{Numbers, numbers_of}
use Rattle.cad_history.specs.Snapshots.{IsSnapshotOf, RevisionFeatures, bared, features_at, with_features}
use Rattle.cad_history.specs.lemmas.SnapshotLemmas.{features_bared}
use Rattle.cad_page.specs.lemmas.BareLemmas.{feature_bare, page_bare}
use Rattle.cad_request.specs.declared.feature_request.FeatureRequest.{FeatureRequest}
use Rattle.cad_request.specs.declared.feature_request.FeatureRequest.TheVariants.{Page, Feature}
use Rattle.cad_head.specs.declared.status.Status.TheVariants as status
use Rattle.serde_json.specs.Written.{compact_text}
use Rattle.cad_server.specs.Contents.{content_in, feature_content, feature_with, has_numbers, snapshot_of}

-- the features of these versions, without periods
bared_is : (revision : ℕ) (versions : List VersionedObject) (s : RevisionFeatures) → IsSnapshotOf revision versions s → bared s ≡ snapshot_of revision versions
bared_is revision versions s is = λ i. with_features (is.of_revision i) (λ collection. is.features collection i)

found_bare : (numbers : Numbers) (xs : List Item) → feature_with numbers (map bare xs) ≡ option_map bare (feature_with numbers xs)
found_bare numbers [] = refl
found_bare numbers (x ∷ xs) = go (has_numbers numbers x) (found_bare numbers xs)
  where
    go : (b : Bool) → feature_with numbers (map bare xs) ≡ option_map bare (feature_with numbers xs)
        → cond b (Some (bare x)) (feature_with numbers (map bare xs)) ≡ option_map bare (cond b (Some x) (feature_with numbers xs))
    go true more = refl
    go false more = more

content_bare : (collection : Collection) (found : Option Item) → feature_content collection (option_map bare found) ≡ feature_content collection found
content_bare collection None = refl
content_bare collection (Some x) = ap (λ d. (status.Ok, compact_text d)) (feature_bare collection x)

shown_bare : (sought : FeatureRequest) (s : RevisionFeatures) → content_in sought (bared s) ≡ content_in sought s
shown_bare (Page ask) s = ap (λ d. (status.Ok, compact_text d)) (page_bare ask s)
shown_bare (Feature collection identifier) s =
    ap (λ xs. feature_content collection (feature_with (numbers_of identifier) xs)) (features_bared s collection)
    ∙ ap (feature_content collection) (found_bare (numbers_of identifier) (features_at s collection))
    ∙ content_bare collection (feature_with (numbers_of identifier) (features_at s collection))

-- what is sought among the features of a snapshot is what the versions of its revision say
pub content_at : (sought : FeatureRequest) (revision : ℕ) (versions : List VersionedObject) (s : RevisionFeatures) → IsSnapshotOf revision versions s → content_in sought s ≡ content_in sought (snapshot_of revision versions)
content_at sought revision versions s is = sym (shown_bare sought s) ∙ ap (content_in sought) (bared_is revision versions s is)
