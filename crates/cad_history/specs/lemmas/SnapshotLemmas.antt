-- The features of snapshots.
use Rattle.std.proofs.Common.{◌≡◌, ℕ, List, [], map}
use Rattle.cad_schema.specs.declared.collection.Collection.{Collection}
use Rattle.cad_feature.specs.Features.{Item}
use Rattle.cad_history.specs.Rows.{bare}
use Rattle.cad_history.specs.Snapshots.{RevisionFeatures, bared, features_at, with_features}
use Rattle.cad_history.specs.lemmas.CollectionLemmas.{entry_made}

pub features_given : (revision : ℕ) (given : Collection → List Item) (collection : Collection) → features_at (with_features revision given) collection ≡ given collection
features_given revision given collection = entry_made [] given collection

pub features_bared : (s : RevisionFeatures) (collection : Collection) → features_at (bared s) collection ≡ map bare (features_at s collection)
features_bared s collection = features_given s.revision (λ c. map bare (features_at s c)) collection
