-- What holds of changes (ISO 19152:2012, VersionedObject; OGC 17-069r4, 7.15: items).
use Rattle.std.specs.Prelude.{◌≡◌, ◌+◌, List, [], ◌∷◌, ◌++◌, length, Contains}
use Rattle.std.specs.List.{All}
use Rattle.std.specs.List.Sorted.{IsStrictlySortedBy}
use Rattle.cad_versions.specs.declared.command.Command.{Command}
use Rattle.cad_versions.specs.AsOf.{as_of}
use Rattle.cad_versions.specs.Refusals.{AreAccepted}
use Rattle.cad_schema.specs.declared.collection.Collection.{Collection}
use Rattle.cad_schema.specs.declared.collection.Collection.TheVariants.{Units, Parties}
use Rattle.cad_feature.specs.Features.{by_identifier}
use Rattle.cad_feature.specs.Flatten.{features_in}
use Rattle.cad_changes.specs.Changes.{next, touched}
use Rattle.cad_changes.specs.Touching.{items_touched}
use Rattle.cad_layer.specs.Merging.{merged}

-- the versions at the next revision are those at the last one, as the command leaves them
abbrev pub NextRevision : Type 0
NextRevision = (commands : List Command) (c : Command) → AreAccepted [] (commands ++ c ∷ [])
    → as_of (length commands + 1) (commands ++ c ∷ []) ≡ next (as_of (length commands) commands) c

-- the features at the next revision are those at the last one, merged with those that the command touches
abbrev pub NextFeatures : Type 0
NextFeatures = (commands : List Command) (c : Command) → AreAccepted [] (commands ++ c ∷ []) → (collection : Collection)
    → features_in (as_of (length commands + 1) (commands ++ c ∷ [])) collection
    ≡ merged by_identifier (features_in (as_of (length commands) commands) collection) (touched (as_of (length commands) commands) c collection)

-- what a command touches ascends by identifier
abbrev pub TouchedAscends : Type 0
TouchedAscends = (commands : List Command) (c : Command) → AreAccepted [] (commands ++ c ∷ []) → (collection : Collection)
    → IsStrictlySortedBy by_identifier (touched (as_of (length commands) commands) c collection)

-- and each feature that it touches is one of the next revision
abbrev pub TouchedStands : Type 0
TouchedStands = (commands : List Command) (c : Command) → AreAccepted [] (commands ++ c ∷ []) → (collection : Collection)
    → All (Contains (features_in (as_of (length commands + 1) (commands ++ c ∷ [])) collection)) (touched (as_of (length commands) commands) c collection)

-- the features of the collection, the units and the parties before the command determine what it touches
abbrev pub FeaturesTellTouched : Type 0
FeaturesTellTouched = (commands : List Command) (c : Command) → AreAccepted [] (commands ++ c ∷ []) → (collection : Collection)
    → (let vs = as_of (length commands) commands in
    items_touched (features_in vs collection) (features_in vs Units) (features_in vs Parties) c collection ≡ touched vs c collection)
