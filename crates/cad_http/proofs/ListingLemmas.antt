-- The features of a listing ascend, and have identifiers.
use Rattle.std.proofs.Common.{◌≡◌, ℕ, List, [], ◌∷◌, map, filter, Less, sym, subst}
use Rattle.std.specs.List.{All, AllByRecursion}
use Rattle.std.specs.List.Sorted.{IsStrictlySortedBy}
use Rattle.std.proofs.lemmas.List.Elements.{All-from_recursion, All-filter, recursion_from_All}
use Rattle.std.proofs.lemmas.List.Kept.{IsStrictlySortedBy-filter}
use Rattle.cad_versions.specs.VersionedObject.{VersionedObject, IsVersion}
use Rattle.cad_versions.specs.Listing.{IsListing}
use Rattle.cad_versions.specs.Identifiers.{by_identifier as by_version}
use Rattle.cad_schema.specs.declared.collection.Collection.{Collection}
use Rattle.cad_feature.specs.Features.{Item, by_identifier}
use Rattle.cad_feature.specs.Flatten.{is_in, feature_in, features_in}
use Rattle.cad_parameters.specs.Identifiers.{IsVersionNumber}
use Rattle.cad_history.specs.Snapshots.{features_at}
use Rattle.cad_history.specs.lemmas.SnapshotLemmas.{features_given}
use Rattle.cad_server.specs.Contents.{snapshot_of}

-- ---- from versions to features

below_mapped : {X Y : Type 0} (f : X → Y) (P : X → Type 0) (Q : Y → Type 0) → ((x : X) → P x → Q (f x)) → (xs : List X) → AllByRecursion P xs → AllByRecursion Q (map f xs)
below_mapped f P Q h [] all = tt
below_mapped f P Q h (x ∷ xs) all = (h x all.0, below_mapped f P Q h xs all.1)

features_ascend : (vs : List VersionedObject) (c : Collection) (ws : List VersionedObject) → IsStrictlySortedBy by_version ws → IsStrictlySortedBy by_identifier (map (feature_in vs c) ws)
unfolding IsStrictlySortedBy
features_ascend vs c [] up = tt
features_ascend vs c (w ∷ ws) up =
    (below_mapped (feature_in vs c) (λ v. by_version w v ≡ Less) (λ x. by_identifier (feature_in vs c w) x ≡ Less) (λ v h. h) ws up.0, features_ascend vs c ws up.1)

numbered : (vs : List VersionedObject) (c : Collection) (ws : List VersionedObject) → AllByRecursion IsVersion ws → AllByRecursion (λ (x : Item). IsVersionNumber x.number) (map (feature_in vs c) ws)
numbered vs c ws all = below_mapped (feature_in vs c) IsVersion (λ (x : Item). IsVersionNumber x.number) (λ v is. (is.positive, is.small)) ws all

in_ascend : (vs : List VersionedObject) (c : Collection) → IsListing vs → IsStrictlySortedBy by_identifier (features_in vs c)
in_ascend vs c is = features_ascend vs c (filter (is_in c) vs) (IsStrictlySortedBy-filter by_version (is_in c) vs is.ascending)

in_numbered : (vs : List VersionedObject) (c : Collection) → IsListing vs → All (λ (x : Item). IsVersionNumber x.number) (features_in vs c)
in_numbered vs c is =
    All-from_recursion (λ (x : Item). IsVersionNumber x.number) (features_in vs c)
    (numbered vs c (filter (is_in c) vs) (recursion_from_All IsVersion (filter (is_in c) vs) (All-filter (is_in c) IsVersion vs is.each)))

-- ---- of a snapshot

pub ascend : (revision : ℕ) (vs : List VersionedObject) (c : Collection) → IsListing vs → IsStrictlySortedBy by_identifier (features_at (snapshot_of revision vs) c)
ascend revision vs c is = subst (IsStrictlySortedBy by_identifier) (sym (features_given revision (features_in vs) c)) (in_ascend vs c is)

pub have_numbers : (revision : ℕ) (vs : List VersionedObject) (c : Collection) → IsListing vs → All (λ (x : Item). IsVersionNumber x.number) (features_at (snapshot_of revision vs) c)
have_numbers revision vs c is = subst (All (λ (x : Item). IsVersionNumber x.number)) (sym (features_given revision (features_in vs) c)) (in_numbered vs c is)
