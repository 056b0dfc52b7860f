-- Snapshots of versions, and those of the rows that commands made.
use Rattle.std.proofs.Common.{◌≡◌, ◌∙◌, ℕ, ◌≤◌, List, [], ◌∷◌, length, map, filter, refl, sym, ap, subst, arith, None, Some}
use Rattle.std.specs.List.{AllByRecursion}
use Rattle.cad_versions.specs.declared.command.Command.{Command}
use Rattle.cad_versions.specs.AsOf.{as_of}
use Rattle.cad_versions.specs.VersionedObject.{VersionedObject}
use Rattle.cad_versions.specs.lemmas.ListLemmas.{all_mapped, map-map}
use Rattle.cad_schema.specs.declared.collection.Collection.{Collection}
use Rattle.cad_feature.specs.Features.{Item, AreFeaturesOf}
use Rattle.cad_feature.specs.Flatten.{feature_in, features_in, is_in}
use Rattle.cad_history.specs.Histories.{RegisterRows, rows_for, AreInPlace, AreAllRowsOf}
use Rattle.cad_history.specs.Rows.{AreRows, IsOpenRow, bare, newest_alone}
use Rattle.cad_history.specs.Snapshots.{IsSnapshotOf, moment_features, with_features}
use Rattle.cad_history.specs.lemmas.SnapshotLemmas.{features_given}

all_of : {X : Type 0} (P : X → Type 0) → ((x : X) → P x) → (xs : List X) → AllByRecursion P xs
all_of P holds [] = tt
all_of P holds (x ∷ xs) = (holds x, all_of P holds xs)

-- the features of versions have their values at all revisions
pub newest_rows : (versions : List VersionedObject) (collection : Collection) (xs : List Item) → xs ≡ features_in versions collection → AreFeaturesOf collection xs → length xs ≤ 4294967295 → AreRows (newest_alone collection xs)
newest_rows versions collection xs are listed few = record {
  listed = listed;
  alike = tt;
  each = tt;
  newest_open = subst (AllByRecursion (IsOpenRow 0)) (sym are)
      (all_mapped (IsOpenRow 0) (feature_in versions collection) (filter (is_in collection) versions)
      (all_of (λ v. IsOpenRow 0 (feature_in versions collection v)) (λ v. record { begun = omega arith; endless = refl }) (filter (is_in collection) versions)));
  earlier_ended = tt;
  in_turn = tt;
  few = omega (arith, few);
}

bare_already : (versions : List VersionedObject) (collection : Collection) → map bare (features_in versions collection) ≡ features_in versions collection
bare_already versions collection = map-map bare (feature_in versions collection) (filter (is_in collection) versions)

pub is_of_versions : (revision : ℕ) (versions : List VersionedObject) (rows : RegisterRows) → ((collection : Collection) → (rows_for rows collection).newest ≡ features_in versions collection) → IsSnapshotOf revision versions (with_features revision (moment_features None rows))
is_of_versions revision versions rows are = record {
  of_revision = refl;
  features = λ collection. ap (map bare) (features_given revision (moment_features None rows) collection ∙ are collection) ∙ bare_already versions collection;
}

pub is_of_commands : (commands : List Command) (revision : ℕ) (rows : RegisterRows) → AreInPlace rows → AreAllRowsOf commands rows → revision ≤ length commands → IsSnapshotOf revision (as_of revision commands) (with_features revision (moment_features (Some revision) rows))
is_of_commands commands revision rows placed are within = record {
  of_revision = refl;
  features = λ collection. ap (map bare) (features_given revision (moment_features (Some revision) rows) collection) ∙ (are collection).each revision within ∙ ap (features_in (as_of revision commands)) (placed collection);
}
