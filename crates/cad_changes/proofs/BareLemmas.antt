-- What a command touches does not depend on the periods of the features before it.
use Rattle.std.proofs.Common.{◌≡◌, Bool, true, false, cond, List, [], ◌∷◌, length, map, filter, find, Option, Some, None, option_map, refl, sym, ap, ap₂, ◌∙◌}
use Rattle.std.specs.Prelude.{option_and_then}
use Rattle.std.proofs.lemmas.List.{length-map}
use Rattle.cad_day.specs.declared.day.Day.{Day}
use Rattle.cad_versions.specs.declared.command.Command.{Command}
use Rattle.cad_versions.specs.declared.command.Command.TheVariants.{Enter, Amend, Retire}
use Rattle.cad_versions.specs.declared.object_id.ObjectId.{ObjectId}
use Rattle.cad_versions.specs.BodyParts.{unit_named, party_named}
use Rattle.cad_versions.specs.lemmas.ListLemmas.{map-map, filter-map, find_in_map}
use Rattle.cad_versions.specs.VersionedObject.{VersionedObject}
use Rattle.cad_schema.specs.declared.collection.Collection.{Collection}
use Rattle.cad_feature.specs.Features.{Item, by_identifier}
use Rattle.cad_feature.specs.Flatten.{is_in, feature_in}
use Rattle.cad_history.specs.Rows.{bare}
use Rattle.cad_layer.specs.Identifiers.{is_item_of, of_object}
use Rattle.cad_layer.specs.lemmas.MergeLemmas.{map_put}
use Rattle.cad_layer.specs.Merging.{put_if}
use Rattle.cad_changes.specs.Touching.{Edits, edited, touches, item_left, items_left, has_day, name_of, name_among, count_of, begun_after, version_begun, names_joined, item_of, item_added, items_touched}

-- ---- features that the command leaves

bare_left : (c : Command) (collection : Collection) (xs : List Item) → items_left c collection (map bare xs) ≡ map bare (items_left c collection xs)
bare_left c collection xs =
    let left = filter (touches c collection) xs in
    ap (map (item_left c collection)) (filter-map (touches c collection) bare xs)
    ∙ map-map (item_left c collection) bare left
    ∙ sym (map-map bare (item_left c collection) left)

-- ---- the feature that it adds

bare_of_object : (object : ObjectId) (xs : List Item) → of_object object (map bare xs) ≡ map bare (of_object object xs)
bare_of_object object xs = filter-map (is_item_of object) bare xs

name_bare : (found : Option Item) → name_of (option_map bare found) ≡ name_of found
name_bare None = refl
name_bare (Some x) = refl

bare_name : (day : Day) (object : ObjectId) (xs : List Item) → name_among (map bare xs) day object ≡ name_among xs day object
bare_name day object xs =
    ap (λ (ys : List Item). name_of (find (has_day day) ys)) (bare_of_object object xs)
    ∙ ap name_of (find_in_map (has_day day) bare (of_object object xs))
    ∙ name_bare (find (has_day day) (of_object object xs))

bare_count : (object : ObjectId) (xs : List Item) → count_of object (map bare xs) ≡ count_of object xs
bare_count object xs = ap length (bare_of_object object xs) ∙ length-map (of_object object xs) bare

bare_begun : (c : Command) (xs : List Item) → version_begun (map bare xs) c ≡ version_begun xs c
bare_begun (Enter object first body) xs = ap (λ n. begun_after n object first body) (bare_count object xs)
bare_begun (Amend object first body) xs = ap (λ n. begun_after n object first body) (bare_count object xs)
bare_begun (Retire object last) xs = refl

bare_if_named : (xs : List Item) (day : Day) (named : Option ObjectId) → option_map (name_among (map bare xs) day) named ≡ option_map (name_among xs day) named
bare_if_named xs day None = refl
bare_if_named xs day (Some object) = ap Some (bare_name day object xs)

bare_joined : (units parties : List Item) (v : VersionedObject) → names_joined (map bare units) (map bare parties) v ≡ names_joined units parties v
bare_joined units parties v = λ i. record {
  closing = None;
  unit_name = bare_if_named units v.first (unit_named v.body) i;
  party_name = bare_if_named parties v.first (party_named v.body) i;
}

-- it has the period of all revisions
bare_if_in : (edits : Edits) (collection : Collection) (v : VersionedObject) (b : Bool)
    → cond b (Some (edited edits collection (feature_in (v ∷ []) collection v))) None ≡ option_map bare (cond b (Some (edited edits collection (feature_in (v ∷ []) collection v))) None)
bare_if_in edits collection v true = refl
bare_if_in edits collection v false = refl

bare_of : (units parties : List Item) (collection : Collection) (v : VersionedObject) → item_of (map bare units) (map bare parties) collection v ≡ option_map bare (item_of units parties collection v)
bare_of units parties collection v =
    ap (λ (e : Edits). cond (is_in collection v) (Some (edited e collection (feature_in (v ∷ []) collection v))) None) (bare_joined units parties v)
    ∙ bare_if_in (names_joined units parties v) collection v (is_in collection v)

bare_if_any : (units parties : List Item) (collection : Collection) (v : Option VersionedObject)
    → option_and_then (item_of (map bare units) (map bare parties) collection) v ≡ option_map bare (option_and_then (item_of units parties collection) v)
bare_if_any units parties collection None = refl
bare_if_any units parties collection (Some v) = bare_of units parties collection v

bare_added : (xs units parties : List Item) (c : Command) (collection : Collection)
    → item_added (map bare xs) (map bare units) (map bare parties) c collection ≡ option_map bare (item_added xs units parties c collection)
bare_added xs units parties c collection =
    ap (option_and_then (item_of (map bare units) (map bare parties) collection)) (bare_begun c xs) ∙ bare_if_any units parties collection (version_begun xs c)

-- ---- all of them

bare_put : (added : Option Item) (xs : List Item) → map bare (put_if by_identifier added xs) ≡ put_if by_identifier (option_map bare added) (map bare xs)
bare_put None xs = refl
bare_put (Some x) xs = map_put by_identifier by_identifier bare (λ a b. refl) x xs

pub bare_touched : (xs units parties : List Item) (c : Command) (collection : Collection)
    → items_touched (map bare xs) (map bare units) (map bare parties) c collection ≡ map bare (items_touched xs units parties c collection)
bare_touched xs units parties c collection =
    ap₂ (put_if by_identifier) (bare_added xs units parties c collection) (bare_left c collection xs)
    ∙ sym (bare_put (item_added xs units parties c collection) (items_left c collection xs))
