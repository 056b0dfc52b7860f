-- What a command touches: its order, where it stands, and that the features before it tell it.
use Rattle.std.proofs.Common.{◌≡◌, ◌+◌, List, [], ◌∷◌, ◌++◌, length, map, filter, get_or, Contains, Option, Some, None, refl, sym, ap, ap₂, ◌∙◌, subst, Ordering, Less}
use Rattle.std.specs.List.{All, AllByRecursion}
use Rattle.std.specs.List.Sorted.{IsStrictlySortedBy}
use Rattle.std.proofs.lemmas.List.{get_or_default}
use Rattle.std.proofs.lemmas.List.Kept.{IsStrictlySortedBy-filter}
use Rattle.cad_versions.specs.declared.command.Command.{Command}
use Rattle.cad_versions.specs.declared.command.Command.TheVariants.{Enter, Amend, Retire}
use Rattle.cad_versions.specs.AsOf.{as_of}
use Rattle.cad_versions.specs.lemmas.HistoryLemmas.{histories, enters}
use Rattle.cad_versions.specs.Identifiers.{by_identifier as by_version}
use Rattle.cad_versions.specs.Refusals.{refusal, AreAccepted}
use Rattle.cad_versions.specs.Sorting.{sort_by}
use Rattle.cad_versions.specs.lemmas.SortLemmas.{all_sorted}
use Rattle.cad_versions.specs.VersionedObject.{VersionedObject}
use Rattle.cad_versions.specs.Versions.{versions}
use Rattle.cad_schema.specs.declared.collection.Collection.{Collection}
use Rattle.cad_schema.specs.declared.collection.Collection.TheVariants.{Units, Parties}
use Rattle.cad_feature.specs.Features.{Item, by_identifier}
use Rattle.cad_feature.specs.Flatten.{is_in, feature_in, features_in}
use Rattle.cad_layer.specs.lemmas.ItemLemmas.{items_total}
use Rattle.cad_layer.specs.lemmas.LookupLemmas.{has_change}
use Rattle.cad_layer.specs.Merging.{put_if, merged}
use Rattle.cad_layer.specs.lemmas.MergeLemmas.{put_ascends}
use Rattle.cad_history.specs.Rows.{bare}
use Rattle.cad_changes.specs.Changes.{left_by, next, is_touched_by, features_left, feature_added, touched}
use Rattle.cad_changes.specs.Touching.{item_added, items_touched}
use Rattle.cad_changes.proofs.AddedLemmas.{addition, sorted_addition, added_by}
use Rattle.cad_changes.proofs.BareLemmas.{bare_touched}
use Rattle.cad_changes.proofs.ClassLemmas.{classes_stand, enter_adds, amend_adds}
use Rattle.cad_changes.proofs.ItemLemmas.{items_left_are}
use Rattle.cad_changes.proofs.RevisionLemmas.{all_as_of, last_accepted, all_accepted, adds, rises, features_of_next}
use Rattle.cad_changes.proofs.StandingLemmas.{IsOver, all_over}
use Rattle.cad_changes.proofs.VersionLemmas.{left_order, adds_new_sorted, same_next_number}

-- ---- in the order of identifiers

all_images : {A X : Type 0} (cmp : X → X → Ordering) (of : A → A → Ordering) (f : A → X) → ((a b : A) → cmp (f a) (f b) ≡ of a b) → (a : A) (bs : List A) → AllByRecursion (λ b. of a b ≡ Less) bs → AllByRecursion (λ y. cmp (f a) y ≡ Less) (map f bs)
all_images cmp of f same a [] all = tt
all_images cmp of f same a (b ∷ bs) all = (same a b ∙ all.0, all_images cmp of f same a bs all.1)

-- what is mapped to the same order ascends
pub images_ascend : {A X : Type 0} (cmp : X → X → Ordering) (of : A → A → Ordering) (f : A → X) → ((a b : A) → cmp (f a) (f b) ≡ of a b) → (us : List A) → IsStrictlySortedBy of us → IsStrictlySortedBy cmp (map f us)
unfolding IsStrictlySortedBy
images_ascend cmp of f same [] up = tt
images_ascend cmp of f same (u ∷ us) up = (all_images cmp of f same u us up.0, images_ascend cmp of f same us up.1)

put_if_ascends : (o : Option Item) (xs : List Item) → IsStrictlySortedBy by_identifier xs → IsStrictlySortedBy by_identifier (put_if by_identifier o xs)
put_if_ascends None xs up = up
put_if_ascends (Some x) xs up = put_ascends by_identifier items_total x xs up

ascends_of : (vs : List VersionedObject) (c : Command) (collection : Collection) → IsStrictlySortedBy by_version vs → IsStrictlySortedBy by_identifier (touched vs c collection)
ascends_of vs c collection up =
    put_if_ascends (feature_added vs c collection) (features_left vs c collection)
    (images_ascend by_identifier by_version (λ v. feature_in (next vs c) collection (left_by c v)) (left_order c) (filter (is_touched_by c) (filter (is_in collection) vs))
    (IsStrictlySortedBy-filter by_version (is_touched_by c) (filter (is_in collection) vs) (IsStrictlySortedBy-filter by_version (is_in collection) vs up)))

pub touched_ascends : (cs : List Command) (c : Command) → AreAccepted [] (cs ++ c ∷ []) → (collection : Collection) → IsStrictlySortedBy by_identifier (touched (as_of (length cs) cs) c collection)
touched_ascends cs c all collection = ascends_of (as_of (length cs) cs) c collection (subst (IsStrictlySortedBy by_version) (sym (all_as_of cs (length cs) refl)) (rises cs c all))

-- ---- among the features of the next revision

stands_in : (base changes : List Item) → IsStrictlySortedBy by_identifier changes → All (Contains (merged by_identifier base changes)) changes
stands_in base changes up = λ k d h. has_change base changes (get_or changes k d) up (k, h, get_or_default changes k (get_or changes k d) d h)

pub touched_stands : (cs : List Command) (c : Command) → AreAccepted [] (cs ++ c ∷ []) → (collection : Collection)
    → All (Contains (features_in (as_of (length cs + 1) (cs ++ c ∷ [])) collection)) (touched (as_of (length cs) cs) c collection)
touched_stands cs c all collection =
    subst (λ xs. All (Contains xs) (touched (as_of (length cs) cs) c collection)) (sym (features_of_next cs c all collection))
    (stands_in (features_in (as_of (length cs) cs) collection) (touched (as_of (length cs) cs) c collection) (touched_ascends cs c all collection))

-- ---- by the features before the command

module _ (vs : List VersionedObject) where
  abbrev Adds : Command → Collection → Type 0
  Adds c collection = item_added (features_in vs collection) (features_in vs Units) (features_in vs Parties) c collection ≡ feature_added vs c collection

added_is : (cs : List Command) (c : Command) → AreAccepted [] (cs ++ c ∷ []) → (collection : Collection) → Adds (sort_by by_version (versions cs)) c collection
added_is cs (Enter object first body) all collection =
    let vs = versions cs in
    let c = Enter object first body in
    let e : refusal vs c ≡ None = last_accepted [] cs c all in
    let facts = addition vs object body (classes_stand cs (all_accepted cs c all)) (enter_adds vs object first body e) in
    added_by (sort_by by_version vs) c (adds_new_sorted vs c (adds cs c all)) first body collection 1 (sorted_addition vs object body facts)
    (same_next_number object vs ∙ ap (λ (ws : List VersionedObject). length ws + 1) (enters object first body vs e))
added_is cs (Amend object first body) all collection =
    let vs = versions cs in
    let c = Amend object first body in
    let e : refusal vs c ≡ None = last_accepted [] cs c all in
    let stand = classes_stand cs (all_accepted cs c all) in
    let facts = addition vs object body stand (amend_adds vs object first body e stand) in
    added_by (sort_by by_version vs) c (adds_new_sorted vs c (adds cs c all)) first body collection _ (sorted_addition vs object body facts) refl
added_is cs (Retire object last) all collection = refl

pub touched_is : (cs : List Command) (c : Command) → AreAccepted [] (cs ++ c ∷ []) → (collection : Collection)
    → (let vs = as_of (length cs) cs in items_touched (features_in vs collection) (features_in vs Units) (features_in vs Parties) c collection ≡ touched vs c collection)
touched_is cs c all collection =
    let vs = sort_by by_version (versions cs) in
    subst (λ vs. items_touched (features_in vs collection) (features_in vs Units) (features_in vs Parties) c collection ≡ touched vs c collection) (sym (all_as_of cs (length cs) refl))
    (ap₂ (put_if by_identifier) (added_is cs c all collection)
    (items_left_are vs c (adds_new_sorted (versions cs) c (adds cs c all)) (all_sorted by_version (IsOver c) (versions cs) (all_over c (versions cs) (last_accepted [] cs c all) (histories cs (all_accepted cs c all)))) collection))

-- the same of lists that are they
pub touched_told : (cs : List Command) (c : Command) → AreAccepted [] (cs ++ c ∷ []) → (collection : Collection) (xs units parties ys : List Item) → ys ≡ items_touched xs units parties c collection
    → xs ≡ features_in (as_of (length cs) cs) collection → units ≡ features_in (as_of (length cs) cs) Units → parties ≡ features_in (as_of (length cs) cs) Parties → ys ≡ touched (as_of (length cs) cs) c collection
touched_told cs c all collection xs units parties ys is f u p =
    let vs = as_of (length cs) cs in
    let same : items_touched xs units parties c collection ≡ items_touched (features_in vs collection) (features_in vs Units) (features_in vs Parties) c collection = λ i. items_touched (f i) (u i) (p i) c collection in
    is ∙ same ∙ touched_is cs c all collection

-- and of lists that are they but for their periods
pub touched_bare : (cs : List Command) (c : Command) → AreAccepted [] (cs ++ c ∷ []) → (collection : Collection) (xs units parties ys : List Item) → ys ≡ items_touched xs units parties c collection
    → map bare xs ≡ features_in (as_of (length cs) cs) collection → map bare units ≡ features_in (as_of (length cs) cs) Units → map bare parties ≡ features_in (as_of (length cs) cs) Parties
    → map bare ys ≡ touched (as_of (length cs) cs) c collection
touched_bare cs c all collection xs units parties ys is =
    touched_told cs c all collection (map bare xs) (map bare units) (map bare parties) (map bare ys) (ap (map bare) is ∙ sym (bare_touched xs units parties c collection))
