-- The features that a command touches, told by those of its object and those that name it.
use Rattle.std.proofs.Common.{◌≡◌, Bool, true, false, cond, ◌&&◌, ◌||◌, List, [], ◌∷◌, map, filter, is_none, refl, sym, ap, ap₂, ◌∙◌, subst, Ordering, Less, true≢false}
use Rattle.std.specs.Cmp.{IsTotalOrder}
use Rattle.std.specs.List.{AllByRecursion}
use Rattle.std.specs.Ordering.{ordering_reverse}
use Rattle.std.specs.List.Sorted.{IsStrictlySortedBy}
use Rattle.std.proofs.lemmas.Cmp.{tied_itself}
use Rattle.std.proofs.lemmas.List.Kept.{IsStrictlySortedBy-filter}
use Rattle.cad_versions.specs.declared.command.Command.{Command}
use Rattle.cad_versions.specs.Command.{object_named}
use Rattle.cad_schema.specs.declared.collection.Collection.{Collection}
use Rattle.cad_feature.specs.Features.{Item, by_identifier}
use Rattle.cad_layer.specs.Identifiers.{is_item_of, of_object}
use Rattle.cad_layer.specs.lemmas.ItemLemmas.{items_total}
use Rattle.cad_layer.specs.Merging.{put, merged}
use Rattle.cad_layer.specs.lemmas.MergeLemmas.{change_behind, change_first, change_in_place, map_put}
use Rattle.cad_layer.specs.Walks.{all_in, IsInOrder}
use Rattle.cad_changes.specs.Touching.{last_of, is_closing, renames, names_object, touches, item_left, items_left}
use Rattle.cad_changes.proofs.FitLemmas.{left_ascend}
use Rattle.cad_versions.specs.lemmas.ListLemmas.{all_filtered}

-- ---- two parts of a list that ascends

module _ {X : Type 0} (cmp : X → X → Ordering) (total : IsTotalOrder cmp) (t q p : X → Bool) (covers : (x : X) → t x ≡ true → (q x || p x) ≡ true) where
  -- those of one part that pass
  abbrev part : (X → Bool) → List X → List X
  part r xs = filter t (filter r xs)

  part_at : (r : X → Bool) (x : X) (xs : List X) → part r (x ∷ xs) ≡ cond (r x && t x) (x ∷ part r xs) (part r xs)
  part_at r x xs = go (r x)
    where
      go : (b : Bool) → filter t (cond b (x ∷ filter r xs) (filter r xs)) ≡ cond (b && t x) (x ∷ part r xs) (part r xs)
      go true = refl
      go false = refl

  all_later : (r : X → Bool) (x : X) (xs : List X) → AllByRecursion (λ y. cmp x y ≡ Less) xs → AllByRecursion (λ y. cmp x y ≡ Less) (part r xs)
  all_later r x xs all = all_filtered (λ y. cmp x y ≡ Less) t (filter r xs) (all_filtered (λ y. cmp x y ≡ Less) r xs all)

  behind : (x : X) (bs cs : List X) → AllByRecursion (λ y. cmp x y ≡ Less) cs → IsStrictlySortedBy cmp cs → merged cmp (x ∷ bs) cs ≡ x ∷ merged cmp bs cs
  behind x bs [] all up = refl
  behind x bs (c ∷ cs) all up = change_behind cmp total x bs c cs (total.antisymm c x ∙ ap ordering_reverse all.0) up

  -- what passes is in one of them or in both, and then once
  pub parts_merged : (xs : List X) → IsStrictlySortedBy cmp xs → merged cmp (part q xs) (part p xs) ≡ filter t xs
  unfolding IsStrictlySortedBy
  parts_merged [] up = refl
  parts_merged (x ∷ xs) up = ap₂ (merged cmp) (part_at q x xs) (part_at p x xs) ∙ go (t x) (q x) (p x) (covers x) (parts_merged xs up.1)
    where
      risen : IsStrictlySortedBy cmp (part p xs)
      risen = IsStrictlySortedBy-filter cmp t (filter p xs) (IsStrictlySortedBy-filter cmp p xs up.1)

      rising : IsStrictlySortedBy cmp (x ∷ part p xs)
      rising = (all_later p x xs up.0, risen)

      go : (k a b : Bool) → (k ≡ true → (a || b) ≡ true) → merged cmp (part q xs) (part p xs) ≡ filter t xs
          → merged cmp (cond (a && k) (x ∷ part q xs) (part q xs)) (cond (b && k) (x ∷ part p xs) (part p xs)) ≡ cond k (x ∷ filter t xs) (filter t xs)
      go true true true h more = change_in_place cmp total x (part q xs) x (part p xs) (tied_itself total x) rising ∙ ap (λ l. x ∷ l) more
      go true true false h more = behind x (part q xs) (part p xs) (all_later p x xs up.0) risen ∙ ap (λ l. x ∷ l) more
      go true false true h more = change_first cmp total (part q xs) x (part p xs) (all_later q x xs up.0) rising ∙ ap (λ l. x ∷ l) more
      go true false false h more = absurd (true≢false (sym (h refl)))
      go false true true h more = more
      go false true false h more = more
      go false false true h more = more
      go false false false h more = more

map_merged : (f : Item → Item) → ((a b : Item) → by_identifier (f a) (f b) ≡ by_identifier a b) → (base cs : List Item) → map f (merged by_identifier base cs) ≡ merged by_identifier (map f base) (map f cs)
map_merged f same base [] = refl
map_merged f same base (c ∷ cs) = map_put by_identifier by_identifier f same c (merged by_identifier base cs) ∙ ap (put by_identifier (f c)) (map_merged f same base cs)

-- ---- the features of the object, and those that name it

covers_by : (k i n r m : Bool) → ((k && (i && n)) || (r && m)) ≡ true → (i || m) ≡ true
covers_by k true n r m h = refl
covers_by k false n r true h = refl
covers_by true false n true false h = h
covers_by true false n false false h = h
covers_by false false n true false h = h
covers_by false false n false false h = h

module _ (c : Command) (collection : Collection) where
  covers : (x : Item) → touches c collection x ≡ true → (is_item_of (object_named c) x || names_object c collection x) ≡ true
  covers x h = covers_by (is_closing c) (is_item_of (object_named c) x) (is_none (last_of x)) (renames c x) (names_object c collection x) h

  module _ (xs own named : List Item) (up : IsStrictlySortedBy by_identifier xs) (own_is : own ≡ items_left c collection (of_object (object_named c) xs)) (others_are : named ≡ items_left c collection (filter (names_object c collection) xs)) where
    left_rise : (p : Item → Bool) (ys : List Item) → ys ≡ items_left c collection (filter p xs) → IsStrictlySortedBy by_identifier ys
    left_rise p ys is = subst (IsStrictlySortedBy by_identifier) (sym is) (left_ascend c collection (filter p xs) (IsStrictlySortedBy-filter by_identifier p xs up))

    pub parts_in_order : IsInOrder own named
    parts_in_order = (left_rise (is_item_of (object_named c)) own own_is, left_rise (names_object c collection) named others_are)

    pub parts_are_left : all_in own named ≡ items_left c collection xs
    parts_are_left =
        ap₂ all_in own_is others_are
        ∙ sym (map_merged (item_left c collection) (λ a b. refl) (filter (touches c collection) (of_object (object_named c) xs)) (filter (touches c collection) (filter (names_object c collection) xs)))
        ∙ ap (map (item_left c collection)) (parts_merged by_identifier items_total (touches c collection) (is_item_of (object_named c)) (names_object c collection) covers xs up)
