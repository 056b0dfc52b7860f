-- The search for the segment of an object, step by step.
use Rattle.std.proofs.Common.{◌≡◌, ◌∙◌, ℕ, zero, suc, ◌<◌, ◌≤◌, Bool, true, false, cond, List, [], ◌∷◌, Option, Some, None, Contains, filter, refl, sym, ap, subst, true≢false, ℤ, arith}
use Rattle.std.specs.List.{AllByRecursion}
use Rattle.std.proofs.lemmas.Int.{ints}
use Rattle.std.proofs.lemmas.List.Elements.{All-from_recursion, recursion_from_All}
use Rattle.cad_versions.specs.declared.object_id.ObjectId.{ObjectId}
use Rattle.cad_versions.specs.lemmas.ListLemmas.{all_filtered, all_kept, all_weaker}
use Rattle.cad_versions.specs.Objects.{object_number}
use Rattle.cad_feature.specs.Features.{Item, identifier_of}
use Rattle.cad_layer.specs.Identifiers.{IsTheOne, identifier, is_item_of, items_after, of_object}
use Rattle.cad_layer.specs.lemmas.LookupLemmas.{later}
use Rattle.cad_layer.specs.lemmas.SegmentLemmas.{passed, skipped, stopped}
use Rattle.cad_layer.specs.Segments.{AreSegments, SegmentFeatures, joined}

module _ (object : ObjectId) (segments : List SegmentFeatures) (s t : SegmentFeatures) (rest ss : List SegmentFeatures) (is : rest ≡ t ∷ ss) (apart : AreSegments (s ∷ rest)) (same : of_object object (joined (s ∷ rest)) ≡ of_object object (joined segments)) where
  apart_of : AreSegments (s ∷ t ∷ ss)
  apart_of = subst (λ r. AreSegments (s ∷ r)) is apart

  pub stops : object_number object < t.start → of_object object s.features ≡ of_object object (joined segments)
  stops h = sym (stopped object s t ss apart_of h) ∙ sym (ap (λ r. of_object object (joined (s ∷ r))) is) ∙ same

  pub goes_apart : AreSegments (t ∷ ss)
  goes_apart = apart_of.1

  pub goes_on : t.start ≤ object_number object → of_object object (joined (t ∷ ss)) ≡ of_object object (joined segments)
  goes_on h = sym (skipped object s t ss apart_of h) ∙ sym (ap (λ r. of_object object (joined (s ∷ r))) is) ∙ same

-- ---- what comes after a version of the object

module _ (object : ObjectId) (s t : SegmentFeatures) (rest behind ss : List SegmentFeatures) (are : rest ≡ s ∷ behind) (is : behind ≡ t ∷ ss) (apart : AreSegments rest) where
  both : rest ≡ s ∷ t ∷ ss
  both = are ∙ ap (λ r. s ∷ r) is

  pub behind_apart : AreSegments behind
  behind_apart = (subst AreSegments are apart).1

  pub goes_past : (number : ℕ) (xs : List Item) → t.start ≤ object_number object → items_after (identifier object number) (joined rest) ≡ xs → items_after (identifier object number) (joined behind) ≡ xs
  goes_past number xs h same =
      ap (λ r. items_after (identifier object number) (joined r)) is
      ∙ sym (passed object number s t ss (subst AreSegments both apart) h)
      ∙ sym (ap (λ r. items_after (identifier object number) (joined r)) both) ∙ same

-- ---- one of the versions

module _ {X : Type 0} (p : X → Bool) (z : X) where
  kept_in : (ys : List X) → Contains (filter p ys) z → Contains ys z
  kept_in [] has = has
  kept_in (y ∷ ys) has = go (p y) has (λ more. later z y ys (kept_in ys more))
    where
      go : (b : Bool) → Contains (cond b (y ∷ filter p ys) (filter p ys)) z → (Contains (filter p ys) z → Contains (y ∷ ys) z) → Contains (y ∷ ys) z
      go true (zero, h, at) more = (zero, omega arith, at)
      go true (suc i, h, at) more = more (i, omega (arith, h), at)
      go false has more = more has

  still_in : p z ≡ true → (ys : List X) → Contains ys z → Contains (filter p ys) z
  still_in t [] (i, h, at) = absurd (omega (arith, h))
  still_in t (y ∷ ys) (zero, h, at) = go (p y) refl
    where
      go : (b : Bool) → p y ≡ b → Contains (cond b (y ∷ filter p ys) (filter p ys)) z
      go true e = (zero, omega arith, at)
      go false e = absurd (true≢false (sym t ∙ sym (ap p at) ∙ e))
  still_in t (y ∷ ys) (suc i, h, at) = go (p y) (still_in t ys (i, omega (arith, h), at))
    where
      go : (b : Bool) → Contains (filter p ys) z → Contains (cond b (y ∷ filter p ys) (filter p ys)) z
      go true has = later z y (filter p ys) has
      go false has = has

module _ (object : ObjectId) (number : ℕ) where
  abbrev wanted : ℤ × ℤ
  wanted = identifier object number

  abbrev IsOther : Item → Type 0
  IsOther x = ¬ (identifier_of x ≡ wanted)

  of_it : (x : Item) → identifier_of x ≡ wanted → is_item_of object x ≡ true
  of_it x e = let same = ap (λ (i : ℤ × ℤ). i.0) e in grind (arith, ints)

  other : (x : Item) → (is_item_of object x ≡ true → IsOther x) → IsOther x
  other x f e = f (of_it x e) e

  none_of : (xs : List Item) → AllByRecursion IsOther (of_object object xs) → AllByRecursion IsOther xs
  none_of xs all = all_weaker (λ x. is_item_of object x ≡ true → IsOther x) IsOther other xs (all_kept IsOther (is_item_of object) xs all)

  -- lists with the same versions of the object have the same one, or neither has it
  pub one_among : (xs ys : List Item) (found : Option Item) → of_object object xs ≡ of_object object ys → IsTheOne wanted xs found → IsTheOne wanted ys found
  one_among xs ys None same none =
      All-from_recursion IsOther ys (none_of ys (subst (AllByRecursion IsOther) same (all_filtered IsOther (is_item_of object) xs (recursion_from_All IsOther xs none))))
  one_among xs ys (Some x) same one =
      (kept_in (is_item_of object) x ys (subst (λ l. Contains l x) same (still_in (is_item_of object) x (of_it x one.1) xs one.0)), one.1)

  pub none_among : (ys : List Item) → of_object object ys ≡ [] → IsTheOne wanted ys None
  none_among ys none = All-from_recursion IsOther ys (none_of ys (subst (AllByRecursion IsOther) (sym none) tt))
