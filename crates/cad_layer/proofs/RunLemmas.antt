-- The features of one object are one run of a list that ascends by identifier.
use Rattle.std.proofs.Common.{◌≡◌, ℕ, zero, suc, ◌-◌, ◌≤◌, ◌<◌, ℤ, pos, Bool, true, false, List, [], ◌∷◌, length, take, drop, refl, sym, ap, ◌∙◌, subst, arith, get_or, Less, Equal, int_eq}
use Rattle.std.specs.List.{AllByRecursion}
use Rattle.std.specs.List.Sorted.{IsStrictlySortedBy, IsNonDecreasingBy, IsPartitionedBy, IsPartitionPoint}
use Rattle.std.proofs.lemmas.Int.{ints}
use Rattle.std.proofs.lemmas.List.{take_all, length-drop}
use Rattle.std.proofs.lemmas.List.Kept.{IsStrictlySortedBy-filter}
use Rattle.std.proofs.lemmas.Bool.Decides.{nat_tests}
use Rattle.std.proofs.lemmas.List.Sorted.{IsPartitionedBy-ltb, IsPartitionedBy-leb, IsNonDecreasingBy-drop}
use Rattle.cad_versions.specs.declared.object_id.ObjectId.{ObjectId}
use Rattle.cad_versions.specs.Objects.{object_number}
use Rattle.cad_feature.specs.Features.{Item, identifier_of, by_identifier}
use Rattle.cad_layer.specs.Identifiers.{is_item_of, of_object}
use Rattle.cad_layer.specs.lemmas.ItemLemmas.{items_total}
use Rattle.cad_layer.specs.lemmas.MergeLemmas.{filter_merged}
use Rattle.cad_layer.specs.lemmas.SearchLemmas.{equal_is}
use Rattle.cad_layer.specs.Walks.{all_in, IsInOrder}
use lib.Dec.{ltb, leb}

abbrev pub number_in : Item → ℕ
number_in v = object_number v.object

-- what stands from a place on, as a slice has it
pub rest_is : (vs : List Item) (first : ℕ) → take (length vs - first) (drop first vs) ≡ drop first vs
rest_is vs first = take_all (length vs - first) (drop first vs) (omega (arith, length-drop first vs))

-- ---- the numbers of objects do not fall

pub at_most : (v : Item) (vs : List Item) → AllByRecursion (λ w. by_identifier v w ≡ Less) vs → (j : ℕ) (d : Item) → j < length vs → number_in v ≤ number_in (get_or vs j d)
at_most v [] all j d h = absurd (omega (arith, h))
at_most v (w ∷ vs) all zero d h = let e : by_identifier v w ≡ Less = all.0 in grind (arith, ints)
at_most v (w ∷ vs) all (suc j) d h = at_most v vs all.1 j d (omega (arith, h))

pub numbers_rise : (vs : List Item) → IsStrictlySortedBy by_identifier vs → IsNonDecreasingBy number_in vs
unfolding IsStrictlySortedBy
numbers_rise [] up i j d le h = absurd (omega (arith, h))
numbers_rise (v ∷ vs) up zero zero d le h = omega arith
numbers_rise (v ∷ vs) up zero (suc j) d le h = at_most v vs up.0 j d (omega (arith, h))
numbers_rise (v ∷ vs) up (suc i) zero d le h = absurd (omega (arith, le))
numbers_rise (v ∷ vs) up (suc i) (suc j) d le h = numbers_rise vs up.1 i j d (omega (arith, le)) (omega (arith, h))

-- ---- the run

module _ (object : ObjectId) where
  abbrev pub is_less : Item → Bool
  is_less v = ltb (number_in v) (object_number object)

  abbrev pub is_no_more : Item → Bool
  is_no_more v = leb (number_in v) (object_number object)

  abbrev pub StartsAt : List Item → ℕ → Type 0
  StartsAt = IsPartitionPoint (λ v. is_less v ≡ true) (λ v. is_less v ≡ false)

  abbrev pub StopsAt : List Item → ℕ → Type 0
  StopsAt = IsPartitionPoint (λ v. is_no_more v ≡ true) (λ v. is_no_more v ≡ false)

  less_is_other : (v : Item) → is_less v ≡ true → is_item_of object v ≡ false
  less_is_other v h = grind (arith, ints, nat_tests)

  more_is_other : (v : Item) → is_no_more v ≡ false → is_item_of object v ≡ false
  more_is_other v h = grind (arith, ints, nat_tests)

  neither_is_it : (v : Item) → is_less v ≡ false → is_no_more v ≡ true → is_item_of object v ≡ true
  neither_is_it v h k = grind (arith, ints, nat_tests)

  kept : (v : Item) (vs : List Item) → is_item_of object v ≡ true → of_object object (v ∷ vs) ≡ v ∷ of_object object vs
  kept v vs e = rw e refl

  left : (v : Item) (vs : List Item) → is_item_of object v ≡ false → of_object object (v ∷ vs) ≡ of_object object vs
  left v vs e = rw e refl

  front_is : (vs : List Item) (count : ℕ) → StartsAt vs 0 → StopsAt vs count → take count vs ≡ of_object object vs
  front_is [] zero start stop = refl
  front_is [] (suc count) start stop = refl
  front_is (v ∷ vs) zero start stop =
      sym (left v vs (more_is_other v (stop.1 0 v (omega arith) (omega arith))) ∙ sym (front_is vs zero ((λ k d le h. absurd (omega (arith, h))), λ k d le h. start.1 (suc k) d (omega arith) (omega (arith, h))) ((λ k d le h. absurd (omega (arith, h))), λ k d le h. stop.1 (suc k) d (omega arith) (omega (arith, h)))))
  front_is (v ∷ vs) (suc count) start stop =
      ap (λ ws. v ∷ ws) (front_is vs count ((λ k d le h. absurd (omega (arith, h))), λ k d le h. start.1 (suc k) d (omega arith) (omega (arith, h)))
      ((λ k d le h. stop.0 (suc k) d (omega arith) (omega (arith, h))), λ k d le h. stop.1 (suc k) d (omega (arith, le)) (omega (arith, h))))
      ∙ sym (kept v vs (neither_is_it v (start.1 0 v (omega arith) (omega arith)) (stop.0 0 v (omega arith) (omega arith))))

  run_is : (vs : List Item) (first count : ℕ) → StartsAt vs first → StopsAt (drop first vs) count → take count (drop first vs) ≡ of_object object vs
  run_is vs zero count start stop = front_is vs count start stop
  run_is [] (suc first) zero start stop = refl
  run_is [] (suc first) (suc count) start stop = refl
  run_is (v ∷ vs) (suc first) count start stop =
      run_is vs first count ((λ k d le h. start.0 (suc k) d (omega arith) (omega (arith, h))), λ k d le h. start.1 (suc k) d (omega (arith, le)) (omega (arith, h))) stop
      ∙ sym (left v vs (less_is_other v (start.0 0 v (omega arith) (omega arith))))

  pub begins : (vs : List Item) → IsStrictlySortedBy by_identifier vs → IsPartitionedBy is_less vs
  begins vs up = IsPartitionedBy-ltb number_in vs (object_number object) (numbers_rise vs up)

  pub ends : (vs : List Item) (first : ℕ) → IsStrictlySortedBy by_identifier vs → IsPartitionedBy is_no_more (drop first vs)
  ends vs first up = IsPartitionedBy-leb number_in (drop first vs) (object_number object) (IsNonDecreasingBy-drop number_in first vs (numbers_rise vs up))

  pub run_of : (vs rest : List Item) (first count : ℕ) → rest ≡ drop first vs → StartsAt vs first → StopsAt rest count → take count rest ≡ of_object object vs
  run_of vs rest first count is start stop = rw is (run_is vs first count start (rw is at stop))

-- ---- of a base with changes

same_object : (object : ObjectId) (x y : Item) → by_identifier x y ≡ Equal → is_item_of object x ≡ is_item_of object y
same_object object x y e = ap (λ (i : ℤ × ℤ). int_eq i.0 (pos (object_number object))) (equal_is (identifier_of x) (identifier_of y) e)

pub object_rises : (object : ObjectId) (xs ys : List Item) → ys ≡ of_object object xs → IsStrictlySortedBy by_identifier xs → IsStrictlySortedBy by_identifier ys
object_rises object xs ys is up = subst (IsStrictlySortedBy by_identifier) (sym is) (IsStrictlySortedBy-filter by_identifier (is_item_of object) xs up)

-- the object's features of both, merged, are those of all
pub object_merged : (object : ObjectId) (base changes bs cs : List Item) → bs ≡ of_object object base → cs ≡ of_object object changes → IsInOrder base changes → all_in bs cs ≡ of_object object (all_in base changes)
object_merged object base changes bs cs base_is changes_is up =
    rw (base_is, changes_is) (sym (filter_merged by_identifier items_total (is_item_of object) (same_object object) base changes up.0))
