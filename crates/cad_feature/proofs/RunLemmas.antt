-- The versions of one object are one run of a list that ascends by identifier.
use Rattle.std.proofs.Common.{◌≡◌, ℕ, zero, suc, ◌+◌, ◌-◌, cond, ◌≤◌, ◌<◌, pos, Bool, true, false, List, [], ◌∷◌, length, take, drop, refl, sym, ap, ◌∙◌, arith, get_or, Ordering, Less, int_cmp}
use Rattle.std.specs.List.{AllByRecursion, prefix_len}
use Rattle.std.specs.List.Sorted.{IsStrictlySortedBy, IsNonDecreasingBy, IsPartitionedBy, IsPartitionPoint}
use Rattle.std.specs.Ordering.{ordering_then}
use Rattle.std.proofs.lemmas.Int.{ints}
use Rattle.std.proofs.lemmas.List.{take_all, length-drop}
use Rattle.std.proofs.lemmas.Bool.Decides.{nat_tests}
use Rattle.std.proofs.lemmas.List.Sorted.{IsPartitionedBy-ltb, IsNonDecreasingBy-drop}
use Rattle.cad_versions.specs.declared.object_id.ObjectId.{ObjectId}
use Rattle.cad_versions.specs.Objects.{object_number}
use Rattle.cad_versions.specs.Identifiers.{by_identifier}
use Rattle.cad_versions.specs.VersionedObject.{VersionedObject}
use Rattle.cad_versions.specs.Versions.{is_of, history}
use Rattle.cad_feature.specs.inner.Stretches.{number_in}
use lib.Dec.{ltb}

-- what stands from a place on, as a slice has it
pub rest_is : {X : Type 0} (xs : List X) (first : ℕ) → take (length xs - first) (drop first xs) ≡ drop first xs
rest_is xs first = take_all (length xs - first) (drop first xs) (omega (arith, length-drop first xs))

-- ---- the numbers of objects do not fall

less_then : (m n : ℕ) (o : Ordering) → ordering_then (int_cmp (pos m) (pos n)) o ≡ Less → m ≤ n
less_then m n o e = grind (arith, ints)

module _ {X : Type 0} (version : X → VersionedObject) where
  at_most : (x : X) (xs : List X) → AllByRecursion (λ y. by_identifier (version x) (version y) ≡ Less) xs → (j : ℕ) (d : X) → j < length xs → number_in (version x) ≤ number_in (version (get_or xs j d))
  at_most x [] all j d h = absurd (omega (arith, h))
  at_most x (y ∷ xs) all zero d h = less_then (number_in (version x)) (number_in (version y)) _ all.0
  at_most x (y ∷ xs) all (suc j) d h = at_most x xs all.1 j d (omega (arith, h))

  pub rise : (xs : List X) → IsStrictlySortedBy (λ x y. by_identifier (version x) (version y)) xs → IsNonDecreasingBy (λ x. number_in (version x)) xs
  unfolding IsStrictlySortedBy
  rise [] up i j d le h = absurd (omega (arith, h))
  rise (x ∷ xs) up zero zero d le h = omega arith
  rise (x ∷ xs) up zero (suc j) d le h = at_most x xs up.0 j d (omega (arith, h))
  rise (x ∷ xs) up (suc i) zero d le h = absurd (omega (arith, le))
  rise (x ∷ xs) up (suc i) (suc j) d le h = rise xs up.1 i j d (omega (arith, le)) (omega (arith, h))

pub numbers_rise : (vs : List VersionedObject) → IsStrictlySortedBy by_identifier vs → IsNonDecreasingBy number_in vs
numbers_rise vs up = rise (λ v. v) vs up

-- ---- the run

module _ (object : ObjectId) where
  abbrev pub is_less : VersionedObject → Bool
  is_less v = ltb (number_in v) (object_number object)

  abbrev pub StartsAt : List VersionedObject → ℕ → Type 0
  StartsAt = IsPartitionPoint (λ v. is_less v ≡ true) (λ v. is_less v ≡ false)

  less_is_other : (v : VersionedObject) → is_less v ≡ true → is_of object v ≡ false
  less_is_other v h = grind (arith, ints, nat_tests)

  other_is_more : (v : VersionedObject) → is_less v ≡ false → is_of object v ≡ false → object_number object < number_in v
  other_is_more v h k = grind (arith, ints, nat_tests)

  more_is_other : (v : VersionedObject) → object_number object < number_in v → is_of object v ≡ false
  more_is_other v h = grind (arith, ints, nat_tests)

  left : (v : VersionedObject) (vs : List VersionedObject) → is_of object v ≡ false → history object (v ∷ vs) ≡ history object vs
  left v vs e = rw e refl

  -- no version is of the object where all have greater numbers
  none_is : (vs : List VersionedObject) → ((j : ℕ) (d : VersionedObject) → j < length vs → object_number object < number_in (get_or vs j d)) → history object vs ≡ []
  none_is [] more = refl
  none_is (v ∷ vs) more = left v vs (more_is_other v (more 0 v (omega arith))) ∙ none_is vs (λ j d h. more (suc j) d (omega (arith, h)))

  front_is : (vs : List VersionedObject) → IsNonDecreasingBy number_in vs → StartsAt vs 0 → take (prefix_len (is_of object) vs) vs ≡ history object vs
  front_is [] rising start = refl
  front_is (v ∷ vs) rising start =
      go (is_of object v) refl (front_is vs (λ i j d le h. rising (suc i) (suc j) d (omega (arith, le)) (omega (arith, h))) ((λ k d le h. absurd (omega (arith, h))), λ k d le h. start.1 (suc k) d (omega arith) (omega (arith, h))))
    where
      go : (b : Bool) → is_of object v ≡ b → take (prefix_len (is_of object) vs) vs ≡ history object vs → take (cond b (1 + prefix_len (is_of object) vs) 0) (v ∷ vs) ≡ cond b (v ∷ history object vs) (history object vs)
      go true e rest = ap (λ n. take n (v ∷ vs)) one ∙ ap (λ ws. v ∷ ws) rest
        where
          one : 1 + prefix_len (is_of object) vs ≡ suc (prefix_len (is_of object) vs)
          one = omega arith
      go false e rest =
          let least = other_is_more v (start.1 0 v (omega arith) (omega arith)) e in
          sym (none_is vs (λ j d h. omega (arith, least, rising 0 (suc j) d (omega arith) (omega (arith, h)))))

  run_is : (vs : List VersionedObject) (first : ℕ) → IsNonDecreasingBy number_in (drop first vs) → StartsAt vs first → take (prefix_len (is_of object) (drop first vs)) (drop first vs) ≡ history object vs
  run_is vs zero rising start = front_is vs rising start
  run_is [] (suc first) rising start = refl
  run_is (v ∷ vs) (suc first) rising start =
      run_is vs first rising ((λ k d le h. start.0 (suc k) d (omega arith) (omega (arith, h))), λ k d le h. start.1 (suc k) d (omega (arith, le)) (omega (arith, h)))
      ∙ sym (left v vs (less_is_other v (start.0 0 v (omega arith) (omega arith))))

  pub begins : (vs : List VersionedObject) → IsNonDecreasingBy number_in vs → IsPartitionedBy is_less vs
  begins vs rising = IsPartitionedBy-ltb number_in vs (object_number object) rising

  pub run_of : (vs rest : List VersionedObject) (first : ℕ) → rest ≡ drop first vs → IsNonDecreasingBy number_in vs → StartsAt vs first → take (prefix_len (is_of object) rest) rest ≡ history object vs
  run_of vs rest first is rising start = rw is (run_is vs first (IsNonDecreasingBy-drop number_in first vs rising) start)
