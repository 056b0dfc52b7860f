-- Lists that ascend by identifier, and a binary search of them.
use Rattle.std.proofs.Common.{◌≡◌, ℕ, zero, suc, ◌+◌, ◌<◌, ℤ, false, List, [], ◌∷◌, length, refl, sym, ap, ◌∙◌, subst, arith, get_or, Contains, Option, Some, None, Ordering, Less, Equal, Greater, is_lt, is_eq, int_cmp, true≢false, ⊎_elim}
use Rattle.std.specs.Ordering.{ordering_then, ordering_reverse, ordering_index}
use Rattle.std.specs.List.{AllByRecursion, HoldsAt}
use Rattle.std.specs.List.Sorted.{IsStrictlySortedBy, IsSortedBy, IsNonDecreasingBy, IsPartitionPoint}
use Rattle.std.proofs.lemmas.Bool.{cases_lt}
use Rattle.std.proofs.lemmas.Int.{ints}
use Rattle.std.proofs.lemmas.List.{get_or_default}
use Rattle.std.proofs.lemmas.List.Elements.{All-from_recursion, All-contains}
use Rattle.std.proofs.lemmas.List.Sorted.{searchable_from_sorted}
use Rattle.cad_versions.specs.Identifiers.{identifier_cmp}
use Rattle.cad_versions.specs.lemmas.OrderLemmas.{identifiers_total}
use Rattle.cad_feature.specs.Features.{Item, identifier_of, by_identifier}
use Rattle.cad_layer.specs.Identifiers.{compared, IsTheOne}

-- ---- the order of identifiers

less_not_equal : ¬ (Less ≡ Equal)
less_not_equal e = true≢false (sym (ap is_eq e))

greater_not_equal : ¬ (Greater ≡ Equal)
greater_not_equal e = true≢false (sym (ap is_eq e))

first_equal : (o p : Ordering) → ordering_then o p ≡ Equal → o ≡ Equal
first_equal Less p e = e
first_equal Equal p e = refl
first_equal Greater p e = e

then_equal : (o p : Ordering) → ordering_then o p ≡ Equal → p ≡ Equal
then_equal Less p e = absurd (less_not_equal e)
then_equal Equal p e = e
then_equal Greater p e = absurd (greater_not_equal e)

equal_ints : (m n : ℤ) → int_cmp m n ≡ Equal → m ≡ n
equal_ints m n e = grind (arith, ints)

ints_equal : (m : ℤ) → int_cmp m m ≡ Equal
ints_equal m = grind (arith, ints)

pub equal_is : (a b : ℤ × ℤ) → identifier_cmp a b ≡ Equal → a ≡ b
equal_is a b e =
    let first : a.0 ≡ b.0 = equal_ints a.0 b.0 (first_equal _ _ e) in
    let second : a.1 ≡ b.1 = equal_ints a.1 b.1 (then_equal (int_cmp a.0 b.0) _ e) in
    ap (λ (i : ℤ). (i, a.1)) first ∙ ap (λ (i : ℤ). (b.0, i)) second

pub is_equal : (a b : ℤ × ℤ) → a ≡ b → identifier_cmp a b ≡ Equal
is_equal a b e = subst (λ (i : ℤ × ℤ). identifier_cmp a i ≡ Equal) e (rw (ints_equal a.0) (ints_equal a.1))

-- ---- lists that ascend

pub suc_plus : (k : ℕ) → suc k + 1 ≡ suc (k + 1)
suc_plus k = omega arith

neighbours : (xs : List Item) → IsStrictlySortedBy by_identifier xs → (k : ℕ) (d : Item) → k + 1 < length xs → by_identifier (get_or xs k d) (get_or xs (k + 1) d) ≡ Less
unfolding IsStrictlySortedBy
neighbours [] up k d h = absurd (omega (arith, h))
neighbours (x ∷ xs) up zero d h = All-from_recursion (λ y. by_identifier x y ≡ Less) xs up.0 0 d (omega (arith, h))
neighbours (x ∷ xs) up (suc k) d h = rw (suc_plus k) (neighbours xs up.1 k d (omega (arith, h)))

not_less : (x y : Item) → by_identifier x y ≡ Less → is_lt (by_identifier y x) ≡ false
not_less x y e = ap is_lt (identifiers_total.antisymm (identifier_of y) (identifier_of x) ∙ ap ordering_reverse e)

sorted : (xs : List Item) → IsStrictlySortedBy by_identifier xs → IsSortedBy (λ x y. is_lt (by_identifier x y)) xs
sorted xs up k d low h = not_less (get_or xs k d) (get_or xs (k + 1) d) (neighbours xs up k d h)

-- what a binary search requires of the list
pub searchable : (wanted : ℤ × ℤ) (xs : List Item) → IsStrictlySortedBy by_identifier xs → IsNonDecreasingBy (λ x. ordering_index (compared wanted x)) xs
searchable wanted xs up = searchable_from_sorted identifiers_total identifier_of xs wanted (sorted xs up)

-- ---- one feature with an identifier

other_identifier : (wanted : ℤ × ℤ) (x : Item) (o : Ordering) → compared wanted x ≡ o → ¬ (o ≡ Equal) → ¬ (identifier_of x ≡ wanted)
other_identifier wanted x o is other e = other (sym is ∙ is_equal (identifier_of x) wanted e)

-- if a search ends between two neighbours, the list has no such feature
pub absent : (wanted : ℤ × ℤ) (xs ys : List Item) (i : ℕ) → xs ≡ ys → IsPartitionPoint (λ x. compared wanted x ≡ Less) (λ x. compared wanted x ≡ Greater) xs i → IsTheOne wanted ys None
absent wanted xs ys i same split = rw (← same) (λ k d h. ⊎_elim
    (λ below. other_identifier wanted (get_or xs k d) Less (split.0 k d (omega arith) below) less_not_equal)
    (λ above. other_identifier wanted (get_or xs k d) Greater (split.1 k d above h) greater_not_equal)
    (cases_lt k i))

-- if it ends at a feature, that is the one
pub present : (wanted : ℤ × ℤ) (xs ys : List Item) (i : ℕ) (x : Item) → xs ≡ ys → i < length xs → x ≡ get_or xs i x → HoldsAt (λ y. compared wanted y ≡ Equal) xs i → IsTheOne wanted ys (Some x)
present wanted xs ys i x same h is found = rw (← same) ((i, h, sym is), equal_is (identifier_of x) wanted (subst (λ y. compared wanted y ≡ Equal) (sym is) (found x)))

-- ---- one feature has an identifier

not_later : (x : Item) (xs : List Item) → AllByRecursion (λ y. by_identifier x y ≡ Less) xs → (i : ℕ) (d : Item) → i < length xs → ¬ (identifier_of x ≡ identifier_of (get_or xs i d))
not_later x xs all i d h e = less_not_equal (sym (All-from_recursion (λ y. by_identifier x y ≡ Less) xs all i d h) ∙ is_equal (identifier_of x) (identifier_of (get_or xs i d)) e)

same_place : (xs : List Item) → IsStrictlySortedBy by_identifier xs → (i j : ℕ) (d e : Item) → i < length xs → j < length xs → identifier_of (get_or xs i d) ≡ identifier_of (get_or xs j e) → i ≡ j
unfolding IsStrictlySortedBy
same_place [] up i j d e h k same = absurd (omega (arith, h))
same_place (x ∷ xs) up zero zero d e h k same = refl
same_place (x ∷ xs) up zero (suc j) d e h k same = absurd (not_later x xs up.0 j e (omega (arith, k)) same)
same_place (x ∷ xs) up (suc i) zero d e h k same = absurd (not_later x xs up.0 i d (omega (arith, h)) (sym same))
same_place (x ∷ xs) up (suc i) (suc j) d e h k same = ap suc (same_place xs up.1 i j d e (omega (arith, h)) (omega (arith, k)) same)

same_feature : (xs : List Item) → IsStrictlySortedBy by_identifier xs → (x y : Item) → Contains xs x → Contains xs y → identifier_of x ≡ identifier_of y → x ≡ y
same_feature xs up x y (i, h, at) (j, k, also) same =
    let place : i ≡ j = same_place xs up i j x y h k (ap identifier_of at ∙ same ∙ ap identifier_of (sym also)) in
    sym at ∙ get_or_default xs i x y h ∙ ap (λ n. get_or xs n y) place ∙ also

pub unique : (wanted : ℤ × ℤ) (xs : List Item) (one other : Option Item) → IsStrictlySortedBy by_identifier xs → IsTheOne wanted xs one → IsTheOne wanted xs other → one ≡ other
unique wanted xs None None up h k = refl
unique wanted xs None (Some y) up h k = absurd (All-contains (λ x. ¬ (identifier_of x ≡ wanted)) xs y h k.0 k.1)
unique wanted xs (Some x) None up h k = absurd (All-contains (λ x. ¬ (identifier_of x ≡ wanted)) xs x k h.0 h.1)
unique wanted xs (Some x) (Some y) up h k = ap Some (same_feature xs up x y h.0 k.0 (h.1 ∙ sym k.1))
