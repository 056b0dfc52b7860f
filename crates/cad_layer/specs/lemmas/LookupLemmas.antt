-- A feature of a list with changes, by its identifier.
use Rattle.std.proofs.Common.{◌≡◌, zero, suc, ℤ, false, List, [], ◌∷◌, Contains, Option, Some, None, refl, sym, ap, ◌∙◌, subst, arith, Ordering, Less, Equal, Greater, is_eq, true≢false}
use Rattle.std.specs.List.{AllByRecursion}
use Rattle.std.specs.List.Sorted.{IsStrictlySortedBy}
use Rattle.std.proofs.lemmas.List.Elements.{All-from_recursion, recursion_from_All, All-contains}
use Rattle.cad_versions.specs.lemmas.ListLemmas.{all_weaker}
use Rattle.cad_feature.specs.Features.{Item, identifier_of, by_identifier}
use Rattle.cad_layer.specs.Identifiers.{IsTheOne}
use Rattle.cad_layer.specs.lemmas.ItemLemmas.{items_total}
use Rattle.cad_layer.specs.Merging.{put, put_at, merged}
use Rattle.cad_layer.specs.lemmas.MergeLemmas.{all_merged}
use Rattle.cad_layer.specs.lemmas.SearchLemmas.{equal_is}

here : {X : Type 0} (x : X) (xs : List X) → Contains (x ∷ xs) x
here x xs = (zero, omega arith, refl)

pub later : {X : Type 0} (x y : X) (xs : List X) → Contains xs x → Contains (y ∷ xs) x
later x y xs (i, h, at) = (suc i, omega (arith, h), at)

put_has : (n : Item) (ys : List Item) → Contains (put by_identifier n ys) n
put_has n [] = here n []
put_has n (y ∷ ys) = go (by_identifier n y) (put_has n ys)
  where
    go : (o : Ordering) → Contains (put by_identifier n ys) n → Contains (put_at o n y ys (put by_identifier n ys)) n
    go Less more = here n (y ∷ ys)
    go Equal more = here n ys
    go Greater more = later n y (put by_identifier n ys) more

put_keeps : (n x : Item) (ys : List Item) → is_eq (by_identifier n x) ≡ false → Contains ys x → Contains (put by_identifier n ys) x
put_keeps n x [] apart (i, h, at) = absurd (omega (arith, h))
put_keeps n x (y ∷ ys) apart (zero, h, at) = go (by_identifier n y) refl
  where
    go : (o : Ordering) → by_identifier n y ≡ o → Contains (put_at o n y ys (put by_identifier n ys)) x
    go Less e = later x n (y ∷ ys) (zero, omega arith, at)
    go Equal e = absurd (true≢false (sym (ap is_eq e) ∙ ap (λ z. is_eq (by_identifier n z)) at ∙ apart))
    go Greater e = (zero, omega arith, at)
put_keeps n x (y ∷ ys) apart (suc i, h, at) = go (by_identifier n y) (put_keeps n x ys apart (i, omega (arith, h), at))
  where
    go : (o : Ordering) → Contains (put by_identifier n ys) x → Contains (put_at o n y ys (put by_identifier n ys)) x
    go Less more = later x n (y ∷ ys) (suc i, omega (arith, h), at)
    go Equal more = (suc i, omega (arith, h), at)
    go Greater more = later x y (put by_identifier n ys) more

pub has_change : (base cs : List Item) (x : Item) → IsStrictlySortedBy by_identifier cs → Contains cs x → Contains (merged by_identifier base cs) x
unfolding IsStrictlySortedBy
has_change base [] x up (i, h, at) = absurd (omega (arith, h))
has_change base (c ∷ cs) x up (zero, h, at) = subst (λ z. Contains (put by_identifier c (merged by_identifier base cs)) z) at (put_has c (merged by_identifier base cs))
has_change base (c ∷ cs) x up (suc i, h, at) =
    let rest : Contains cs x = (i, omega (arith, h), at) in
    let less : by_identifier c x ≡ Less = All-contains (λ z. by_identifier c z ≡ Less) cs x (All-from_recursion (λ z. by_identifier c z ≡ Less) cs up.0) rest in
    put_keeps c x (merged by_identifier base cs) (ap is_eq less) (has_change base cs x up.1 rest)

has_base : (base cs : List Item) (x : Item) → AllByRecursion (λ c. is_eq (by_identifier c x) ≡ false) cs → Contains base x → Contains (merged by_identifier base cs) x
has_base base [] x apart has = has
has_base base (c ∷ cs) x apart has = put_keeps c x (merged by_identifier base cs) apart.0 (has_base base cs x apart.1 has)

-- ---- by identifier

pub changed_one : (wanted : ℤ × ℤ) (base changes : List Item) (x : Item) → IsStrictlySortedBy by_identifier changes → IsTheOne wanted changes (Some x) → IsTheOne wanted (merged by_identifier base changes) (Some x)
changed_one wanted base changes x up one = (has_change base changes x up one.0, one.1)

-- a feature with another identifier does not replace one
pub apart : (wanted : ℤ × ℤ) (x c : Item) → identifier_of x ≡ wanted → ¬ (identifier_of c ≡ wanted) → is_eq (by_identifier c x) ≡ false
apart wanted x c is other = go (by_identifier c x) refl
  where
    go : (o : Ordering) → by_identifier c x ≡ o → is_eq o ≡ false
    go Less e = refl
    go Equal e = absurd (other (equal_is (identifier_of c) (identifier_of x) e ∙ is))
    go Greater e = refl

-- a feature whose identifier no change has is as it was
pub base_one : (wanted : ℤ × ℤ) (base changes : List Item) (found : Option Item) → IsTheOne wanted changes None → IsTheOne wanted base found → IsTheOne wanted (merged by_identifier base changes) found
base_one wanted base changes None none one =
    let Other : Item → Type 0 = λ x. ¬ (identifier_of x ≡ wanted) in
    All-from_recursion Other (merged by_identifier base changes) (all_merged by_identifier items_total Other base changes (recursion_from_All Other base one) (recursion_from_All Other changes none))
base_one wanted base changes (Some x) none one =
    (has_base base changes x (all_weaker (λ c. ¬ (identifier_of c ≡ wanted)) (λ c. is_eq (by_identifier c x) ≡ false) (λ c k. apart wanted x c one.1 k) changes (recursion_from_All (λ c. ¬ (identifier_of c ≡ wanted)) changes none)) one.0, one.1)
