-- What is ahead of a source: it was ahead before, and comes after what was passed.
use Rattle.std.proofs.Common.{◌≡◌, ◌≤◌, ◌<◌, Bool, true, false, cond, not, ◌&&◌, List, [], ◌∷◌, length, filter, ap, sym, subst, refl, arith, Some, Less}
use Rattle.std.specs.List.{AllByRecursion}
use Rattle.std.specs.List.Sorted.{IsStrictlySortedBy}
use Rattle.std.proofs.lemmas.List.Filters.{length-filter_both}
use Rattle.std.specs.Ordering.{is_gt}
use Rattle.cad_feature.specs.Features.{Item, by_identifier, identifier_of}
use Rattle.cad_versions.specs.lemmas.ListLemmas.{filter_fewer}
use Rattle.cad_index.specs.lemmas.MomentLemmas.{filters_joined}
use Rattle.cad_layer.specs.Identifiers.{comes_after}
use Rattle.cad_layer.specs.lemmas.AfterLemmas.{beyond}
use Rattle.cad_layer.specs.lemmas.SearchLemmas.{is_equal}
use Rattle.cad_run.specs.Slices.{is_later, later}
use Rattle.cad_run.specs.Steps.{AreAmong, GoesOnTo}
use Rattle.cad_run.specs.lemmas.TakenLemmas.{turned}

-- ---- among others

module _ (p : Item → Bool) where
  -- those of them that pass
  pub few_among : (xs : List Item) → AreAmong (filter p xs) xs
  few_among xs test = omega (arith, ap length (turned test p xs), filter_fewer p (filter test xs))

  -- those that pass are among those that pass
  pub both_among : (xs ys : List Item) → AreAmong xs ys → AreAmong (filter p xs) (filter p ys)
  both_among xs ys among test = omega (arith, ap length (filters_joined test p xs), ap length (filters_joined test p ys), among (λ x. p x && test x))

  -- if all pass, they are among those that pass
  pub kept_among : (xs ys : List Item) → xs ≡ filter p xs → AreAmong xs ys → AreAmong xs (filter p ys)
  kept_among xs ys all among = subst (λ zs. AreAmong zs (filter p ys)) (sym all) (both_among xs ys among)

  -- if one does not pass, one of the others does not
  pub fewer_among : (xs ys : List Item) → AreAmong xs ys → length (filter p xs) < length xs → length (filter p ys) < length ys
  fewer_among xs ys among fewer =
      let no = λ (x : Item). not (p x) in
      omega (arith, length-filter_both p no (λ x. refl) xs, length-filter_both p no (λ x. refl) ys, among no, fewer)

pub among_through : (xs ys zs : List Item) → AreAmong xs ys → AreAmong ys zs → AreAmong xs zs
among_through xs ys zs first second test = omega (arith, first test, second test)

pub among_same : (xs ys : List Item) → xs ≡ ys → AreAmong xs ys
among_same xs ys is test = omega (arith, ap (λ zs. length (filter test zs)) is)

-- all but the first
pub rest_among : (x : Item) (xs : List Item) → AreAmong xs (x ∷ xs)
rest_among x xs test = go (test x)
  where
    go : (b : Bool) → length (filter test xs) ≤ length (cond b (x ∷ filter test xs) (filter test xs))
    go true = omega arith
    go false = omega arith

-- ---- behind the first feature

pub come_after : (x : Item) (xs : List Item) → AllByRecursion (λ y. by_identifier x y ≡ Less) xs → xs ≡ later (Some (identifier_of x)) xs
come_after x [] all = refl
come_after x (y ∷ ys) all = rw (beyond x y all.0) (ap (λ zs. y ∷ zs) (come_after x ys all.1))

pub not_after_itself : (x : Item) → comes_after (identifier_of x) x ≡ false
not_after_itself x = ap is_gt (is_equal (identifier_of x) (identifier_of x) refl)

-- what is left behind the first feature is what comes after it
pub behind_first : (x : Item) (xs : List Item) → IsStrictlySortedBy by_identifier (x ∷ xs) → xs ≡ later (Some (identifier_of x)) (x ∷ xs)
unfolding IsStrictlySortedBy
behind_first x xs up = rw (not_after_itself x) (come_after x xs up.0)

-- a source that gives the first of what ascends goes on up to it
pub first_goes_on : (x : Item) (old mid new : List Item) → mid ≡ x ∷ new → IsStrictlySortedBy by_identifier mid → AreAmong mid old → GoesOnTo (identifier_of x) old new
unfolding IsStrictlySortedBy
first_goes_on x old mid new is up among =
    let sorted = subst (IsStrictlySortedBy by_identifier) is up in
    let first = subst (λ (xs : List Item). AreAmong xs old) is among in
    let behind : length (later (Some (identifier_of x)) (x ∷ new)) ≡ length new = sym (ap length (behind_first x new sorted)) in
    record {
      among = among_through new (x ∷ new) old (rest_among x new) first;
      behind = come_after x new sorted.0;
      passed = fewer_among (is_later (Some (identifier_of x))) (x ∷ new) old first (omega (arith, behind));
    }
