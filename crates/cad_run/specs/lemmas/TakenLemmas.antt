-- What is left of a source: behind its first feature, and after a search.
use Rattle.std.proofs.Common.{◌≡◌, ℤ, ◌<◌, ◌^◌, Bool, true, false, cond, List, [], ◌∷◌, Bor, length, filter, ap, sym, refl, subst, arith, MatchOption, Option, Some, None, Equal, is_eq, is_gt}
use Rattle.std.specs.Prelude.{if◌then◌else◌}
use Rattle.std.specs.List.Sorted.{IsStrictlySortedBy}
use Rattle.std.proofs.lemmas.List.Kept.{IsStrictlySortedBy-filter}
use Rattle.cad_versions.specs.Identifiers.{identifier_cmp}
use Rattle.cad_versions.specs.lemmas.ListLemmas.{filter_fewer}
use Rattle.cad_feature.specs.Features.{Item, identifier_of, by_identifier}
use Rattle.cad_layer.specs.Walks.{all_in}
use Rattle.cad_layer.specs.lemmas.ItemLemmas.{items_total, rest_rises}
use Rattle.cad_layer.specs.lemmas.MergeLemmas.{filter_merged}
use Rattle.cad_layer.specs.lemmas.SearchLemmas.{equal_is}
use Rattle.cad_run.specs.Peeked.{without}
use Rattle.cad_run.specs.Slices.{is_later, later}

pub nothing_rises : IsStrictlySortedBy by_identifier []
unfolding IsStrictlySortedBy
nothing_rises = tt

pub without_rises : (c : Item) (bases : List Item) → IsStrictlySortedBy by_identifier bases → IsStrictlySortedBy by_identifier (without c bases)
without_rises c [] up = up
without_rises c (b ∷ bs) up = go (is_eq (by_identifier c b))
  where
    go : (d : Bool) → IsStrictlySortedBy by_identifier (if d then bs else (b ∷ bs))
    go true = rest_rises by_identifier b bs (b ∷ bs) refl up
    go false = up

-- ---- the first

abbrev pub IsTaken : Option (Bor Item) → List Item → List Item → Type 0
IsTaken found bases rest = MatchOption found ((bases ≡ []) × (rest ≡ [])) (λ x. bases ≡ x.now ∷ rest)

-- what is left ascends
pub taken_rises : (found : Option (Bor Item)) (bases rest : List Item) → IsTaken found bases rest → IsStrictlySortedBy by_identifier bases → IsStrictlySortedBy by_identifier rest
taken_rises None bases rest e up = subst (IsStrictlySortedBy by_identifier) (sym e.1) nothing_rises
taken_rises (Some x) bases rest e up = rest_rises by_identifier x.now rest bases e up

-- the same of equal lists
pub taken_over : (found : Option (Bor Item)) (bases rest others left : List Item) → bases ≡ others → rest ≡ left → IsTaken found bases rest → IsTaken found others left
taken_over found bases rest others left same is taken = subst (IsTaken found others) is (subst (λ xs. IsTaken found xs rest) same taken)

-- ---- two filters

module _ (p q : Item → Bool) where
  turned_here : (a b : Bool) (x : Item) (ys zs : List Item) → p x ≡ a → q x ≡ b → filter p ys ≡ filter q zs → filter p (cond b (x ∷ ys) ys) ≡ filter q (cond a (x ∷ zs) zs)
  turned_here true true x ys zs e f h = rw (e, f) (ap (λ us. x ∷ us) h)
  turned_here true false x ys zs e f h = rw f h
  turned_here false true x ys zs e f h = rw e h
  turned_here false false x ys zs e f h = h

  pub turned : (xs : List Item) → filter p (filter q xs) ≡ filter q (filter p xs)
  turned [] = refl
  turned (x ∷ xs) = turned_here (p x) (q x) x (filter q xs) (filter p xs) refl refl (turned xs)

-- ---- after a search

same_later : (last : Option (ℤ × ℤ)) (x y : Item) → by_identifier x y ≡ Equal → is_later last x ≡ is_later last y
same_later None x y e = refl
same_later (Some named) x y e = ap (λ i. is_gt (identifier_cmp i named)) (equal_is (identifier_of x) (identifier_of y) e)

module _ (last : Option (ℤ × ℤ)) where
  pub later_merged : (bases changes : List Item) → IsStrictlySortedBy by_identifier bases → later last (all_in bases changes) ≡ all_in (later last bases) (later last changes)
  later_merged bases changes up = filter_merged by_identifier items_total (is_later last) (same_later last) bases changes up

  pub later_rises : (xs ys : List Item) → ys ≡ later last xs → IsStrictlySortedBy by_identifier xs → IsStrictlySortedBy by_identifier ys
  later_rises xs ys is up = subst (IsStrictlySortedBy by_identifier) (sym is) (IsStrictlySortedBy-filter by_identifier (is_later last) xs up)

-- ---- how many

pub few_later : (last : Option (ℤ × ℤ)) (xs ys : List Item) → ys ≡ later last xs → length xs < 2 ^ 64 → length ys < 2 ^ 64
few_later last xs ys is few = omega (arith, ap length is, filter_fewer (is_later last) xs, few)

pub fewer_left : (found : Option (Bor Item)) (old new : List Item) → MatchOption found ((old ≡ []) × (new ≡ [])) (λ x. old ≡ x.now ∷ new) → length old < 2 ^ 64 → length new < 2 ^ 64
fewer_left None old new e few = omega (arith, ap length e.1)
fewer_left (Some x) old new e few = omega (arith, ap length e, few)
