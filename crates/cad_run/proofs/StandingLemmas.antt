-- The candidates of features and of the changes to them: those in whose place no change stands, and the changes.
use Rattle.std.proofs.Common.{◌≡◌, ◌∙◌, zero, suc, ℤ, Bool, true, false, cond, not, ◌||◌, List, [], ◌∷◌, Bor, Contains, filter, get_or, ap, sym, refl, subst, arith, true≢false, Option, Some, None, Ordering, Less, Equal, Greater, is_eq}
use Rattle.std.specs.Prelude.{if◌then◌else◌}
use Rattle.std.specs.List.{AllByRecursion}
use Rattle.std.specs.List.Sorted.{IsStrictlySortedBy}
use Rattle.std.proofs.lemmas.Cmp.{alike_right}
use Rattle.std.proofs.lemmas.List.Elements.{recursion_from_All}
use Rattle.std.proofs.lemmas.List.Kept.{IsStrictlySortedBy-filter}
use Rattle.cad_versions.specs.lemmas.ListLemmas.{all_weaker}
use Rattle.cad_feature.specs.Features.{Item, identifier_of, by_identifier}
use Rattle.cad_layer.specs.Identifiers.{IsTheOne}
use Rattle.cad_layer.specs.lemmas.ItemLemmas.{items_total}
use Rattle.cad_layer.specs.lemmas.LookupLemmas.{apart}
use Rattle.cad_layer.specs.Merging.{put, put_at}
use Rattle.cad_layer.specs.lemmas.MergeLemmas.{all_merged, filter_merged, filter_put, filter_put_out, merged_ascends, put_front, IsNew}
use Rattle.cad_layer.specs.lemmas.SearchLemmas.{is_equal}
use Rattle.cad_layer.specs.Walks.{all_in, IsInOrder}
use Rattle.cad_run.specs.IndexedLeft.{FirstStands}
use Rattle.cad_run.specs.Peeked.{stands_first, without}
use Rattle.cad_run.specs.Slices.{is_later, later}
use Rattle.cad_run.specs.Standing.{is_replaced, standing, stands}
use Rattle.cad_run.proofs.FrontLemmas.{IsTaken, behind_is, first_change}
use Rattle.cad_run.proofs.LeftLemmas.{later_merged, turned}

-- ---- a search

module _ (x : Item) where
  none_replaces : (cs : List Item) → AllByRecursion (λ c. is_eq (by_identifier c x) ≡ false) cs → false ≡ is_replaced cs x
  none_replaces [] all = refl
  none_replaces (c ∷ cs) all = rw all.0 (none_replaces cs all.1)

  -- where no change has its identifier
  pub not_replaced : (cs : List Item) → IsTheOne (identifier_of x) cs None → false ≡ is_replaced cs x
  not_replaced cs none =
      let Other : Item → Type 0 = λ c. ¬ (identifier_of c ≡ identifier_of x) in
      none_replaces cs (all_weaker Other (λ c. is_eq (by_identifier c x) ≡ false) (λ c. apart (identifier_of x) x c refl) cs (recursion_from_All Other cs none))

  -- and where one has
  pub replaced : (cs : List Item) (c : Item) → IsTheOne (identifier_of x) cs (Some c) → true ≡ is_replaced cs x
  replaced cs c (has, same) = go cs has
    where
      either : (a : Bool) → true ≡ (a || true)
      either true = refl
      either false = refl

      go : (ds : List Item) → Contains ds c → true ≡ is_replaced ds x
      go [] (i, h, at) = absurd (omega (arith, h))
      go (d ∷ ds) (zero, h, at) =
          let equal : by_identifier d x ≡ Equal = is_equal (identifier_of d) (identifier_of x) (ap identifier_of at ∙ same) in
          rw equal refl
      go (d ∷ ds) (suc i, h, at) = rw (← go ds (i, omega (arith, h), at)) (either (is_eq (by_identifier d x)))

-- ---- one change more

abbrev is_apart : Item → Item → Bool
is_apart c x = not (is_eq (by_identifier c x))

standing_none : (xs : List Item) → xs ≡ standing [] xs
standing_none [] = refl
standing_none (x ∷ xs) = ap (λ ys. x ∷ ys) (standing_none xs)

standing_more : (c : Item) (cs xs : List Item) → standing (c ∷ cs) xs ≡ filter (is_apart c) (standing cs xs)
standing_more c cs [] = refl
standing_more c cs (x ∷ xs) = go (is_eq (by_identifier c x)) (is_replaced cs x) refl (standing_more c cs xs)
  where
    go : (a b : Bool) → is_eq (by_identifier c x) ≡ a → standing (c ∷ cs) xs ≡ filter (is_apart c) (standing cs xs)
        → cond (not (a || b)) (x ∷ standing (c ∷ cs) xs) (standing (c ∷ cs) xs) ≡ filter (is_apart c) (cond (not b) (x ∷ standing cs xs) (standing cs xs))
    go true true e more = more
    go true false e more = rw e more
    go false true e more = more
    go false false e more = rw e (ap (λ ys. x ∷ ys) more)

-- what is above c in a list that ascends is apart from it
all_apart : (c : Item) (xs : List Item) → AllByRecursion (λ x. by_identifier c x ≡ Less) xs → filter (is_apart c) xs ≡ xs
all_apart c [] all = refl
all_apart c (x ∷ xs) all = rw all.0 (ap (λ ys. x ∷ ys) (all_apart c xs all.1))

-- it is put in the place of what is not apart
put_apart : (c : Item) (xs : List Item) → IsStrictlySortedBy by_identifier xs → put by_identifier c (filter (is_apart c) xs) ≡ put by_identifier c xs
unfolding IsStrictlySortedBy
put_apart c [] up = refl
put_apart c (x ∷ xs) up = go (by_identifier c x) refl (put_apart c xs up.1)
  where
    above : (o : Ordering) → by_identifier c x ≡ o → AllByRecursion (λ y. by_identifier x y ≡ Less) xs → is_eq o ≡ true → AllByRecursion (λ y. by_identifier c y ≡ Less) xs
    above Less e all h = absurd (true≢false (sym h))
    above Equal e all h = all_weaker (λ y. by_identifier x y ≡ Less) (λ y. by_identifier c y ≡ Less) (λ y k. items_total.congr c x y e ∙ k) xs all
    above Greater e all h = absurd (true≢false (sym h))

    go : (o : Ordering) → by_identifier c x ≡ o → put by_identifier c (filter (is_apart c) xs) ≡ put by_identifier c xs
        → put by_identifier c (cond (not (is_eq o)) (x ∷ filter (is_apart c) xs) (filter (is_apart c) xs)) ≡ put_at o c x xs (put by_identifier c xs)
    go Less e more =
        let higher = all_weaker (λ y. by_identifier x y ≡ Less) (λ y. by_identifier c y ≡ Less) (λ y k. items_total.trans c x y e k) xs up.0 in
        ap (λ ys. put by_identifier c (x ∷ ys)) (all_apart c xs higher) ∙ put_front by_identifier c (x ∷ xs) (e, higher)
    go Equal e more =
        let higher = above Equal e up.0 refl in
        ap (put by_identifier c) (all_apart c xs higher) ∙ put_front by_identifier c xs higher
    go Greater e more = ap (λ o. put_at o c x (filter (is_apart c) xs) (put by_identifier c (filter (is_apart c) xs))) e ∙ ap (λ ys. x ∷ ys) more

alike : (c x y : Item) → by_identifier x y ≡ Equal → is_apart c x ≡ is_apart c y
alike c x y e = ap (λ o. not (is_eq o)) (alike_right items_total x y c e)

-- what changes replace may be left out before they are merged
standing_merged : (xs cs : List Item) → IsStrictlySortedBy by_identifier xs → IsStrictlySortedBy by_identifier cs → all_in xs cs ≡ all_in (standing cs xs) cs
unfolding IsStrictlySortedBy
standing_merged xs [] up rises = standing_none xs
standing_merged xs (c ∷ cs) up rises =
    let ys = standing cs xs in
    let kept = IsStrictlySortedBy-filter by_identifier (stands cs) xs up in
    ap (put by_identifier c) (standing_merged xs cs up rises.1)
    ∙ sym (put_apart c (all_in ys cs) (merged_ascends by_identifier items_total ys cs kept))
    ∙ ap (put by_identifier c) (filter_merged by_identifier items_total (is_apart c) (alike c) ys cs kept ∙ ap (all_in (filter (is_apart c) ys)) (all_apart c cs rises.0) ∙ ap (λ zs. all_in zs cs) (sym (standing_more c cs xs)))

-- ---- a filter

less_other : (c x : Item) → by_identifier c x ≡ Less → is_eq (by_identifier c x) ≡ false
less_other c x e = ap is_eq e

-- of lists that have nothing in the same place
filter_apart : (p : Item → Bool) (ys cs : List Item) → AllByRecursion (λ c. IsNew by_identifier c ys) cs → IsStrictlySortedBy by_identifier ys → IsStrictlySortedBy by_identifier cs
    → filter p (all_in ys cs) ≡ all_in (filter p ys) (filter p cs)
unfolding IsStrictlySortedBy
filter_apart p ys [] new up rises = refl
filter_apart p ys (c ∷ cs) new up rises = go (p c) refl (filter_apart p ys cs new.1 up rises.1)
  where
    IsOther : Item → Type 0
    IsOther y = is_eq (by_identifier c y) ≡ false

    fresh : IsNew by_identifier c (all_in ys cs)
    fresh = all_merged by_identifier items_total IsOther ys cs new.0 (all_weaker (λ y. by_identifier c y ≡ Less) IsOther (less_other c) cs rises.0)

    go : (b : Bool) → p c ≡ b → filter p (all_in ys cs) ≡ all_in (filter p ys) (filter p cs) → filter p (all_in ys (c ∷ cs)) ≡ all_in (filter p ys) (cond b (c ∷ filter p cs) (filter p cs))
    go true h more = filter_put by_identifier items_total p c (all_in ys cs) h fresh (merged_ascends by_identifier items_total ys cs up) ∙ ap (put by_identifier c) more
    go false h more = filter_put_out by_identifier p c (all_in ys cs) h fresh ∙ more

all_stand : (cs xs : List Item) → AllByRecursion (λ x. is_replaced cs x ≡ false) (standing cs xs)
all_stand cs [] = tt
all_stand cs (x ∷ xs) = go (is_replaced cs x) refl (all_stand cs xs)
  where
    go : (b : Bool) → is_replaced cs x ≡ b → AllByRecursion (λ x. is_replaced cs x ≡ false) (standing cs xs) → AllByRecursion (λ x. is_replaced cs x ≡ false) (cond (not b) (x ∷ standing cs xs) (standing cs xs))
    go true e more = more
    go false e more = (e, more)

neither : (a b : Bool) → (a || b) ≡ false → (a ≡ false) × (b ≡ false)
neither true b e = absurd (true≢false e)
neither false b e = (refl, e)

all_new : (cs ys : List Item) → AllByRecursion (λ x. is_replaced cs x ≡ false) ys → AllByRecursion (λ c. IsNew by_identifier c ys) cs
all_new [] ys all = tt
all_new (c ∷ cs) ys all = (
  all_weaker (λ x. is_replaced (c ∷ cs) x ≡ false) (λ x. is_eq (by_identifier c x) ≡ false) (λ x e. (neither (is_eq (by_identifier c x)) (is_replaced cs x) e).0) ys all,
  all_new cs ys (all_weaker (λ x. is_replaced (c ∷ cs) x ≡ false) (λ x. is_replaced cs x ≡ false) (λ x e. (neither (is_eq (by_identifier c x)) (is_replaced cs x) e).1) ys all),
)

-- those that pass of features with changes: of the features those that stand, and of the changes
pub merged_passing : (p : Item → Bool) (xs cs : List Item) → IsStrictlySortedBy by_identifier xs → IsStrictlySortedBy by_identifier cs → filter p (all_in xs cs) ≡ all_in (standing cs (filter p xs)) (filter p cs)
merged_passing p xs cs up rises =
    ap (filter p) (standing_merged xs cs up rises)
    ∙ filter_apart p (standing cs xs) cs (all_new cs (standing cs xs) (all_stand cs xs)) (IsStrictlySortedBy-filter by_identifier (stands cs) xs up) rises
    ∙ ap (λ ys. all_in ys (filter p cs)) (turned p (stands cs) xs)

-- ---- at the beginning

module _ (p : Item → Bool) (base older : List Item) (up : IsInOrder base older) (bs os : List Item) (is_base : bs ≡ filter p base) (is_older : os ≡ filter p older) where
  pub begins_ordered : IsInOrder bs os
  begins_ordered = (
    subst (IsStrictlySortedBy by_identifier) (sym is_base) (IsStrictlySortedBy-filter by_identifier p base up.0),
    subst (IsStrictlySortedBy by_identifier) (sym is_older) (IsStrictlySortedBy-filter by_identifier p older up.1),
  )

  pub begins_indexed : (cs xs : List Item) → cs ≡ older → all_in base older ≡ xs → all_in (standing cs bs) os ≡ filter p xs
  begins_indexed cs xs is all = rw (is_base, is_older, is) (sym (merged_passing p base older up.0 up.1)) ∙ ap (filter p) all

-- ---- after a search

pub sought_indexed : (last : Option (ℤ × ℤ)) (cs bases olders bs os : List Item) → bs ≡ later last bases → os ≡ later last olders → IsStrictlySortedBy by_identifier bases → all_in (standing cs bs) os ≡ later last (all_in (standing cs bases) olders)
sought_indexed last cs bases olders bs os is_base is_older up =
    rw (is_base, is_older) (ap (λ ys. all_in ys (later last olders)) (turned (stands cs) (is_later last) bases))
    ∙ sym (later_merged last (standing cs bases) olders (IsStrictlySortedBy-filter by_identifier (stands cs) bases up))

-- ---- from its front

first_kept : (cs rest : List Item) (x : Item) → stands cs x ≡ true → standing cs (x ∷ rest) ≡ x ∷ standing cs rest
first_kept cs rest x e = rw e refl

-- a change stands before those that stand where it stands before all
first_of_standing : (cs bs : List Item) (c : Item) → FirstStands cs bs → stands_first c (standing cs bs) ≡ stands_first c bs
first_of_standing cs [] c h = refl
first_of_standing cs (b ∷ bs) c h = ap (stands_first c) (first_kept cs bs b h)

without_standing : (cs bs : List Item) (c : Item) → FirstStands cs bs → without c (standing cs bs) ≡ standing cs (without c bs)
without_standing cs [] c h = refl
without_standing cs (b ∷ bs) c h = ap (without c) (first_kept cs bs b h) ∙ go (is_eq (by_identifier c b))
  where
    go : (d : Bool) → (if d then (standing cs bs) else (b ∷ standing cs bs)) ≡ standing cs (if d then bs else (b ∷ bs))
    go true = refl
    go false = sym (first_kept cs bs b h)

-- what stands first in a list stands before what stands of it
module _ (cs bs os : List Item) (first : FirstStands cs bs) where
  module _ (up : IsInOrder (standing cs bs) os) (c : Item) (ds : List Item) (is : os ≡ c ∷ ds) where
    -- the change comes
    pub change_comes : (found : Option (Bor Item)) (kept left rest : List Item) → true ≡ stands_first c bs → kept ≡ without c bs → left ≡ os → IsTaken found left rest → IsTaken found (all_in (standing cs bs) os) (all_in (standing cs kept) rest)
    change_comes None kept left rest h is_kept same e = absurd (no_front c ds (sym is ∙ sym same ∙ e.0))
      where
        no_front : (d : Item) (ds : List Item) → d ∷ ds ≡ [] → ⊥
        no_front d ds e = absurd cc
    change_comes (Some x) kept left rest h is_kept same e =
        let taken : os ≡ x.now ∷ rest = sym same ∙ e in
        let front : c ≡ x.now = ap (λ xs. get_or xs 0 c) (sym is ∙ taken) in
        first_change (standing cs bs) os x.now rest taken (h ∙ ap (λ d. stands_first d bs) front ∙ sym (first_of_standing cs bs x.now first)) up
        ∙ ap (λ ys. x.now ∷ all_in ys rest) (without_standing cs bs x.now first ∙ ap (standing cs) (ap (λ d. without d bs) (sym front) ∙ sym is_kept))

    -- the feature of the base comes
    pub base_comes : (found : Option (Bor Item)) (rest left : List Item) → false ≡ stands_first c bs → left ≡ os → IsTaken found bs rest → IsTaken found (all_in (standing cs bs) os) (all_in (standing cs rest) left)
    base_comes None rest left h same e = absurd (true≢false (sym (h ∙ ap (stands_first c) e.0)))
    base_comes (Some x) rest left h same e =
        let kept = ap (standing cs) e ∙ first_kept cs rest x.now (subst (FirstStands cs) e first) in
        ap (λ ys. all_in ys os) kept
        ∙ behind_is x.now (standing cs rest) os c ds is (h ∙ sym (first_of_standing cs bs c first) ∙ ap (stands_first c) kept) (subst (λ ys. IsInOrder ys os) kept up)
        ∙ ap (λ ys. x.now ∷ all_in (standing cs rest) ys) (sym same)
