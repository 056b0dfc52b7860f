-- The candidates that are left of a base and of the changes to it, after a search and from their front.
use Rattle.std.proofs.Common.{◌≡◌, ◌∙◌, ℤ, Bool, true, false, cond, List, [], ◌∷◌, Bor, length, filter, ap, sym, refl, subst, arith, true≢false, MatchOption, Option, Some, None, is_eq}
use Rattle.std.specs.Prelude.{if◌then◌else◌}
use Rattle.std.specs.List.{All, AllByRecursion}
use Rattle.std.specs.List.Sorted.{IsStrictlySortedBy}
use Rattle.std.proofs.lemmas.List.Elements.{All-filter, All-from_recursion, All-tail}
use Rattle.std.proofs.lemmas.List.Kept.{IsStrictlySortedBy-filter}
use Rattle.std.proofs.lemmas.List.{nil_from_length}
use Rattle.cad_feature.specs.Features.{Item, by_identifier}
use Rattle.cad_layer.specs.lemmas.FilterLemmas.{merged_filtered}
use Rattle.cad_layer.specs.lemmas.ItemLemmas.{items_total, rest_rises}
use Rattle.cad_layer.specs.Walks.{all_in, IsInOrder}
use Rattle.cad_run.specs.Peeked.{stands_first, without}
use Rattle.cad_run.proofs.FrontLemmas.{IsTaken, behind_is, first_change, nothing_rises, without_rises}
use Rattle.cad_run.specs.Slices.{is_later, later}
pub use Rattle.cad_run.specs.lemmas.TakenLemmas.{later_merged, later_rises, turned}

passing_one : (p : Item → Bool) (b : Bool) (x : Item) (ys : List Item) → p x ≡ b → AllByRecursion (λ y. p y ≡ true) ys → AllByRecursion (λ y. p y ≡ true) (cond b (x ∷ ys) ys)
passing_one p true x ys is all = (is, all)
passing_one p false x ys is all = all

all_passing : (p : Item → Bool) (xs : List Item) → AllByRecursion (λ y. p y ≡ true) (filter p xs)
all_passing p [] = tt
all_passing p (x ∷ xs) = passing_one p (p x) x (filter p xs) refl (all_passing p xs)

pub all_later : (xs : List Item) → xs ≡ later None xs
all_later [] = refl
all_later (x ∷ xs) = ap (λ ys. x ∷ ys) (all_later xs)

module _ (last : Option (ℤ × ℤ)) where
  pub sought_in_order : (bases changes bs cs : List Item) → bs ≡ later last bases → cs ≡ later last changes → IsInOrder bases changes → IsInOrder bs cs
  sought_in_order bases changes bs cs is_base is up = (later_rises last bases bs is_base up.0, later_rises last changes cs is up.1)

module _ (test : Item → Bool) where
  abbrev pub AllPass : List Item → Type 0
  AllPass xs = All (λ x. test x ≡ true) xs

  -- ---- at the beginning

  module _ (base changes bs : List Item) (is_base : bs ≡ filter test base) (up : IsInOrder base changes) where
    pub begins_in_order : IsInOrder bs changes
    begins_in_order = (subst (IsStrictlySortedBy by_identifier) (sym is_base) (IsStrictlySortedBy-filter by_identifier test base up.0), up.1)

    pub begins_passing : AllPass bs
    begins_passing = subst AllPass (sym is_base) (All-from_recursion (λ x. test x ≡ true) (filter test base) (all_passing test base))

    pub begins_with : (xs : List Item) → all_in base changes ≡ xs → filter test (all_in bs changes) ≡ filter test xs
    begins_with xs all = rw is_base (merged_filtered by_identifier items_total test base changes up.0) ∙ ap (filter test) all

  -- ---- after a search

  module _ (last : Option (ℤ × ℤ)) (bases changes bs cs : List Item) (is_base : bs ≡ later last bases) (is : cs ≡ later last changes) where
    pub sought_passing : AllPass bases → AllPass bs
    sought_passing all = subst AllPass (sym is_base) (All-filter (is_later last) (λ x. test x ≡ true) bases all)

    pub sought_left : IsInOrder bases changes → filter test (all_in bs cs) ≡ later last (filter test (all_in bases changes))
    sought_left up =
        rw (is_base, is) (ap (filter test) (sym (later_merged last bases changes up.0)))
        ∙ turned test (is_later last) (all_in bases changes)

  -- ---- a change that stands first

  without_passes : (c : Item) (bases : List Item) → AllPass bases → AllPass (without c bases)
  without_passes c [] all = all
  without_passes c (b ∷ bs) all = go (is_eq (by_identifier c b))
    where
      go : (d : Bool) → AllPass (if d then bs else (b ∷ bs))
      go true = All-tail (λ x. test x ≡ true) b bs all
      go false = all

  module _ (bases changes rest : List Item) (c : Item) (cs : List Item) (is : changes ≡ c ∷ cs) (is_rest : rest ≡ without c bases) where
    pub still_in_order : IsInOrder bases changes → IsInOrder rest cs
    still_in_order up = (subst (IsStrictlySortedBy by_identifier) (sym is_rest) (without_rises c bases up.0), rest_rises by_identifier c cs changes is up.1)

    pub still_passing : AllPass bases → AllPass rest
    still_passing all = subst AllPass (sym is_rest) (without_passes c bases all)

    front_is : true ≡ stands_first c bases → IsInOrder bases changes → filter test (all_in bases changes) ≡ cond (test c) (c ∷ filter test (all_in rest cs)) (filter test (all_in rest cs))
    front_is first up = rw is_rest (ap (filter test) (first_change bases changes c cs is first up))

    pub change_given : true ≡ stands_first c bases → IsInOrder bases changes → test c ≡ true → filter test (all_in bases changes) ≡ c ∷ filter test (all_in rest cs)
    change_given first up h = front_is first up ∙ ap (λ b. cond b (c ∷ filter test (all_in rest cs)) (filter test (all_in rest cs))) h

    pub change_skipped : true ≡ stands_first c bases → IsInOrder bases changes → test c ≡ false → filter test (all_in bases changes) ≡ filter test (all_in rest cs)
    change_skipped first up h = front_is first up ∙ ap (λ b. cond b (c ∷ filter test (all_in rest cs)) (filter test (all_in rest cs))) h

  -- ---- the first of the base

  -- what comes out is the front of what is left
  abbrev pub IsGiven : Option (Bor Item) → List Item → List Item → Type 0
  IsGiven found old new = MatchOption found (filter test old ≡ []) (λ x. filter test old ≡ x.now ∷ filter test new)

  -- the same of a list that is known to be as much
  pub given_of : (found : Option (Bor Item)) (all old new : List Item) → filter test all ≡ old → IsGiven found all new → MatchOption found (old ≡ []) (λ x. old ≡ x.now ∷ filter test new)
  given_of None all old new e given = sym e ∙ given
  given_of (Some x) all old new e given = sym e ∙ given

  base_given : (x : Item) (rest : List Item) (all new : List Item) → AllPass (x ∷ rest) → all ≡ x ∷ new → filter test all ≡ x ∷ filter test new
  base_given x rest all new passing is = ap (filter test) is ∙ ap (λ b. cond b (x ∷ filter test new) (filter test new)) (passing 0 x (omega arith))

  module _ (bases changes rest : List Item) (up : IsInOrder bases changes) (passing : AllPass bases) where
    pub taken_in_order : (found : Option (Bor Item)) → IsTaken found bases rest → IsInOrder rest changes
    taken_in_order None e = (subst (IsStrictlySortedBy by_identifier) (sym e.1) nothing_rises, up.1)
    taken_in_order (Some x) e = (rest_rises by_identifier x.now rest bases e up.0, up.1)

    pub taken_passing : (found : Option (Bor Item)) → IsTaken found bases rest → AllPass rest
    taken_passing None e = subst AllPass (sym e.1) (λ k d h. absurd (omega (arith, h)))
    taken_passing (Some x) e = All-tail (λ y. test y ≡ true) x.now rest (subst AllPass e passing)

    -- it stands before the change
    pub base_before : (found : Option (Bor Item)) (c : Item) (cs : List Item) → changes ≡ c ∷ cs → false ≡ stands_first c bases → IsTaken found bases rest → IsGiven found (all_in bases changes) (all_in rest changes)
    base_before None c cs is h e = absurd (true≢false (sym (h ∙ ap (stands_first c) e.0)))
    base_before (Some x) c cs is h e =
        base_given x.now rest (all_in bases changes) (all_in rest changes) (subst AllPass e passing)
        (ap (λ xs. all_in xs changes) e ∙ behind_is x.now rest changes c cs is (h ∙ ap (stands_first c) e) (subst (λ xs. IsInOrder xs changes) e up))

    -- no change is left
    pub base_alone : (found : Option (Bor Item)) → length changes ≡ 0 → IsTaken found bases rest → IsGiven found (all_in bases changes) (all_in rest changes)
    base_alone None none e = rw (nil_from_length changes none) (ap (filter test) e.0)
    base_alone (Some x) none e = rw (nil_from_length changes none) (base_given x.now rest bases rest (subst AllPass e passing) e)
