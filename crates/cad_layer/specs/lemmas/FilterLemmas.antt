-- A filter of a list with changes put into it. Of the list it needs only what passes, even if the filter distinguishes equal elements.
use Rattle.std.proofs.Common.{◌≡◌, Bool, true, false, cond, not, List, [], ◌∷◌, filter, refl, sym, ap, ◌∙◌, Ordering, Less, Equal, Greater, is_eq}
use Rattle.std.specs.List.{AllByRecursion}
use Rattle.std.specs.List.Sorted.{IsStrictlySortedBy}
use Rattle.std.specs.Cmp.{IsTotalOrder}
use Rattle.std.proofs.lemmas.List.Kept.{IsStrictlySortedBy-filter}
use Rattle.cad_versions.specs.lemmas.ListLemmas.{all_weaker, all_filtered}
use Rattle.cad_layer.specs.Merging.{put_at, put, merged}
use Rattle.cad_layer.specs.lemmas.MergeLemmas.{change_first, change_in_place, change_behind, merged_ascends}

module _ {X : Type 0} (p : X → Bool) where
  kept_again : (b : Bool) (x : X) (ys : List X) → p x ≡ b → filter p ys ≡ ys → filter p (cond b (x ∷ ys) ys) ≡ cond b (x ∷ ys) ys
  kept_again true x ys e more = ap (λ b. cond b (x ∷ filter p ys) (filter p ys)) e ∙ ap (λ l. x ∷ l) more
  kept_again false x ys e more = more

  filter_again : (xs : List X) → filter p (filter p xs) ≡ filter p xs
  filter_again [] = refl
  filter_again (x ∷ xs) = kept_again (p x) x (filter p xs) refl (filter_again xs)

module _ {X : Type 0} (cmp : X → X → Ordering) (total : IsTotalOrder cmp) where
  -- it does not replace the other
  abbrev is_apart : X → X → Bool
  is_apart n y = not (is_eq (cmp n y))

  first : (n : X) (ys : List X) → AllByRecursion (λ y. cmp n y ≡ Less) ys → put cmp n ys ≡ n ∷ ys
  unfolding IsStrictlySortedBy
  first n ys all = change_first cmp total ys n [] all (tt, tt)

  in_place : (n y : X) (ys : List X) → cmp n y ≡ Equal → put cmp n (y ∷ ys) ≡ n ∷ ys
  unfolding IsStrictlySortedBy
  in_place n y ys e = change_in_place cmp total y ys n [] e (tt, tt)

  behind : (n y : X) (ys : List X) → cmp n y ≡ Greater → put cmp n (y ∷ ys) ≡ y ∷ put cmp n ys
  unfolding IsStrictlySortedBy
  behind n y ys e = change_behind cmp total y ys n [] e (tt, tt)

  all_apart : (n : X) (ys : List X) → AllByRecursion (λ y. cmp n y ≡ Less) ys → filter (is_apart n) ys ≡ ys
  all_apart n [] all = refl
  all_apart n (y ∷ ys) all = ap (λ o. cond (not (is_eq o)) (y ∷ filter (is_apart n) ys) (filter (is_apart n) ys)) all.0 ∙ ap (λ l. y ∷ l) (all_apart n ys all.1)

  module _ (p : X → Bool) where
    -- an element that is before all of a list that ascends, or replaces its first, is before what passes of the rest
    under : (n y : X) (ys : List X) → cmp n y ≡ Less → AllByRecursion (λ z. cmp y z ≡ Less) ys → AllByRecursion (λ z. cmp n z ≡ Less) (filter p (y ∷ ys))
    under n y ys e up = all_filtered (λ z. cmp n z ≡ Less) p (y ∷ ys) (e, all_weaker (λ z. cmp y z ≡ Less) (λ z. cmp n z ≡ Less) (λ z k. total.trans n y z e k) ys up)

    level : (n y : X) (ys : List X) → cmp n y ≡ Equal → AllByRecursion (λ z. cmp y z ≡ Less) ys → AllByRecursion (λ z. cmp n z ≡ Less) (filter p ys)
    level n y ys e up = all_filtered (λ z. cmp n z ≡ Less) p ys (all_weaker (λ z. cmp y z ≡ Less) (λ z. cmp n z ≡ Less) (λ z k. total.congr n y z e ∙ k) ys up)

    -- a change that passes is put into what passes
    put_kept : (n : X) (ys : List X) → p n ≡ true → IsStrictlySortedBy cmp ys → filter p (put cmp n ys) ≡ put cmp n (filter p ys)
    unfolding IsStrictlySortedBy
    put_kept n [] h up = ap (λ b. cond b (n ∷ []) []) h
    put_kept n (y ∷ ys) h up = go (cmp n y) refl (put_kept n ys h up.1)
      where
        same : cmp n y ≡ Equal → (b : Bool) → n ∷ filter p ys ≡ put cmp n (cond b (y ∷ filter p ys) (filter p ys))
        same e true = sym (in_place n y (filter p ys) e)
        same e false = sym (first n (filter p ys) (level n y ys e up.0))

        later : cmp n y ≡ Greater → (b : Bool) → cond b (y ∷ put cmp n (filter p ys)) (put cmp n (filter p ys)) ≡ put cmp n (cond b (y ∷ filter p ys) (filter p ys))
        later e true = sym (behind n y (filter p ys) e)
        later e false = refl

        go : (o : Ordering) → cmp n y ≡ o → filter p (put cmp n ys) ≡ put cmp n (filter p ys) → filter p (put_at o n y ys (put cmp n ys)) ≡ put cmp n (filter p (y ∷ ys))
        go Less e more = ap (λ b. cond b (n ∷ filter p (y ∷ ys)) (filter p (y ∷ ys))) h ∙ sym (first n (filter p (y ∷ ys)) (under n y ys e up.0))
        go Equal e more = ap (λ b. cond b (n ∷ filter p ys) (filter p ys)) h ∙ same e (p y)
        go Greater e more = ap (λ l. cond (p y) (y ∷ l) l) more ∙ later e (p y)

    -- a change that does not pass leaves neither itself nor the element that it replaces
    put_dropped : (n : X) (ys : List X) → p n ≡ false → IsStrictlySortedBy cmp ys → filter p (put cmp n ys) ≡ filter (is_apart n) (filter p ys)
    unfolding IsStrictlySortedBy
    put_dropped n [] h up = ap (λ b. cond b (n ∷ []) []) h
    put_dropped n (y ∷ ys) h up = go (cmp n y) refl (put_dropped n ys h up.1)
      where
        same : cmp n y ≡ Equal → (b : Bool) → filter p ys ≡ filter (is_apart n) (cond b (y ∷ filter p ys) (filter p ys))
        same e true =
            sym (ap (λ o. cond (not (is_eq o)) (y ∷ filter (is_apart n) (filter p ys)) (filter (is_apart n) (filter p ys))) e ∙ all_apart n (filter p ys) (level n y ys e up.0))
        same e false = sym (all_apart n (filter p ys) (level n y ys e up.0))

        later : cmp n y ≡ Greater → (b : Bool) → cond b (y ∷ filter (is_apart n) (filter p ys)) (filter (is_apart n) (filter p ys)) ≡ filter (is_apart n) (cond b (y ∷ filter p ys) (filter p ys))
        later e true = sym (ap (λ o. cond (not (is_eq o)) (y ∷ filter (is_apart n) (filter p ys)) (filter (is_apart n) (filter p ys))) e)
        later e false = refl

        go : (o : Ordering) → cmp n y ≡ o → filter p (put cmp n ys) ≡ filter (is_apart n) (filter p ys) → filter p (put_at o n y ys (put cmp n ys)) ≡ filter (is_apart n) (filter p (y ∷ ys))
        go Less e more = ap (λ b. cond b (n ∷ filter p (y ∷ ys)) (filter p (y ∷ ys))) h ∙ sym (all_apart n (filter p (y ∷ ys)) (under n y ys e up.0))
        go Equal e more = ap (λ b. cond b (n ∷ filter p ys) (filter p ys)) h ∙ same e (p y)
        go Greater e more = ap (λ l. cond (p y) (y ∷ l) l) more ∙ later e (p y)

    -- two lists of which the same elements pass, with the same changes
    put_alike : (n : X) (ys zs : List X) → IsStrictlySortedBy cmp ys → IsStrictlySortedBy cmp zs → filter p ys ≡ filter p zs → filter p (put cmp n ys) ≡ filter p (put cmp n zs)
    put_alike n ys zs up rising same = go (p n) refl
      where
        go : (b : Bool) → p n ≡ b → filter p (put cmp n ys) ≡ filter p (put cmp n zs)
        go true h = put_kept n ys h up ∙ ap (put cmp n) same ∙ sym (put_kept n zs h rising)
        go false h = put_dropped n ys h up ∙ ap (filter (is_apart n)) same ∙ sym (put_dropped n zs h rising)

    merged_alike : (ys zs cs : List X) → IsStrictlySortedBy cmp ys → IsStrictlySortedBy cmp zs → filter p ys ≡ filter p zs → filter p (merged cmp ys cs) ≡ filter p (merged cmp zs cs)
    merged_alike ys zs [] up rising same = same
    merged_alike ys zs (c ∷ cs) up rising same =
        put_alike c (merged cmp ys cs) (merged cmp zs cs) (merged_ascends cmp total ys cs up) (merged_ascends cmp total zs cs rising) (merged_alike ys zs cs up rising same)

    -- the elements of the base that pass are enough
    pub merged_filtered : (base cs : List X) → IsStrictlySortedBy cmp base → filter p (merged cmp (filter p base) cs) ≡ filter p (merged cmp base cs)
    merged_filtered base cs up = merged_alike (filter p base) base cs (IsStrictlySortedBy-filter cmp p base up) up (filter_again p base)
