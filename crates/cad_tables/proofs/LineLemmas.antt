-- The one line that is named.
use Rattle.std.proofs.Common.{◌≡◌, Bool, true, false, cond, List, [], ◌∷◌, ◌++◌, map, filter, refl, sym, ap, ◌∙◌}
use Rattle.std.specs.List.{AllByRecursion}

-- a list with one element that passes is cut there
pub record Cut {X : Type 0} (test : X → Bool) (xs : List X) (x : X) : Type 0 where
  pub front : List X
  pub back : List X
  pub is : xs ≡ front ++ x ∷ back
  pub before : AllByRecursion (λ y. test y ≡ false) front
  pub here : test x ≡ true
  pub after : AllByRecursion (λ y. test y ≡ false) back

module _ {X : Type 0} (test : X → Bool) where
  none_pass : (xs : List X) → filter test xs ≡ [] → AllByRecursion (λ y. test y ≡ false) xs
  none_pass [] e = tt
  none_pass (x ∷ xs) e = go (test x) refl e (none_pass xs)
    where
      go : (b : Bool) → test x ≡ b → cond b (x ∷ filter test xs) (filter test xs) ≡ [] → (filter test xs ≡ [] → AllByRecursion (λ y. test y ≡ false) xs) → (test x ≡ false) × AllByRecursion (λ y. test y ≡ false) xs
      go true k e more = absurd cc
      go false k e more = (k, more e)

  pub cut_at : (xs : List X) (x : X) → filter test xs ≡ x ∷ [] → Cut test xs x
  cut_at [] x e = absurd cc
  cut_at (y ∷ xs) x e = go (test y) refl e (cut_at xs x)
    where
      go : (b : Bool) → test y ≡ b → cond b (y ∷ filter test xs) (filter test xs) ≡ x ∷ [] → (filter test xs ≡ x ∷ [] → Cut test xs x) → Cut test (y ∷ xs) x
      go true k e next = let same : y ≡ x = cc in record { front = []; back = xs; is = ap (λ z. z ∷ xs) same; before = tt; here = ap test (sym same) ∙ k; after = none_pass xs cc }
      go false k e next = let more = next e in
          record { front = y ∷ more.front; back = more.back; is = ap (λ l. y ∷ l) more.is; before = (k, more.before); here = more.here; after = more.after }

  module _ (f : X → X) where
    abbrev if_passes : X → X
    if_passes x = cond (test x) (f x) x

    same_all : (xs : List X) → AllByRecursion (λ y. test y ≡ false) xs → map if_passes xs ≡ xs
    same_all [] all = refl
    same_all (x ∷ xs) all = rw all.0 (ap (λ l. x ∷ l) (same_all xs all.1))

    pub map_cut : (xs : List X) (x : X) (cut : Cut test xs x) → map if_passes xs ≡ cut.front ++ f x ∷ cut.back
    map_cut xs x cut = ap (map if_passes) cut.is ∙ go cut.front cut.before
      where
        go : (front : List X) → AllByRecursion (λ y. test y ≡ false) front → map if_passes (front ++ x ∷ cut.back) ≡ front ++ f x ∷ cut.back
        go [] all = rw cut.here (ap (λ l. f x ∷ l) (same_all cut.back cut.after))
        go (y ∷ front) all = rw all.0 (ap (λ l. y ∷ l) (go front all.1))
