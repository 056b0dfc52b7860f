-- How many of the features at a revision pass a test.
use Rattle.std.proofs.Common.{◌≡◌, Bool, true, false, ◌&&◌, if◌then◌else◌, suc, List, [], ◌∷◌, length, filter, refl, ap, arith}
use Rattle.cad_lookup.specs.Ways.{how_many}

module _ {X : Type 0} (p q : X → Bool) where
  -- both tests at once
  pub filter_counted : (xs : List X) → how_many (λ x. q x && p x) xs ≡ how_many p (filter q xs)
  filter_counted [] = refl
  filter_counted (x ∷ xs) = go (q x) (filter_counted xs)
    where
      go : (b : Bool) → how_many (λ y. q y && p y) xs ≡ how_many p (filter q xs)
          → (if (b && p x) then (suc (how_many (λ y. q y && p y) xs)) else (how_many (λ y. q y && p y) xs)) ≡ how_many p (if b then (x ∷ filter q xs) else (filter q xs))
      go true more = ap (λ n. if (p x) then (suc n) else n) more
      go false more = more

pub each_counted : {X : Type 0} (xs : List X) → how_many (λ x. true) xs ≡ length xs
each_counted [] = refl
each_counted (x ∷ xs) = omega (arith, each_counted xs)

pub each_left : {X : Type 0} (xs : List X) → length (filter (λ x. true) xs) ≡ length xs
each_left [] = refl
each_left (x ∷ xs) = omega (arith, each_left xs)
