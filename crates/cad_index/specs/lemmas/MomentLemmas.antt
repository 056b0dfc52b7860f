-- What passes two tests passes one of what passes the other.
use Rattle.std.proofs.Common.{◌≡◌, Bool, true, false, cond, ◌&&◌, List, [], ◌∷◌, filter, refl, ap}

module _ {X : Type 0} (p q : X → Bool) where
  pub filters_joined : (xs : List X) → filter (λ x. q x && p x) xs ≡ filter p (filter q xs)
  filters_joined [] = refl
  filters_joined (x ∷ xs) = go (q x) (filters_joined xs)
    where
      go : (b : Bool) → filter (λ y. q y && p y) xs ≡ filter p (filter q xs) → cond (b && p x) (x ∷ filter (λ y. q y && p y) xs) (filter (λ y. q y && p y) xs) ≡ filter p (cond b (x ∷ filter q xs) (filter q xs))
      go true more = ap (λ l. cond (p x) (x ∷ l) l) more
      go false more = more
