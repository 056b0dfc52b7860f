-- Lemmas on lists that std lacks: `map`, `filter` and `sort_by` together.
use Rattle.std.proofs.Common.{◌≡◌, ◌≤◌, Bool, true, false, true≢false, cond, List, [], ◌∷◌, length, map, filter, find, ◌&&◌, Some, option_map, refl, sym, ap, ap₂, ◌∙◌, is_gt, Ordering, arith, ◌++◌, Less}
use Rattle.std.proofs.lemmas.List.Sums.{count_by-le-length, length-filter}
use Rattle.std.specs.List.{AllByRecursion}
use Rattle.cad_versions.specs.Sorting.{insert_sorted, sort_by}
use Rattle.std.specs.List.Sorted.{IsStrictlySortedBy}

pub map-map : {A B C : Type 0} (g : B → C) (f : A → B) (xs : List A) → map g (map f xs) ≡ map (λ x. g (f x)) xs
map-map g f [] = refl
map-map g f (x ∷ xs) = ap (λ l. g (f x) ∷ l) (map-map g f xs)

pub map_same : {X Y : Type 0} (f g : X → Y) → ((x : X) → f x ≡ g x) → (xs : List X) → map f xs ≡ map g xs
map_same f g same xs = λ i. map (λ x. same x i) xs

pub filter-map : {A B : Type 0} (p : B → Bool) (f : A → B) (xs : List A) → filter p (map f xs) ≡ map f (filter (λ x. p (f x)) xs)
filter-map p f [] = refl
filter-map p f (x ∷ xs) =
    elim (p (f x)) as (λ b. cond b (f x ∷ filter p (map f xs)) (filter p (map f xs)) ≡ map f (cond b (x ∷ filter (λ y. p (f y)) xs) (filter (λ y. p (f y)) xs)))
    [ true ↦ ap (λ l. f x ∷ l) (filter-map p f xs) | false ↦ filter-map p f xs ]

pub filter_same : {X : Type 0} (p q : X → Bool) → ((x : X) → p x ≡ q x) → (xs : List X) → filter p xs ≡ filter q xs
filter_same p q same xs = λ i. filter (λ x. same x i) xs

pub filters_turn : {X : Type 0} (p q : X → Bool) (xs : List X) → filter p (filter q xs) ≡ filter q (filter p xs)
filters_turn p q [] = refl
filters_turn p q (x ∷ xs) = go (p x) refl (q x) refl (filters_turn p q xs)
  where
    go : (a : Bool) → p x ≡ a → (b : Bool) → q x ≡ b → filter p (filter q xs) ≡ filter q (filter p xs) → filter p (cond b (x ∷ filter q xs) (filter q xs)) ≡ filter q (cond a (x ∷ filter p xs) (filter p xs))
    go true e true f more = ap (λ t. cond t (x ∷ filter p (filter q xs)) (filter p (filter q xs))) e ∙ ap (λ l. x ∷ l) more ∙ sym (ap (λ t. cond t (x ∷ filter q (filter p xs)) (filter q (filter p xs))) f)
    go true e false f more = more ∙ sym (ap (λ t. cond t (x ∷ filter q (filter p xs)) (filter q (filter p xs))) f)
    go false e true f more = ap (λ t. cond t (x ∷ filter p (filter q xs)) (filter p (filter q xs))) e ∙ more
    go false e false f more = more

-- ---- searches

pub find_filter : {X : Type 0} (p q : X → Bool) (xs : List X) → find p (filter q xs) ≡ find (λ x. q x && p x) xs
find_filter p q [] = refl
find_filter p q (x ∷ xs) =
    elim (q x) as (λ b. find p (cond b (x ∷ filter q xs) (filter q xs)) ≡ cond (b && p x) (Some x) (find (λ y. q y && p y) xs))
    [ true ↦ ap (λ l. cond (p x) (Some x) l) (find_filter p q xs) | false ↦ find_filter p q xs ]

pub find_in_map : {X Y : Type 0} (p : Y → Bool) (f : X → Y) (xs : List X) → find p (map f xs) ≡ option_map f (find (λ x. p (f x)) xs)
find_in_map p f [] = refl
find_in_map p f (x ∷ xs) =
    elim (p (f x)) as (λ b. cond b (Some (f x)) (find p (map f xs)) ≡ option_map f (cond b (Some x) (find (λ y. p (f y)) xs))) [ true ↦ refl | false ↦ find_in_map p f xs ]

-- two tests that agree on all elements find the same
pub find_same : {X : Type 0} (p q : X → Bool) (xs : List X) → AllByRecursion (λ x. p x ≡ q x) xs → find p xs ≡ find q xs
find_same p q [] same = refl
find_same p q (x ∷ xs) same = ap₂ (λ b o. cond b (Some x) o) same.0 (find_same p q xs same.1)

pub filter_fewer : {X : Type 0} (p : X → Bool) (xs : List X) → length (filter p xs) ≤ length xs
filter_fewer p xs = omega (arith, length-filter p xs, count_by-le-length p xs)

pub all_filtered : {X : Type 0} (P : X → Type 0) (p : X → Bool) (xs : List X) → AllByRecursion P xs → AllByRecursion P (filter p xs)
all_filtered P p [] all = tt
all_filtered P p (x ∷ xs) all = elim (p x) as (λ b. AllByRecursion P (cond b (x ∷ filter p xs) (filter p xs))) [ true ↦ (all.0, all_filtered P p xs all.1) | false ↦ all_filtered P p xs all.1 ]

insert_sorted-map : {A B : Type 0} (cmp : B → B → Ordering) (f : A → B) (new : A) (xs : List A) → insert_sorted cmp (f new) (map f xs) ≡ map f (insert_sorted (λ a b. cmp (f a) (f b)) new xs)
insert_sorted-map cmp f new [] = refl
insert_sorted-map cmp f new (x ∷ xs) =
    elim (is_gt (cmp (f new) (f x))) as (λ b. cond b (f x ∷ insert_sorted cmp (f new) (map f xs)) (f new ∷ f x ∷ map f xs) ≡ map f (cond b (x ∷ insert_sorted (λ a c. cmp (f a) (f c)) new xs) (new ∷ x ∷ xs)))
    [ true ↦ ap (λ l. f x ∷ l) (insert_sorted-map cmp f new xs) | false ↦ refl ]

pub sort_by-map : {A B : Type 0} (cmp : B → B → Ordering) (f : A → B) (xs : List A) → sort_by cmp (map f xs) ≡ map f (sort_by (λ a b. cmp (f a) (f b)) xs)
sort_by-map cmp f [] = refl
sort_by-map cmp f (x ∷ xs) = ap (insert_sorted cmp (f x)) (sort_by-map cmp f xs) ∙ insert_sorted-map cmp f x _

module _ {X : Type 0} (P : X → Type 0) where
  pub all_weaker : (Q : X → Type 0) → ((x : X) → P x → Q x) → (xs : List X) → AllByRecursion P xs → AllByRecursion Q xs
  all_weaker Q f [] h = tt
  all_weaker Q f (x ∷ xs) h = (f x h.0, all_weaker Q f xs h.1)

  -- what holds of each element that the filter keeps
  pub all_kept : (p : X → Bool) (xs : List X) → AllByRecursion P (filter p xs) → AllByRecursion (λ x. p x ≡ true → P x) xs
  all_kept p [] h = tt
  all_kept p (x ∷ xs) h = go (p x) refl h (all_kept p xs)
    where
      go : (b : Bool) → p x ≡ b → AllByRecursion P (cond b (x ∷ filter p xs) (filter p xs)) → (AllByRecursion P (filter p xs) → AllByRecursion (λ y. p y ≡ true → P y) xs) → AllByRecursion (λ y. p y ≡ true → P y) (x ∷ xs)
      go true e k more = (λ _. k.0, more k.1)
      go false e k more = (λ t. absurd (true≢false (sym t ∙ e)), more k)

  pub all_mapped : {A : Type 0} (f : A → X) (xs : List A) → AllByRecursion (λ x. P (f x)) xs → AllByRecursion P (map f xs)
  all_mapped f [] h = tt
  all_mapped f (x ∷ xs) h = (h.0, all_mapped f xs h.1)

  pub all_unmapped : {A : Type 0} (f : A → X) (xs : List A) → AllByRecursion P (map f xs) → AllByRecursion (λ x. P (f x)) xs
  all_unmapped f [] h = tt
  all_unmapped f (x ∷ xs) h = (h.0, all_unmapped f xs h.1)

pub all_push : {X : Type 0} (P : X → Type 0) (xs : List X) (y : X) → AllByRecursion P xs → P y → AllByRecursion P (xs ++ y ∷ [])
all_push P [] y all one = (one, tt)
all_push P (x ∷ xs) y all one = (all.0, all_push P xs y all.1 one)

-- an element that comes after a whole sorted list is added at its end
pub sorted_push : {K : Type 0} (c : K → K → Ordering) (xs : List K) (y : K) → IsStrictlySortedBy c xs → AllByRecursion (λ x. c x y ≡ Less) xs → IsStrictlySortedBy c (xs ++ y ∷ [])
unfolding IsStrictlySortedBy
sorted_push c [] y h below = (tt, tt)
sorted_push c (x ∷ xs) y h below = (all_push (λ z. c x z ≡ Less) xs y h.0 below.0, sorted_push c xs y h.1 below.1)
