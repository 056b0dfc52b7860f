-- How many positions of a list pass a test.
use Rattle.std.proofs.Common.{◌≡◌, ◌∙◌, ℕ, ◌+◌, ◌≤◌, Bool, true, false, cond, List, [], ◌∷◌, length, map-id, ap, refl, sym, arith, ◌==◌}
use Rattle.std.specs.Prelude.{filter, ◌&&◌}
use Rattle.std.proofs.lemmas.List.Sums.{count_by-le-length, length-filter}
use Rattle.cad_positions.specs.Hits.{hits, once, picks, hits_filter}

one_more : (b : Bool) (x : ℕ) (xs : List ℕ) → length (cond b (x ∷ xs) xs) ≡ once b + length xs
one_more true x xs = omega arith
one_more false x xs = omega arith

pub each_kept : (xs : List ℕ) → length (filter (λ x. true) xs) ≡ length xs
each_kept [] = refl
each_kept (x ∷ xs) = omega (arith, each_kept xs)

module _ (keeps : ℕ → Bool) where
  pub few_kept : (xs : List ℕ) → length (filter keeps xs) ≤ length xs
  few_kept xs = omega (arith, length-filter keeps xs, count_by-le-length keeps xs)

  -- ---- one position more, if it is found

  one_found : (b : Bool) (x : ℕ) (xs : List ℕ) → length (filter keeps (cond b (x ∷ xs) xs)) ≡ once (b && keeps x) + length (filter keeps xs)
  one_found true x xs = one_more (keeps x) x (filter keeps xs)
  one_found false x xs = omega arith

  module _ (found all : ℕ) (b : Bool) (x : ℕ) (xs ys : List ℕ) (next : ys ≡ cond b (x ∷ xs) xs) (before : found + length (filter keeps ys) ≡ all) where
    counted : found + (once (b && keeps x) + length (filter keeps xs)) ≡ all
    counted = omega (arith, ap (λ l. length (filter keeps l)) next, one_found b x xs, before)

    pub count_passing : (b && keeps x) ≡ true → found + 1 + length (filter keeps xs) ≡ all
    count_passing e = let more = ap once e in omega (arith, counted)

    pub count_left : (b && keeps x) ≡ false → found + length (filter keeps xs) ≡ all
    count_left e = let more = ap once e in omega (arith, counted)

  pub count_end : (found all : ℕ) (xs : List ℕ) → xs ≡ [] → found + length (filter keeps xs) ≡ all → found ≡ all
  count_end found all xs none e = omega (arith, ap (λ l. length (filter keeps l)) none)

-- ---- of lists that hold a number equally often, those that pass

picks_all : (v : ℕ) (xs : List ℕ) → picks (λ x. true) (λ x. x) v xs ≡ hits v xs
picks_all v [] = refl
picks_all v (x ∷ xs) = ap (λ n. once (x == v) + n) (picks_all v xs)

picks_none : (v : ℕ) (xs : List ℕ) → picks (λ x. false) (λ x. x) v xs ≡ 0
picks_none v [] = refl
picks_none v (x ∷ xs) = omega (arith, picks_none v xs)

pub same_picked : (b : Bool) (v : ℕ) (xs ys : List ℕ) → hits v xs ≡ hits v ys → picks (λ x. b) (λ x. x) v xs ≡ picks (λ x. b) (λ x. x) v ys
same_picked true v xs ys e = picks_all v xs ∙ e ∙ sym (picks_all v ys)
same_picked false v xs ys e = picks_none v xs ∙ sym (picks_none v ys)

pub kept_picks : (keeps : ℕ → Bool) (v : ℕ) (xs : List ℕ) → hits v (filter keeps xs) ≡ picks keeps (λ x. x) v xs
kept_picks keeps v xs = ap (hits v) (sym (map-id (filter keeps xs))) ∙ hits_filter keeps (λ x. x) v xs
