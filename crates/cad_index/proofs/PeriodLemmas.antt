-- How many rows are shown, by when their periods begin and end.
use Rattle.std.proofs.Common.{◌≡◌, ◌∙◌, ℕ, zero, suc, ◌+◌, ◌<◌, ◌≤◌, Bool, true, false, cond, ◌&&◌, List, [], ◌∷◌, ◌++◌, filter, length, map, get_or, refl, ap, sym, arith, nat_le, nat_lt, take, append-nil}
use Rattle.std.specs.List.{All}
use Rattle.std.specs.List.Sorted.{IsPartitionPoint}
use Rattle.std.proofs.lemmas.Bool.Decides.{nat_tests}
use Rattle.std.proofs.lemmas.List.{length-map, map_push}
use Rattle.std.proofs.lemmas.List.Elements.{All-tail, filter_more}
use Rattle.cad_feature.specs.Features.{Item}
use Rattle.cad_index.specs.Moments.{is_shown_at, rows_at}
use Rattle.cad_index.specs.inner.Periods.{is_ever_shown, is_ended, starts_of, ends_of, AreTimesOf}
use Rattle.cad_index.specs.declared.periods.Periods.{Periods}
use Rattle.cad_positions.specs.Hits.{once}
use Rattle.cad_versions.specs.lemmas.ListLemmas.{filter-map, filter_fewer}
use Rattle.cad_index.specs.lemmas.MomentLemmas.{filters_joined}
use Rattle.cad_index.proofs.Counted.{one_less, passing_permuted}

module _ {X : Type 0} (p : X → Bool) where
  -- where those that pass come first, as many pass as come before the others
  pub counted_to : (xs : List X) (i : ℕ) → i ≤ length xs → IsPartitionPoint (λ x. p x ≡ true) (λ x. p x ≡ false) xs i → i ≡ length (filter p xs)
  counted_to [] i h point = omega (arith, h)
  counted_to (x ∷ xs) zero h point =
      let first = point.1 0 x (omega arith) (omega arith) in
      rw first (counted_to xs 0 (omega arith) (λ k d a b. absurd (omega (arith, b)), λ k d a b. point.1 (suc k) d (omega arith) (omega (arith, b))))
  counted_to (x ∷ xs) (suc i) h point =
      let first = point.0 0 x (omega arith) (omega arith) in
      rw first (ap suc (counted_to xs i (omega (arith, h)) (λ k d a b. point.0 (suc k) d (omega arith) (omega (arith, b)), λ k d a b. point.1 (suc k) d (omega (arith, a)) (omega (arith, b)))))

  pub all_pass : (xs : List X) → length (filter p xs) ≡ length xs → filter p xs ≡ xs
  all_pass [] e = refl
  all_pass (x ∷ xs) e = by (p x) e (filter_fewer p xs) (all_pass xs)
    where
      by : (b : Bool) → length (cond b (x ∷ filter p xs) (filter p xs)) ≡ suc (length xs) → length (filter p xs) ≤ length xs → (length (filter p xs) ≡ length xs → filter p xs ≡ xs) → cond b (x ∷ filter p xs) (filter p xs) ≡ x ∷ xs
      by true h few more = ap (λ l. x ∷ l) (more (omega (arith, h)))
      by false h few more = absurd (omega (arith, h, few))

-- of the values of those that pass, how many pass another test
module _ {X A : Type 0} (p : X → Bool) (f : X → A) (q : A → Bool) where
  values_counted : (xs : List X) → length (filter q (map f (filter p xs))) ≡ length (filter (λ x. p x && q (f x)) xs)
  values_counted xs =
      ap length (filter-map q f (filter p xs)) ∙ length-map (filter (λ x. q (f x)) (filter p xs)) f ∙ ap length (sym (filters_joined (λ x. q (f x)) p xs))

-- if each passes the first test exactly if it passes one of two others
module _ {X : Type 0} (p q r : X → Bool) (same : (x : X) → once (p x) ≡ once (q x) + once (r x)) where
  sum_counted : (xs : List X) → length (filter p xs) ≡ length (filter q xs) + length (filter r xs)
  sum_counted [] = refl
  sum_counted (x ∷ xs) = omega (arith, same x, sum_counted xs, one_less (p x) x (filter p xs), one_less (q x) x (filter q xs), one_less (r x) x (filter r xs))

module _ (revision : ℕ) where
  abbrev is_upto : ℕ → Bool
  is_upto time = nat_le time revision

  begun_or_ended : revision < 4294967295 → (start end : ℕ) → once (nat_lt start end && nat_le start revision) ≡ once (nat_le start revision && nat_lt revision end) + once ((nat_lt start end && nat_lt end 4294967295) && nat_le end revision)
  begun_or_ended early start end = grind (arith, nat_tests, early)

  pub shown_counted : revision < 4294967295 → (xs : List Item) → length (filter is_upto (starts_of xs)) ≡ length (rows_at revision xs) + length (filter is_upto (ends_of xs))
  shown_counted early xs =
      let begun = values_counted is_ever_shown (λ x. x.period.start) is_upto xs in
      let ended = values_counted is_ended (λ x. x.period.end) is_upto xs in
      let sum = sum_counted (λ x. is_ever_shown x && is_upto x.period.start) (is_shown_at revision) (λ x. is_ended x && is_upto x.period.end) (λ x. begun_or_ended early x.period.start x.period.end) xs in
      omega (arith, begun, ended, sum)

  late : 4294967295 ≤ revision → (start end : ℕ) → end ≤ 4294967295 → (nat_le start revision && nat_lt revision end) ≡ false
  late h start end few = grind (arith, nat_tests, h, few)

  pub none_shown : 4294967295 ≤ revision → (xs : List Item) → All (λ x. x.period.end ≤ 4294967295) xs → rows_at revision xs ≡ []
  none_shown h [] few = refl
  none_shown h (x ∷ xs) few = rw (late h x.period.start x.period.end (few 0 x (omega arith))) (none_shown h xs (All-tail (λ y. y.period.end ≤ 4294967295) x xs few))

  pub times_counted : revision < 4294967295 → (periods : Periods) (xs : List Item) → AreTimesOf periods xs → length (filter is_upto periods.starts.items) ≡ length (rows_at revision xs) + length (filter is_upto periods.ends.items)
  times_counted early periods xs are =
      passing_permuted is_upto (starts_of xs) periods.starts.items are.starts.same ∙ shown_counted early xs ∙ ap (λ n. length (rows_at revision xs) + n) (sym (passing_permuted is_upto (ends_of xs) periods.ends.items are.ends.same))

-- one row more of those whose periods were read
module _ (p : Item → Bool) (f : Item → ℕ) (xs : List Item) (i : ℕ) (x : Item) (within : i < length xs) (at : x ≡ get_or xs i x) where
  one_more : filter p (take (i + 1) xs) ≡ filter p (take i xs) ++ cond (p x) (x ∷ []) []
  one_more = filter_more p xs i x within ∙ ap (λ y. filter p (take i xs) ++ cond (p y) (y ∷ []) []) (sym at)

  pub time_added : (times : List ℕ) (time : ℕ) (more : List ℕ) → p x ≡ true → times ≡ map f (filter p (take i xs)) → time ≡ f x → more ≡ times ++ time ∷ [] → more ≡ map f (filter p (take (i + 1) xs))
  time_added times time more passes so_far is added =
      added ∙ ap (λ l. l ++ time ∷ []) so_far ∙ ap (λ t. map f (filter p (take i xs)) ++ t ∷ []) is ∙ sym (map_push f (filter p (take i xs)) x)
      ∙ ap (map f) (sym (one_more ∙ ap (λ b. filter p (take i xs) ++ cond b (x ∷ []) []) passes))

  pub no_time_added : (times : List ℕ) → p x ≡ false → times ≡ map f (filter p (take i xs)) → times ≡ map f (filter p (take (i + 1) xs))
  no_time_added times fails so_far =
      so_far ∙ ap (map f) (sym (one_more ∙ ap (λ b. filter p (take i xs) ++ cond b (x ∷ []) []) fails ∙ append-nil (filter p (take i xs))))
