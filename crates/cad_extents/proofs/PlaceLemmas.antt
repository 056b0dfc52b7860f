-- Ranges of values of which no place is marked.
use Rattle.std.proofs.Common.{◌≡◌, ℕ, ◌+◌, ℤ, pos, ◌+ℤ◌, ◌≤ℤ◌, ◌<ℤ◌, Bool, true, false, List, refl, subst, arith}
use Rattle.std.specs.Prelude.{not, ◌&&◌, int_lt}
use Rattle.std.specs.declared.cmp.Ordering.{Ordering}
use Rattle.std.specs.declared.cmp.Ordering.TheVariants as ordering
use Rattle.std.specs.Ordering.{int_cmp, nat_cmp, is_lt, is_gt}
use Rattle.std.specs.Cmp.Lexicographic.{slice_cmp}
use Rattle.std.proofs.lemmas.Int.{ints}
use Rattle.std.proofs.lemmas.Map.Lookups.{exact_bytes}
use Rattle.cad_feature.specs.Limits.{with_value}
use Rattle.cad_feature.specs.Values.{Datum, null, a_text, a_whole, a_flag, a_day, a_span, a_spot, an_area}
use Rattle.cad_range.specs.Ranges.{lies_between}
use Rattle.cad_extents.specs.Places.{AreMarkedAt, AreMarkedIfAny, places_of, places_of_text, places_of_whole}
use Rattle.cad_marks.specs.declared.marks.Marks.{Marks}

-- numbers below the next one are those below this one, and this one
pub one_more : (marks : Marks 1024) (low : ℤ) (offset : ℕ) (number : ℤ) → number ≡ (low +ℤ pos offset) → (AreMarkedAt marks (places_of_whole number) → ⊥)
    → ((n : ℤ) → low ≤ℤ n → n <ℤ (low +ℤ pos offset) → AreMarkedAt marks (places_of_whole n) → ⊥)
    → (n : ℤ) → low ≤ℤ n → n <ℤ (low +ℤ pos (offset + 1)) → AreMarkedAt marks (places_of_whole n) → ⊥
one_more marks low offset number is free before n above below marked = go (int_lt n number) refl
  where
    go : (b : Bool) → int_lt n number ≡ b → ⊥
    go true e = before n above (grind (arith, ints)) marked
    go false e = free (subst (λ m. AreMarkedAt marks (places_of_whole m)) (same e) marked)
      where
        same : int_lt n number ≡ false → n ≡ number
        same e = grind (arith, ints)

between : (n low high next : ℤ) → high <ℤ next → (not (is_lt (int_cmp n low)) && not (is_gt (int_cmp n high))) ≡ true → (low ≤ℤ n) × (n <ℤ next)
between n low high next past e = (grind (arith, ints), grind (arith, ints))

-- if no number below the next one is marked, and that is past the last one, no marked value lies between the first and the last one
pub no_number : (marks : Marks 1024) (low high : ℤ) (offset : ℕ) (number : ℤ) → number ≡ (low +ℤ pos offset) → high <ℤ number
    → ((n : ℤ) → low ≤ℤ n → n <ℤ (low +ℤ pos offset) → AreMarkedAt marks (places_of_whole n) → ⊥)
    → (d : Datum) → AreMarkedIfAny marks (places_of d) → lies_between (with_value (a_whole low)) (with_value (a_whole high)) d ≡ false
no_number marks low high offset number is past free null m = refl
no_number marks low high offset number is past free (a_text t) m = refl
no_number marks low high offset number is past free (a_flag b) m = refl
no_number marks low high offset number is past free (a_day day) m = refl
no_number marks low high offset number is past free (a_span days) m = refl
no_number marks low high offset number is past free (a_spot p) m = refl
no_number marks low high offset number is past free (an_area r) m = refl
no_number marks low high offset number is past free (a_whole n) m = go (not (is_lt (int_cmp n low)) && not (is_gt (int_cmp n high))) refl
  where
    go : (b : Bool) → (not (is_lt (int_cmp n low)) && not (is_gt (int_cmp n high))) ≡ b → b ≡ false
    go false e = refl
    go true e = let h = between n low high (low +ℤ pos offset) (subst (λ k. high <ℤ k) is past) e in absurd (free n h.0 h.1 m)

-- if a text is not marked, no marked value lies from it to itself
pub no_text : (marks : Marks 1024) (s : List ℕ) → (AreMarkedAt marks (places_of_text s) → ⊥)
    → (d : Datum) → AreMarkedIfAny marks (places_of d) → lies_between (with_value (a_text s)) (with_value (a_text s)) d ≡ false
no_text marks s free null m = refl
no_text marks s free (a_whole n) m = refl
no_text marks s free (a_flag b) m = refl
no_text marks s free (a_day day) m = refl
no_text marks s free (a_span days) m = refl
no_text marks s free (a_spot p) m = refl
no_text marks s free (an_area r) m = refl
no_text marks s free (a_text t) m = go (slice_cmp nat_cmp t s) refl
  where
    go : (o : Ordering) → slice_cmp nat_cmp t s ≡ o → (not (is_lt o) && not (is_gt o)) ≡ false
    go ordering.Less e = refl
    go ordering.Greater e = refl
    go ordering.Equal e = absurd (free (subst (λ u. AreMarkedAt marks (places_of_text u)) (exact_bytes t s e) m))
