-- The texts that begin with a front are those between it and the next front.
use Rattle.std.proofs.Common.{◌≡◌, ◌↔◌, ◌∙◌, ℕ, ◌<◌, ◌≤◌, ◌==◌, true, List, [], ◌∷◌, ◌++◌, chars, Option, Some, None, option_map, ap, sym, refl, inl, inr, arith}
use Rattle.std.specs.Str.{IsUtf8, all_scalars}
use Rattle.std.specs.declared.cmp.Ordering.TheVariants.{Less}
use Rattle.std.specs.Ordering.{nat_cmp}
use Rattle.std.specs.Cmp.{first_so, second_so}
use Rattle.std.proofs.lemmas.Bool.Decides.{nat_tests}
use Rattle.std.proofs.lemmas.Cmp.{by_ranked, ranked}
use Rattle.std.proofs.lemmas.Str.{chars_from_encodes, encodes-append, encodes-chars}
use Rattle.std.proofs.Math.Utf8.{encode, scalar, scalar_cases}
use Rattle.std.proofs.lemmas.Bool.{eqb-true}
use Rattle.cql_text.specs.Fronts.{begins_with, IsBelow, IsFrontRange, LiesBetween, next_front, next_scalar, onward}
use Rattle.cql_text.specs.Order.{text_cmp}
use Rattle.cql_text.specs.CodePoints.{cmp_equal, cmp_greater, cmp_less}
use Rattle.cql_text.proofs.LikenessLemmas.{by_bool}

char_itself : (c d : ℕ) → c ≡ d → (c == d) ≡ true
char_itself c d h = grind (arith, nat_tests)

first_same : (c d : ℕ) (front text : List ℕ) → begins_with (c ∷ front) (d ∷ text) ≡ true → (d ≡ c) × (begins_with front text ≡ true)
first_same c d front text b = (sym (eqb-true c d (first_so (c == d) (begins_with front text) b)), second_so (c == d) (begins_with front text) b)

-- no character stands between c and what is next, if any
abbrev NextIs : ℕ → Option ℕ → Type 0
NextIs c None = (d : ℕ) → scalar d ≡ true → c < d → ⊥
NextIs c (Some n) = (c < n) × ((d : ℕ) → scalar d ≡ true → c < d → n ≤ d)

past_gap : (c d : ℕ) → c ≡ 55295 → scalar d ≡ true → c < d → 57344 ≤ d
past_gap c d e s h = elim (scalar_cases d s) [ inl k ↦ omega arith | inr k ↦ k.0 ]

past_last : (c d : ℕ) → c ≡ 1114111 → scalar d ≡ true → c < d → ⊥
past_last c d e s h = elim (scalar_cases d s) [ inl k ↦ omega arith | inr k ↦ let l = k.1 in omega arith ]

next_is : (c : ℕ) → NextIs c (next_scalar c)
next_is c = by_bool (c == 55295)
    (λ e. rw e (let k = eqb-true c 55295 e in (omega arith, λ d s h. past_gap c d k s h)))
    (λ e. rw e (by_bool (c == 1114111)
    (λ f. rw f (let k = eqb-true c 1114111 f in λ d s h. past_last c d k s h))
    (λ f. rw f (omega arith, λ d s h. omega arith))))

below_next : (c d : ℕ) (text : List ℕ) (r : Option ℕ) → NextIs c r → c ≡ d → IsBelow (d ∷ text) (option_map (λ n. n ∷ []) r)
below_next c d text None h e = tt
below_next c d text (Some n) h e = let k = h.0 in rw (cmp_less d n (omega arith)) refl

to_alike : (c d : ℕ) (text : List ℕ) (end : Option (List ℕ)) → c ≡ d → IsBelow text end → IsBelow (d ∷ text) (onward c end)
to_alike c d text None e h = below_next c d text (next_scalar c) (next_is c) e
to_alike c d text (Some end) e h = rw (cmp_equal d c (sym e)) h

from_alike : (c d : ℕ) (text : List ℕ) (end : Option (List ℕ)) → c ≡ d → IsBelow (d ∷ text) (onward c end) → IsBelow text end
from_alike c d text None e h = tt
from_alike c d text (Some end) e h = rw (cmp_equal d c (sym e)) at h

lies_alike : (c d : ℕ) (front text : List ℕ) (end : Option (List ℕ)) → c ≡ d → LiesBetween front end text ↔ LiesBetween (c ∷ front) (onward c end) (d ∷ text)
lies_alike c d front text end e = (
  λ l. (rw (cmp_equal c d e) l.0, to_alike c d text end e l.1),
  λ l. (rw (cmp_equal c d e) at l.0, from_alike c d text end e l.1),
)

not_below : (d n : ℕ) (text : List ℕ) → n ≤ d → text_cmp (d ∷ text) (n ∷ []) ≡ Less → ⊥
not_below d n [] h b = by_ranked (d < n) (d ≡ n) (n < d) (nat_cmp d n) (ranked d n (nat_cmp d n) refl)
    (λ e k. omega arith) (λ e k. let f = rw e at b in cc) (λ e k. let f = rw e at b in cc)
not_below d n (x ∷ text) h b = by_ranked (d < n) (d ≡ n) (n < d) (nat_cmp d n) (ranked d n (nat_cmp d n) refl)
    (λ e k. omega arith) (λ e k. let f = rw e at b in cc) (λ e k. let f = rw e at b in cc)

not_above_next : (c d : ℕ) (text : List ℕ) (r : Option ℕ) → NextIs c r → scalar d ≡ true → c < d → IsBelow (d ∷ text) (option_map (λ n. n ∷ []) r) → ⊥
not_above_next c d text None next s h b = next d s h
not_above_next c d text (Some n) next s h b = not_below d n text (next.1 d s h) b

-- above the first character nothing lies below the end
not_above : (c d : ℕ) (front text : List ℕ) (end : Option (List ℕ)) → scalar d ≡ true → c < d → IsBelow (d ∷ text) (onward c end) → ⊥
not_above c d front text None s h b = not_above_next c d text (next_scalar c) (next_is c) s h b
not_above c d front text (Some end) s h b = let f = rw (cmp_greater d c h) at b in cc

with_first : (c d : ℕ) (front text : List ℕ) → c ≡ d → begins_with front text ≡ true → begins_with (c ∷ front) (d ∷ text) ≡ true
with_first c d front text e b = rw (char_itself c d e) b

begins_iff : (front text : List ℕ) → all_scalars text ≡ true → (begins_with front text ≡ true) ↔ LiesBetween front (next_front front) text
begins_iff [] [] s = (λ b. (refl, tt), λ l. refl)
begins_iff [] (d ∷ text) s = (λ b. (refl, tt), λ l. refl)
begins_iff (c ∷ front) [] s = (λ b. cc, λ l. cc)
begins_iff (c ∷ front) (d ∷ text) s =
    let i = begins_iff front text (second_so (scalar d) (all_scalars text) s) in
    let step = λ (e : c ≡ d). lies_alike c d front text (next_front front) e in
    by_ranked (c < d) (c ≡ d) (d < c) (nat_cmp c d) (ranked c d (nat_cmp c d) refl)
    (λ e h. (λ b. absurd (let f = first_same c d front text b in omega (arith, f.0)), λ l. absurd (not_above c d front text (next_front front) (first_so (scalar d) (all_scalars text) s) h l.1)))
    (λ e h. (λ b. (step h).0 (i.0 (first_same c d front text b).1), λ l. with_first c d front text h (i.1 ((step h).1 l))))
    (λ e h. (λ b. absurd (let f = first_same c d front text b in omega (arith, f.0)), λ l. absurd (let k = rw e at l.0 in cc)))

pub front_range : (front : List ℕ) (end : Option (List ℕ)) → end ≡ next_front front → IsFrontRange front end
front_range front end e text s = rw e (begins_iff front text s)

-- the last character goes, where it has no next one
pub next_none : (front : List ℕ) (c : ℕ) → next_scalar c ≡ None → next_front (front ++ (c ∷ [])) ≡ next_front front
next_none [] c h = rw h refl
next_none (d ∷ front) c h = ap (onward d) (next_none front c h)

pub next_some : (front : List ℕ) (c n : ℕ) → next_scalar c ≡ Some n → next_front (front ++ (c ∷ [])) ≡ Some (front ++ (n ∷ []))
next_some [] c n h = rw h refl
next_some (d ∷ front) c n h = ap (onward d) (next_some front c n h)

-- one character more
pub chars_more : (before after : List ℕ) (c : ℕ) → IsUtf8 before → IsUtf8 after → after ≡ before ++ encode c → chars after ≡ chars before ++ (c ∷ [])
chars_more before after c u v e = sym (chars_from_encodes (chars before ++ (c ∷ [])) after v (encodes-append (chars before) (c ∷ []) ∙ rw (encodes-chars before u, e) (ap (λ (xs : List ℕ). before ++ xs) (append_nil (encode c)))))
  where
    append_nil : (xs : List ℕ) → xs ++ [] ≡ xs
    append_nil [] = refl
    append_nil (x ∷ xs) = ap (λ (ys : List ℕ). x ∷ ys) (append_nil xs)
