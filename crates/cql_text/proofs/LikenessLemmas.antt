-- The relation by derivations, and the one by parts.
use Rattle.std.proofs.Common.{◌≡◌, ◌↔◌, ◌≢◌, ℕ, Bool, true, false, ◌==◌, List, [], ◌∷◌, refl, arith}
use Rattle.std.specs.Bool.{IsTrue}
use Rattle.std.proofs.lemmas.Bool.{eqb-true}
use Rattle.std.proofs.lemmas.Bool.Decides.{nat_tests}
use Rattle.cql_text.specs.Patterns.{is_like, Matches, exactly, pieces, escaped as rest_escaped}
use Rattle.cql_text.specs.Likeness.{IsLike, nothing, any_number, just_one, escaped, last_escape, itself}
use Rattle.cql_text.proofs.MatchLemmas.{matches_iff}

pub by_bool : {G : Type 0} (b : Bool) → (b ≡ true → G) → (b ≡ false → G) → G
by_bool true f g = f refl
by_bool false f g = g refl

other : (c d : ℕ) → c ≢ d → (c == d) ≡ false
other c d h = grind (arith, nat_tests)

pub other_than : (c d : ℕ) → (c == d) ≡ false → c ≢ d
other_than c d h = grind (arith, nat_tests)

plain_part : (c : ℕ) (pattern : List ℕ) → c ≢ 37 → c ≢ 95 → c ≢ 92 → pieces (c ∷ pattern) ≡ exactly c ∷ pieces pattern
plain_part c pattern h k l = rw (other c 92 l, other c 37 h, other c 95 k) refl

into : (pattern text : List ℕ) → IsLike pattern text → Matches (pieces pattern) text
into [] [] nothing = refl
into _ _ (any_number pattern u v d) = (u, v, refl, into pattern v d)
into _ _ (just_one c pattern v d) = (c, v, refl, into pattern v d)
into _ _ (escaped c pattern v d) = (v, refl, into pattern v d)
into _ _ last_escape = ([], refl, refl)
into _ _ (itself c pattern v h k l d) = rw (plain_part c pattern h k l) (v, refl, into pattern v d)

mutual
  out_of : (pattern text : List ℕ) → Matches (pieces pattern) text → IsLike pattern text
  out_of [] text m = rw m nothing
  out_of (c ∷ pattern) text m = by_bool (c == 92)
      (λ e. let k = eqb-true c 92 e in rw k (out_of_escaped pattern text (rw k at m)))
      (λ e. by_bool (c == 37)
      (λ f. let k = eqb-true c 37 f in let n = rw k at m in rw (k, n.2) (any_number pattern n.0 n.1 (out_of pattern n.1 n.3)))
      (λ f. by_bool (c == 95)
      (λ g. let k = eqb-true c 95 g in let n = rw k at m in rw (k, n.2) (just_one n.0 pattern n.1 (out_of pattern n.1 n.3)))
      (λ g. let n = rw (e, f, g) at m in rw n.1 (itself c pattern n.0 (other_than c 37 f) (other_than c 95 g) (other_than c 92 e) (out_of pattern n.0 n.2)))))

  out_of_escaped : (pattern text : List ℕ) → Matches (rest_escaped pattern) text → IsLike (92 ∷ pattern) text
  out_of_escaped [] text m = rw (m.1, m.2) last_escape
  out_of_escaped (c ∷ pattern) text m = rw m.1 (escaped c pattern m.0 (out_of pattern m.0 m.2))

pub likeness : (pattern text : List ℕ) → Matches (pieces pattern) text ↔ IsLike pattern text
likeness pattern text = (out_of pattern text, into pattern text)

pub tells : (pattern text : List ℕ) (r : Bool) → r ≡ is_like (pieces pattern) text → IsTrue r ↔ IsLike pattern text
tells pattern text r e = let m = matches_iff (pieces pattern) text r e in
    (λ h. out_of pattern text (m.0 h), λ d. m.1 (into pattern text d))
