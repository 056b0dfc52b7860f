-- A pattern without characters of its own is like itself alone.
use Rattle.std.proofs.Common.{◌≡◌, ◌↔◌, ℕ, List, [], ◌∷◌, All, ap, refl, sym, subst}
use Rattle.std.proofs.lemmas.List.Elements.{All-head, All-tail}
use Rattle.cql_text.specs.Laws.{IsPlain}
use Rattle.cql_text.specs.Likeness.{IsLike, nothing, any_number, just_one, escaped, last_escape, itself}

same_text : (pattern text : List ℕ) → All IsPlain pattern → IsLike pattern text → text ≡ pattern
same_text [] [] h nothing = refl
same_text _ _ h (any_number pattern u v d) = absurd ((All-head IsPlain 37 pattern h).0 refl)
same_text _ _ h (just_one c pattern v d) = absurd ((All-head IsPlain 95 pattern h).1 refl)
same_text _ _ h (escaped c pattern v d) = absurd ((All-head IsPlain 92 (c ∷ pattern) h).2 refl)
same_text _ _ h last_escape = absurd ((All-head IsPlain 92 [] h).2 refl)
same_text _ _ h (itself c pattern v i j k d) = ap (λ (t : List ℕ). c ∷ t) (same_text pattern v (All-tail IsPlain c pattern h) d)

like_itself : (pattern : List ℕ) → All IsPlain pattern → IsLike pattern pattern
like_itself [] h = nothing
like_itself (c ∷ pattern) h = let p = All-head IsPlain c pattern h in itself c pattern pattern p.0 p.1 p.2 (like_itself pattern (All-tail IsPlain c pattern h))

pub plain_equal : (pattern text : List ℕ) → All IsPlain pattern → IsLike pattern text ↔ (text ≡ pattern)
plain_equal pattern text h = (same_text pattern text h, λ e. subst (IsLike pattern) (sym e) (like_itself pattern h))
