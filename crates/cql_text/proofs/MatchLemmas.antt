-- The test and the relation say the same.
use Rattle.std.proofs.Common.{◌≡◌, ◌↔◌, ◌∙◌, ℕ, Bool, true, false, ◌==◌, ◌||◌, List, [], ◌∷◌, ◌++◌, ap, sym, refl}
use Rattle.std.specs.Bool.{IsTrue}
use Rattle.std.specs.Cmp.{first_so, second_so}
use Rattle.std.proofs.lemmas.Bool.{or_right, or_left, eqb-true, eq-eqb}
use Rattle.cql_text.specs.Patterns.{Matches, Piece, any, one, exactly, is_like, some_end}

end_from : (test : List ℕ → Bool) (text : List ℕ) → some_end test text ≡ true → (u : List ℕ) × (v : List ℕ) × (text ≡ u ++ v) × (test v ≡ true)
end_from test [] h = ([], [], refl, h)
end_from test (c ∷ text) h = elim (test (c ∷ text)) as (λ b. test (c ∷ text) ≡ b → (b || some_end test text) ≡ true → (u : List ℕ) × (v : List ℕ) × (c ∷ text ≡ u ++ v) × (test v ≡ true)) [
  | true ↦ λ e g. ([], c ∷ text, refl, e)
  | false ↦ λ e g. let r = end_from test text g in (c ∷ r.0, r.1, ap (λ (t : List ℕ). c ∷ t) r.2, r.3)
] refl h

end_here : (test : List ℕ → Bool) (text : List ℕ) → test text ≡ true → some_end test text ≡ true
end_here test [] h = h
end_here test (c ∷ text) h = or_left (test (c ∷ text)) (some_end test text) h

end_at : (test : List ℕ → Bool) (u v : List ℕ) → test v ≡ true → some_end test (u ++ v) ≡ true
end_at test [] v h = end_here test v h
end_at test (c ∷ u) v h = or_right (test (c ∷ u ++ v)) (some_end test (u ++ v)) (end_at test u v h)

pub matches_from : (p : List Piece) (text : List ℕ) → is_like p text ≡ true → Matches p text
matches_from [] [] h = refl
matches_from [] (c ∷ text) h = cc
matches_from (any ∷ p) text h = let r = end_from (is_like p) text h in (r.0, r.1, r.2, matches_from p r.1 r.3)
matches_from (one ∷ p) [] h = cc
matches_from (one ∷ p) (c ∷ text) h = (c, text, refl, matches_from p text h)
matches_from (exactly d ∷ p) [] h = cc
matches_from (exactly d ∷ p) (c ∷ text) h =
    (text, ap (λ (x : ℕ). x ∷ text) (eqb-true c d (first_so (c == d) (is_like p text) h)), matches_from p text (second_so (c == d) (is_like p text) h))

pub matches_to : (p : List Piece) (text : List ℕ) → Matches p text → is_like p text ≡ true
matches_to [] text m = rw m refl
matches_to (any ∷ p) text m = rw m.2 (end_at (is_like p) m.0 m.1 (matches_to p m.1 m.3))
matches_to (one ∷ p) text m = rw m.2 (matches_to p m.1 m.3)
matches_to (exactly d ∷ p) text m = rw (m.1, eq-eqb d d refl) (matches_to p m.0 m.2)

pub matches_iff : (p : List Piece) (text : List ℕ) (r : Bool) → r ≡ is_like p text → IsTrue r ↔ Matches p text
matches_iff p text r e = (λ h. matches_from p text (sym e ∙ h), λ m. e ∙ matches_to p text m)
