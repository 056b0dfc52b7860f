-- The front of a pattern, and the range of texts that it leaves.
use Rattle.std.proofs.Common.{◌≡◌, ◌∙◌, ℕ, Bool, true, List, [], ◌∷◌, ◌++◌, ◌==◌, Option, ap, sym, refl, append_assoc}
use Rattle.cql_text.specs.Patterns.{Matches, Piece, any, one, exactly, pieces}
use Rattle.cql_text.specs.Fronts.{begins_with, IsFrontOf, IsFrontRange, IsLikeRange, after_front, front_of, is_all_any, is_open}
use Rattle.std.specs.Cmp.{first_so, second_so}
use Rattle.std.proofs.lemmas.Bool.{eqb-true, eq-eqb}
use Rattle.cql_text.proofs.MatchLemmas.{matches_from, matches_to}

pub front_start : (text front : List ℕ) → text ≡ [] → front ≡ text ++ front
front_start text front e = rw e refl

pub front_step : (front text more : List ℕ) (left q : List Piece) (c : ℕ) → front ≡ text ++ front_of left → left ≡ exactly c ∷ q → more ≡ text ++ (c ∷ []) → front ≡ more ++ front_of q
front_step front text more left q c h e m = h ∙ rw (e, m) (sym (append_assoc text (c ∷ []) (front_of q)))

begins_more : (front text : List ℕ) (c : ℕ) → begins_with front text ≡ true → begins_with (c ∷ front) (c ∷ text) ≡ true
begins_more front text c h = rw (eq-eqb c c refl) h

begins_from : (p : List Piece) (text : List ℕ) → Matches p text → begins_with (front_of p) text ≡ true
begins_from [] text m = refl
begins_from (any ∷ p) text m = refl
begins_from (one ∷ p) text m = refl
begins_from (exactly c ∷ p) text m = rw m.1 (begins_more (front_of p) m.0 c (begins_from p m.0 m.2))

append_nil : (xs : List ℕ) → xs ≡ xs ++ []
append_nil [] = refl
append_nil (x ∷ xs) = ap (λ (ys : List ℕ). x ∷ ys) (append_nil xs)

all_any_matches : (p : List Piece) → is_all_any p ≡ true → Matches p []
all_any_matches [] h = refl
all_any_matches (any ∷ p) h = ([], [], refl, all_any_matches p h)
all_any_matches (one ∷ p) h = cc
all_any_matches (exactly c ∷ p) h = cc

matches_open : (p : List Piece) (text : List ℕ) → is_open (after_front p) ≡ true → begins_with (front_of p) text ≡ true → Matches p text
matches_open [] text h b = cc
matches_open (any ∷ p) text h b = (text, [], append_nil text, all_any_matches p h)
matches_open (one ∷ p) text h b = cc
matches_open (exactly c ∷ p) [] h b = cc
matches_open (exactly c ∷ p) (d ∷ text) h b =
    let e : c ≡ d = eqb-true c d (first_so (c == d) (begins_with (front_of p) text) b) in
    (text, ap (λ (x : ℕ). x ∷ text) (sym e), matches_open p text h (second_so (c == d) (begins_with (front_of p) text) b))

pub like_range_is : (pattern low : List ℕ) (end : Option (List ℕ)) (alone : Bool) → IsFrontOf (pieces pattern) low alone → IsFrontRange low end → IsLikeRange pattern low end alone
like_range_is pattern low end alone f r = record {
  front = f.front;
  alone = f.rest;
  begins = r;
  covers = λ text m. rw f.front (begins_from (pieces pattern) text (matches_from (pieces pattern) text m));
  only = λ yes text b. matches_to (pieces pattern) text (matches_open (pieces pattern) text (sym f.rest ∙ yes) (rw (← f.front) b));
}
