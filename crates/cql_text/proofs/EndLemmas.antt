-- What a text ends with that is like a pattern which ends with a character, and what a folded text ends with.
use Rattle.std.proofs.Common.{Option, Some, None, ◌≡◌, ◌∙◌, ℕ, Bool, true, false, not, List, [], ◌∷◌, ◌++◌, ap, sym, refl}
use Rattle.std.specs.Prelude.{◌↔◌, IsTrue, MatchOption}
use Rattle.std.proofs.lemmas.List.{append-nil, append_assoc}
use Rattle.std.proofs.lemmas.Grind.{flat_map-append}
use Rattle.ucd_case.specs.CaseFolding.{full_fold}
use Rattle.caseless.specs.Caseless.{default_case_fold}
use Rattle.cql_text.specs.Ends.{EndsExactly, EndsWith}
use Rattle.cql_text.specs.Patterns.{Matches, Piece, any, one, exactly, is_like}
use Rattle.cql_text.specs.declared.pattern.Part.{Part}
use Rattle.cql_text.specs.inner.Parts.{piece_of}
use Rattle.cql_text.proofs.MatchLemmas.{matches_from}

ends : (front : List Piece) (c : ℕ) (text : List ℕ) → Matches (front ++ exactly c ∷ []) text → EndsWith c text
ends [] c text m = ([], m.1 ∙ ap (λ (v : List ℕ). c ∷ v) m.2)
ends (any ∷ p) c text m = let r = ends p c m.1 m.3 in (m.0 ++ r.0, m.2 ∙ ap (λ (t : List ℕ). m.0 ++ t) r.1 ∙ sym (append_assoc m.0 r.0 (c ∷ [])))
ends (one ∷ p) c text m = let r = ends p c m.1 m.3 in (m.0 ∷ r.0, m.2 ∙ ap (λ (t : List ℕ). m.0 ∷ t) r.1)
ends (exactly d ∷ p) c text m = let r = ends p c m.0 m.2 in (d ∷ r.0, m.1 ∙ ap (λ (t : List ℕ). d ∷ t) r.1)

-- a text that is like a pattern which ends with a character
pub ends_alike : (c : ℕ) (parts : List Piece) (text : List ℕ) → EndsExactly c parts → is_like parts text ≡ true → EndsWith c text
ends_alike c parts text e h = ends e.0 c text (matches_from (e.0 ++ exactly c ∷ []) text (ap (λ (ps : List Piece). is_like ps text) (sym e.1) ∙ h))

-- what cannot be is as false as false
pub never : {A : Type 0} → (A → ⊥) → IsTrue false ↔ A
never none = (λ (h : false ≡ true). cc, λ a. absurd (none a))

-- the last character of a text is folded last
pub folds_last : (front : List ℕ) (c : ℕ) (folded : List ℕ) (d : ℕ) → full_fold c ≡ folded ++ d ∷ [] → default_case_fold (front ++ c ∷ []) ≡ (default_case_fold front ++ folded) ++ d ∷ []
unfolding default_case_fold
folds_last front c folded d e =
    flat_map-append full_fold front (c ∷ []) ∙ ap (λ (t : List ℕ). default_case_fold front ++ t) (append-nil (full_fold c) ∙ e) ∙ sym (append_assoc (default_case_fold front) folded (d ∷ []))

pub not_so : (b : Bool) → not b ≡ true → b ≡ false
not_so true e = cc
not_so false e = refl

pub folds_none : (cs : List ℕ) → cs ≡ [] → default_case_fold cs ≡ []
unfolding default_case_fold
folds_none cs e = rw e refl

-- the parts before what is left, with one part more
pub part_next : (last : Option Part) (whole left after : List Piece) (part : Part) → MatchOption last (whole ≡ left) (λ p. (front : List Piece) × (whole ≡ (front ++ piece_of p ∷ []) ++ left)) → left ≡ piece_of part ∷ after → (front : List Piece) × (whole ≡ (front ++ piece_of part ∷ []) ++ after)
part_next None whole left after part m e = ([], m ∙ e)
part_next (Some p) whole left after part m e =
    let front = m.0 ++ piece_of p ∷ [] in
    (front, m.1 ∙ ap (λ (l : List Piece). front ++ l) e ∙ sym (append_assoc front (piece_of part ∷ []) after))
