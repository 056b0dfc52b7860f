-- The walk after a part for any number, and the place that it comes back to.
use Rattle.std.proofs.Common.{◌≡◌, ◌∙◌, ℕ, ◌+◌, ◌≤◌, Bool, true, false, ◌||◌, List, [], ◌∷◌, ◌++◌, length, ap, sym, refl, append_assoc, length-append, arith}
use Rattle.std.proofs.lemmas.Bool.{or_right}
use Rattle.cql_text.specs.Patterns.{Piece, any, one, exactly, is_like, piece_takes, some_end}
use Rattle.cql_text.proofs.Walk.{IsPlain, absorbed}

-- some end of the text after its first character
abbrev pub later : (List ℕ → Bool) → List ℕ → Bool
later test [] = false
later test (c ∷ text) = some_end test text

-- plain parts have taken one character each since
pub record Reached (again left : List Piece) (from rest : List ℕ) : Type 0 where
  pub parts : List Piece
  pub taken : List ℕ
  pub plain : IsPlain parts
  pub again_is : again ≡ parts ++ left
  pub from_is : from ≡ taken ++ rest
  pub alike : length taken ≡ length parts

-- what is asked is whether the walk goes on to the end from here, or from a later place than the one that it comes back to
pub record Going (asked : Bool) (most : ℕ) (again left : List Piece) (from rest : List ℕ) : Type 0 where
  pub same : asked ≡ (is_like left rest || later (is_like again) from)
  pub reached : Reached again left from rest
  pub few : length again ≤ most

here_or_later : (test : List ℕ → Bool) (text : List ℕ) → some_end test text ≡ (test text || later test text)
here_or_later test [] = let or_false : (b : Bool) → b ≡ (b || false) = λ b. elim b as (λ b. b ≡ (b || false)) [ true ↦ refl | false ↦ refl ] in or_false (test [])
here_or_later test (c ∷ text) = refl

at_start : (again : List Piece) (from : List ℕ) → Reached again again from from
at_start again from = record { parts = []; taken = []; plain = tt; again_is = refl; from_is = refl; alike = refl }

pub going_first : (p : List Piece) (text : List ℕ) → Going (some_end (is_like p) text) (length p) p p text text
going_first p text = record { same = here_or_later (is_like p) text; reached = at_start p text; few = omega arith }

fewer : (parts left again : List Piece) (piece : Piece) (most : ℕ) → again ≡ parts ++ (piece ∷ left) → length again ≤ most → length left ≤ most
fewer parts left again piece most e h = let l = ap length e ∙ length-append parts (piece ∷ left) in omega arith

or_swallows : (a b : Bool) → (b ≡ true → a ≡ true) → (a || b) ≡ a
or_swallows true b h = refl
or_swallows false true h = sym (h refl)
or_swallows false false h = refl

later_is_some : (test : List ℕ → Bool) (text : List ℕ) → later test text ≡ true → some_end test text ≡ true
later_is_some test [] h = cc
later_is_some test (c ∷ text) h = or_right (test (c ∷ text)) (some_end test text) h

-- a later place than the newest one is no news
newest : (again left : List Piece) (from rest : List ℕ) → Reached again (any ∷ left) from rest → later (is_like again) from ≡ true → some_end (is_like left) rest ≡ true
newest again left from rest r h =
    let whole = later_is_some (is_like again) from h in
    absorbed r.parts left r.taken rest r.plain r.alike (rw (← r.again_is, ← r.from_is) whole)

pub going_any : (asked : Bool) (most : ℕ) (again p left : List Piece) (from rest : List ℕ) → p ≡ any ∷ left → Going asked most again p from rest → Going asked most left left rest rest
going_any asked most again p left from rest e g =
    let h = rw e at g in
    record {
      same = h.same ∙ or_swallows (some_end (is_like left) rest) (later (is_like again) from) (newest again left from rest h.reached) ∙ here_or_later (is_like left) rest;
      reached = at_start left rest;
      few = fewer h.reached.parts left again any most h.reached.again_is h.few;
    }

IsPlain-more : (parts : List Piece) (piece : Piece) (c : ℕ) → IsPlain parts → piece_takes piece c ≡ true → IsPlain (parts ++ (piece ∷ []))
IsPlain-more [] any c h t = cc
IsPlain-more [] one c h t = tt
IsPlain-more [] (exactly d) c h t = tt
IsPlain-more (any ∷ parts) piece c h t = absurd h
IsPlain-more (one ∷ parts) piece c h t = IsPlain-more parts piece c h t
IsPlain-more (exactly d ∷ parts) piece c h t = IsPlain-more parts piece c h t

is_like-taken : (piece : Piece) (left : List Piece) (c : ℕ) (rest : List ℕ) → piece_takes piece c ≡ true → is_like (piece ∷ left) (c ∷ rest) ≡ is_like left rest
is_like-taken any left c rest t = cc
is_like-taken one left c rest t = refl
is_like-taken (exactly d) left c rest t = rw t refl

reached_on : (again left : List Piece) (piece : Piece) (c : ℕ) (from rest : List ℕ) → piece_takes piece c ≡ true → Reached again (piece ∷ left) from (c ∷ rest) → Reached again left from rest
reached_on again left piece c from rest t r = record {
  parts = r.parts ++ (piece ∷ []);
  taken = r.taken ++ (c ∷ []);
  plain = IsPlain-more r.parts piece c r.plain t;
  again_is = r.again_is ∙ sym (append_assoc r.parts (piece ∷ []) left);
  from_is = r.from_is ∙ sym (append_assoc r.taken (c ∷ []) rest);
  alike = length-append r.taken (c ∷ []) ∙ ap (λ (n : ℕ). n + 1) r.alike ∙ sym (length-append r.parts (piece ∷ []));
}

pub going_on : (asked : Bool) (most : ℕ) (again p left : List Piece) (piece : Piece) (c : ℕ) (from text rest : List ℕ) → p ≡ piece ∷ left → text ≡ c ∷ rest → piece_takes piece c ≡ true → Going asked most again p from text → Going asked most again left from rest
going_on asked most again p left piece c from text rest e k t g =
    let h = rw (e, k) at g in
    record {
      same = h.same ∙ ap (λ (b : Bool). b || later (is_like again) from) (is_like-taken piece left c rest t);
      reached = reached_on again left piece c from rest t h.reached;
      few = h.few;
    }
