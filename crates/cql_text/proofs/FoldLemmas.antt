-- A text written in UTF-8 is read back, and a folded text gives its first character first.
use Rattle.std.proofs.Common.{◌≡◌, ◌∷◌, ℕ, List, [], Option, Some, None, chars, sym, Result, Ok, Err, IfOk}
use Rattle.std.specs.Prelude.{String, string_bytes, encode_utf8_all, MatchOption}
use Rattle.std.specs.Str.Iter.{chars_steps}
use Rattle.std.specs.declared.str.Chars.{Chars}
use Rattle.std.proofs.lemmas.Str.{IsUtf8-string_bytes, chars_from_encodes}
use Rattle.unicode_normalization.specs.Iter.{Spells}
use Rattle.unicode_normalization.proofs.IterLemmas.{Spells-end, Spells-next}
use Rattle.caseless.specs.declared.CaseFold.{CaseFold}
use Rattle.caseless.specs.CaseFold.{CaseFoldSteps}

pub read_back : {A E : Type 0} (cs : List ℕ) (r : Result (String A) E) → IfOk r (λ t. string_bytes t ≡ encode_utf8_all cs) → IfOk r (λ t. chars (string_bytes t) ≡ cs)
read_back cs (Ok t) h = sym (chars_from_encodes cs (string_bytes t) (IsUtf8-string_bytes t) (sym h))
read_back cs (Err e) h = tt

pub first_of : (s : CaseFold Chars) (r : Option ℕ) (t : CaseFold Chars) (cs : List ℕ) → CaseFoldSteps chars_steps s r t → Spells (CaseFoldSteps chars_steps) s cs → MatchOption r (cs ≡ []) (λ c. (rest : List ℕ) × (cs ≡ c ∷ rest))
first_of s None t cs step spells = Spells-end (CaseFoldSteps chars_steps) s t cs step spells
first_of s (Some c) t cs step spells = let found = Spells-next (CaseFoldSteps chars_steps) s t c cs step spells in (found.0, found.1)
