-- Each text has tokens or a fault.
use Rattle.std.proofs.Common.{◌≡◌, ℕ, zero, suc, ◌-◌, ◌≤◌, ◌<◌, Bool, true, false, ◌==◌, Option, Some, None, ◌⊎◌, inl, inr, List, [], ◌∷◌, ◌++◌, length, refl, ap, subst, append-nil, nat_lt, length-append, arith}
use Rattle.std.proofs.lemmas.Bool.Decides.{nat_tests}
use Rattle.std.specs.Str.{byte}
use Rattle.cql_lexer.specs.Mark.{Sort, Mark, at}
use Rattle.cql_lexer.specs.Names.{is_name_start, is_unquoted}
use Rattle.cql_lexer.specs.Texts.{IsContent, IsCharacter, closing_quote, character}
use Rattle.cql_lexer.specs.Spelling.{Leads, here, blank, token_first, is_blank, IsLongest, IsNoToken}
use Rattle.cql_lexer.specs.Lexed.{IsSpelt, HasFault}
use Rattle.cql_lexer.specs.inner.Scan.{after_run, begins_number, character_front, symbol_front}
use Rattle.cql_lexer.specs.Laws.{HasTokensOrFault}
use Rattle.cql_lexer.specs.declared.fault.SpellingFault.{SpellingFault}
use Rattle.cql_lexer.specs.declared.fault.SpellingFault.TheVariants.{TooLong}
use Rattle.cql_lexer.proofs.Longest.{finds_at, FindsToken, longest_number, name_longest, quoted_end, quoted_longest, quoted_none, text_longest, text_none, token_shorter}
use Rattle.cql_lexer.proofs.Symbols.{finds_symbol}
use Rattle.cql_lexer.proofs.Texts.{IsAtEnd, nothing_left, at_quote, ReadsCharacter, character_is, character_shorter, behind_character, content_shorter}
use Rattle.cql_lexer.proofs.Spellings.{leads_on}
use Rattle.cql_lexer.proofs.Ends.{FaultOf, too_many, has_fault, no_token_is}

-- ---- a content ends or does not

pub data Content (xs : List ℕ) : Type 0 where
  ends : {content ys : List ℕ} → IsContent xs content ys → Content xs
  goes_past : ((content ys : List ℕ) → IsContent xs content ys → ⊥) → Content xs

at_end : {xs : List ℕ} → IsAtEnd xs → Content xs
at_end nothing_left = goes_past (λ content ys there. omega (arith, content_shorter there))
at_end (at_quote closed) = ends (closing_quote closed)

behind : {x : ℕ} {xs ys : List ℕ} → IsCharacter xs x ys → Content ys → Content xs
behind one (ends there) = ends (character one there)
behind one (goes_past none) = goes_past (λ content zs there. let later = behind_character one there in none later.0 zs later.2)

content_from : (most : ℕ) (xs : List ℕ) → length xs ≤ most → Content xs
content_from zero xs within = goes_past (λ content ys there. omega (arith, content_shorter there))
content_from (suc most) xs within = at (character_front xs) (character_is xs) (content_from most)
  where
    at : (front : Option (ℕ × List ℕ)) → ReadsCharacter xs front → ((ys : List ℕ) → length ys ≤ most → Content ys) → Content xs
    at None end onward = at_end end
    at (Some r) one onward = behind one (onward r.1 (omega (arith, character_shorter one)))

content_is : (xs : List ℕ) → Content xs
content_is xs = content_from (length xs) xs (omega arith)

-- ---- a token begins or does not

pub data First (xs : List ℕ) : Type 0 where
  begins : {s : Sort} {ys : List ℕ} → IsLongest xs s ys → First xs
  nothing_begins : IsNoToken xs → First xs

text_first : (xs : List ℕ) → Content xs → First (byte "'" ∷ xs)
text_first xs (ends there) = begins (text_longest there)
text_first xs (goes_past none) = nothing_begins (text_none xs none)

quoted_first : (xs rest : List ℕ) → after_run is_unquoted xs ≡ rest → First (byte "\"" ∷ xs)
quoted_first xs [] is = nothing_begins (quoted_none xs (ap length is))
quoted_first xs (y ∷ ys) is = begins (quoted_longest xs ys (quoted_end xs y ys is))

found_first : {xs : List ℕ} (found : Option (Sort × List ℕ)) → FindsToken xs found → First xs
found_first None none = nothing_begins none
found_first (Some r) longest = begins longest

first_by : (x : ℕ) (xs : List ℕ) (quoted text name number : Bool) → (x == byte "\"") ≡ quoted → (x == byte "'") ≡ text → is_name_start x ≡ name → begins_number (x ∷ xs) ≡ number → First (x ∷ xs)
first_by x xs true text name number is_quoted is_text is_name is_number =
    let same : x ≡ byte "\"" = grind (arith, nat_tests) in rw same (quoted_first xs (after_run is_unquoted xs) refl)
first_by x xs false true name number is_quoted is_text is_name is_number =
    let same : x ≡ byte "'" = grind (arith, nat_tests) in rw same (text_first xs (content_is xs))
first_by x xs false false true number is_quoted is_text is_name is_number = begins (name_longest (x ∷ xs) is_name)
first_by x xs false false false true is_quoted is_text is_name is_number = begins (longest_number (x ∷ xs) is_number).longest
first_by x xs false false false false is_quoted is_text is_name is_number =
    found_first (symbol_front (x ∷ xs)) (finds_at x xs (symbol_front (x ∷ xs)) (record { no_name = is_name; no_number = is_number; no_quoted = is_quoted; no_text = is_text }) (finds_symbol (x ∷ xs) (symbol_front (x ∷ xs)) refl))

first_of_bytes : (x : ℕ) (xs : List ℕ) → First (x ∷ xs)
first_of_bytes x xs = first_by x xs (x == byte "\"") (x == byte "'") (is_name_start x) (begins_number (x ∷ xs)) refl refl refl refl

-- ---- a text has tokens or a fault

abbrev pub Outcome : List ℕ → Type 0
Outcome bytes = ((tokens : List Mark) × IsSpelt bytes tokens) ⊎ ((fault : SpellingFault) × HasFault bytes fault)

stops : {bytes : List ℕ} {tokens : List Mark} {left : List ℕ} {fault : SpellingFault} → length bytes ≤ 8192 → length tokens ≤ 2000 → Leads (length bytes) bytes tokens left → FaultOf (length tokens) (length bytes - length left) left fault → Outcome bytes
stops {fault = fault} few_bytes few_tokens leads of =
    inr (fault, has_fault (record { leads = leads; place_is = refl; few_bytes = few_bytes; few_tokens = few_tokens }) of)

blank_on : {size x : ℕ} {bytes xs : List ℕ} {tokens : List Mark} → Leads size bytes tokens (x ∷ xs) → is_blank x ≡ true → Leads size bytes tokens xs
blank_on {size} {bytes = bytes} {xs = xs} {tokens = tokens} leads is = subst (λ (ms : List Mark). Leads size bytes ms xs) (append-nil tokens) (leads_on leads (blank is here))

token_next : {bytes : List ℕ} {tokens : List Mark} {left ys : List ℕ} {s : Sort} → length bytes ≤ 8192 → length tokens ≤ 2000 → Leads (length bytes) bytes tokens left → IsLongest left s ys → ((more : List Mark) → length more ≤ 2000 → Leads (length bytes) bytes more ys → Outcome bytes) → Outcome bytes
token_next {bytes} {tokens} {left} {ys} {s} few_bytes few_tokens leads longest onward = full (length tokens == 2000) refl
  where
    full : (b : Bool) → (length tokens == 2000) ≡ b → Outcome bytes
    full true is = stops few_bytes few_tokens leads (too_many (grind (arith, nat_tests)) longest)
    full false is =
        let few : length tokens < 2000 = grind (arith, nat_tests) in
        onward (tokens ++ at (length bytes - length left) s ∷ []) (omega (arith, length-append tokens (at (length bytes - length left) s ∷ []))) (leads_on leads (token_first longest here))

outcome_from : (bytes : List ℕ) → length bytes ≤ 8192 → (most : ℕ) (left : List ℕ) → length left ≤ most → (tokens : List Mark) → length tokens ≤ 2000 → Leads (length bytes) bytes tokens left → Outcome bytes
outcome_from bytes few_bytes most [] within tokens few_tokens leads = inl (tokens, record { spells = leads; few_bytes = few_bytes; few_tokens = few_tokens })
outcome_from bytes few_bytes zero (x ∷ xs) within tokens few_tokens leads = absurd (omega arith)
outcome_from bytes few_bytes (suc most) (x ∷ xs) within tokens few_tokens leads = blank_first (is_blank x) refl (outcome_from bytes few_bytes most)
  where
    next : is_blank x ≡ false → First (x ∷ xs) → ((left : List ℕ) → length left ≤ most → (tokens : List Mark) → length tokens ≤ 2000 → Leads (length bytes) bytes tokens left → Outcome bytes) → Outcome bytes
    next no_blank (nothing_begins none) onward = stops few_bytes few_tokens leads (no_token_is (length tokens) (length bytes - length (x ∷ xs)) x xs no_blank none)
    next no_blank (begins {ys = ys} longest) onward = token_next few_bytes few_tokens leads longest (λ more few next_leads. onward ys (omega (arith, token_shorter longest.token)) more few next_leads)

    blank_first : (b : Bool) → is_blank x ≡ b → ((left : List ℕ) → length left ≤ most → (tokens : List Mark) → length tokens ≤ 2000 → Leads (length bytes) bytes tokens left → Outcome bytes) → Outcome bytes
    blank_first true is onward = onward xs (omega arith) tokens few_tokens (blank_on leads is)
    blank_first false is onward = next is (first_of_bytes x xs) onward

outcome_by : (bytes : List ℕ) (long : Bool) → nat_lt 8192 (length bytes) ≡ long → Outcome bytes
outcome_by bytes true is = inr (TooLong 8192, (grind (arith, nat_tests), refl))
outcome_by bytes false is = outcome_from bytes (grind (arith, nat_tests)) (length bytes) bytes (omega arith) [] (omega arith) here

pub tokens_or_fault : HasTokensOrFault
tokens_or_fault bytes = outcome_by bytes (nat_lt 8192 (length bytes)) refl
