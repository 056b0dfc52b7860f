-- A text ends in one way: by its last token, or by one fault.
use Rattle.std.proofs.Common.{◌≡◌, ℕ, ◌+◌, ◌-◌, ◌≤◌, ◌<◌, Bool, true, false, ◌==◌, ◌||◌, List, [], ◌∷◌, ◌++◌, length, if◌then◌else◌, Result, Ok, Err, IfOk, IsOk, inl, inr, refl, sym, ap, subst, ◌∙◌, append-nil, length-append, arith}
use Rattle.std.proofs.lemmas.Bool.Decides.{nat_tests}
use Rattle.std.specs.Str.{byte}
use Rattle.cql_lexer.specs.Mark.{Sort, Mark, marks, name, text}
use Rattle.cql_lexer.specs.Spelling.{Leads, here, blank, token_first, is_blank, quoted_token, text_token, IsLongest, IsNoToken}
use Rattle.cql_lexer.specs.Lexed.{Answers, OrMemory, IsSpelt, Reaches, IsUnclosed, unclosed_text, unclosed_name, is_quote, IsStrange, strange, HasFault}
use Rattle.cql_lexer.specs.inner.Scan.{IsPast, no_token_fault}
use Rattle.cql_lexer.specs.Laws.{HasFaultOrTokens, HasOneFault}
use Rattle.cql_lexer.specs.declared.fault.LexFault.{LexFault}
use Rattle.cql_lexer.specs.declared.fault.LexFault.TheVariants.{At, Memory}
use Rattle.cql_lexer.specs.declared.fault.SpellingFault.{SpellingFault}
use Rattle.cql_lexer.specs.declared.fault.SpellingFault.TheVariants.{Unterminated, StrangeCharacter, TooLong, TooMany}
use Rattle.cql_lexer.specs.declared.token.Tokens.{Tokens}
use Rattle.cql_lexer.proofs.Longest.{token_no_blank, token_shorter, kind_of, only_text, only_quoted}
use Rattle.cql_lexer.proofs.Spellings.{HasBack, Meets, goes_on, went_on, meet, none_of, one_spelling}
use Rattle.cql_lexer.proofs.Texts.{opposite}

-- ---- where no more tokens come

-- no tokens lead on from here, within as many as are read
pub record IsEnd (size : ℕ) (tokens : List Mark) (left : List ℕ) : Type 0 where
  pub few : length tokens ≤ 2000
  pub last : (back : List Mark) (zs : List ℕ) → Leads size left back zs → length tokens + length back ≤ 2000 → (back ≡ []) × (zs ≡ left)

ends_same : {size : ℕ} {ms ns : List Mark} {ys zs : List ℕ} → IsEnd size ms ys → length ns ≤ 2000 → HasBack size ms ns ys zs → (ms ≡ ns) × (ys ≡ zs)
ends_same {ms = ms} {ns = ns} {zs = zs} this few h =
    let last = this.last h.back zs h.leads (omega (arith, few, ap length h.is_all, length-append ms h.back)) in
    (sym (h.is_all ∙ ap (λ back. ms ++ back) last.0 ∙ append-nil ms), sym last.1)

ends_meet : {size : ℕ} {ms ns : List Mark} {ys zs : List ℕ} → IsEnd size ms ys → IsEnd size ns zs → Meets size ms ns ys zs → (ms ≡ ns) × (ys ≡ zs)
ends_meet this that (goes_on h) = ends_same this that.few h
ends_meet this that (went_on h) = let same = ends_same that this.few h in (sym same.0, sym same.1)

-- so bytes lead to one end
one_end : {size : ℕ} {xs ys zs : List ℕ} {ms ns : List Mark} → Leads size xs ms ys → Leads size xs ns zs → IsEnd size ms ys → IsEnd size ns zs → (ms ≡ ns) × (ys ≡ zs)
one_end this that end other_end = ends_meet end other_end (meet this that)

-- ---- the faults of a place

-- the fault that stands where these bytes are left, behind so many tokens
pub data FaultOf (count place : ℕ) (left : List ℕ) : SpellingFault → Type 0 where
  unterminated : IsUnclosed left → FaultOf count place left (Unterminated place)
  strange_character : IsStrange left → FaultOf count place left (StrangeCharacter place)
  too_many : {s : Sort} {ys : List ℕ} → count ≡ 2000 → IsLongest left s ys → FaultOf count place left (TooMany place)

pub unclosed_none : {xs : List ℕ} → IsUnclosed xs → IsNoToken xs
unclosed_none (unclosed_text none) = λ t zs token. let one = only_text (kind_of token) in none one.0 zs one.1
unclosed_none (unclosed_name none) = λ t zs token. let one = only_quoted (kind_of token) in none one.0 zs one.1

unclosed_no_strange : {xs : List ℕ} → IsUnclosed xs → IsStrange xs → ⊥
unclosed_no_strange (unclosed_text _) (strange _ no_quote _) = opposite refl no_quote
unclosed_no_strange (unclosed_name _) (strange _ no_quote _) = opposite refl no_quote

strange_none : {xs : List ℕ} → IsStrange xs → IsNoToken xs
strange_none (strange _ _ none) = none

fault_same : {count other_count place : ℕ} {left : List ℕ} {fault other : SpellingFault} → FaultOf count place left fault → FaultOf other_count place left other → fault ≡ other
fault_same (unterminated _) (unterminated _) = refl
fault_same (unterminated gap) (strange_character odd) = absurd (unclosed_no_strange gap odd)
fault_same (unterminated gap) (too_many _ longest) = absurd (unclosed_none gap _ _ longest.token)
fault_same (strange_character odd) (unterminated gap) = absurd (unclosed_no_strange gap odd)
fault_same (strange_character _) (strange_character _) = refl
fault_same (strange_character odd) (too_many _ longest) = absurd (strange_none odd _ _ longest.token)
fault_same (too_many _ longest) (unterminated gap) = absurd (unclosed_none gap _ _ longest.token)
fault_same (too_many _ longest) (strange_character odd) = absurd (strange_none odd _ _ longest.token)
fault_same (too_many _ _) (too_many _ _) = refl

-- where nothing is left there is none
nothing_faulty : {count place : ℕ} {fault : SpellingFault} → FaultOf count place [] fault → ⊥
nothing_faulty (unterminated gap) = elim gap [ ]
nothing_faulty (strange_character odd) = elim odd [ ]
nothing_faulty (too_many _ longest) = omega (arith, token_shorter longest.token)

-- ---- a fault is an end

leads_nowhere : {size : ℕ} {x : ℕ} {xs : List ℕ} → is_blank x ≡ false → IsNoToken (x ∷ xs) → (back : List Mark) (zs : List ℕ) → Leads size (x ∷ xs) back zs → (back ≡ []) × (zs ≡ x ∷ xs)
leads_nowhere no_blank none back zs here = (refl, refl)
leads_nowhere no_blank none back zs (blank is _) = absurd (opposite is no_blank)
leads_nowhere no_blank none back zs (token_first longest _) = absurd (none _ _ longest.token)

unclosed_nowhere : {size : ℕ} {xs : List ℕ} → IsUnclosed xs → (back : List Mark) (zs : List ℕ) → Leads size xs back zs → (back ≡ []) × (zs ≡ xs)
unclosed_nowhere (unclosed_text none) back zs leads = leads_nowhere refl (unclosed_none (unclosed_text none)) back zs leads
unclosed_nowhere (unclosed_name none) back zs leads = leads_nowhere refl (unclosed_none (unclosed_name none)) back zs leads

strange_nowhere : {size : ℕ} {xs : List ℕ} → IsStrange xs → (back : List Mark) (zs : List ℕ) → Leads size xs back zs → (back ≡ []) × (zs ≡ xs)
strange_nowhere (strange no_blank _ none) back zs leads = leads_nowhere no_blank none back zs leads

full_nowhere : {size : ℕ} {xs ys : List ℕ} {s : Sort} → IsLongest xs s ys → (back : List Mark) (zs : List ℕ) → Leads size xs back zs → length back ≤ 0 → (back ≡ []) × (zs ≡ xs)
full_nowhere longest back zs here few = (refl, refl)
full_nowhere longest back zs (blank is _) few = absurd (token_no_blank longest.token is)
full_nowhere longest back zs (token_first _ _) few = absurd (omega arith)

fault_end : {size place : ℕ} {tokens : List Mark} {left : List ℕ} {fault : SpellingFault} → length tokens ≤ 2000 → FaultOf (length tokens) place left fault → IsEnd size tokens left
fault_end few (unterminated gap) = record { few = few; last = λ back zs leads within. unclosed_nowhere gap back zs leads }
fault_end few (strange_character odd) = record { few = few; last = λ back zs leads within. strange_nowhere odd back zs leads }
fault_end few (too_many full longest) = record { few = few; last = λ back zs leads within. full_nowhere longest back zs leads (omega arith) }

-- ---- the faults of a text

-- a text is too long, or leads to the place of its fault
pub data Faulty (bytes : List ℕ) : SpellingFault → Type 0 where
  too_long : 8192 < length bytes → Faulty bytes (TooLong 8192)
  faulty_at : {fault : SpellingFault} (tokens : List Mark) (place : ℕ) (left : List ℕ) → Reaches bytes tokens place left → FaultOf (length tokens) place left fault → Faulty bytes fault

pub faulty : (bytes : List ℕ) (fault : SpellingFault) → HasFault bytes fault → Faulty bytes fault
faulty bytes (Unterminated place) is = faulty_at is.tokens place is.left is.reaches (unterminated is.unclosed)
faulty bytes (StrangeCharacter place) is = faulty_at is.tokens place is.left is.reaches (strange_character is.is_strange)
faulty bytes (TooLong place) is = subst (λ (p : ℕ). Faulty bytes (TooLong p)) (sym is.1) (too_long is.0)
faulty bytes (TooMany place) is = faulty_at is.tokens place is.left is.reaches (too_many is.full is.token)

pub has_fault : {bytes : List ℕ} {tokens : List Mark} {place : ℕ} {left : List ℕ} {fault : SpellingFault} → Reaches bytes tokens place left → FaultOf (length tokens) place left fault → HasFault bytes fault
has_fault {tokens = tokens} {left = left} reaches (unterminated gap) = record { tokens = tokens; left = left; reaches = reaches; unclosed = gap }
has_fault {tokens = tokens} {left = left} reaches (strange_character odd) = record { tokens = tokens; left = left; reaches = reaches; is_strange = odd }
has_fault {tokens = tokens} {left = left} reaches (too_many {s} {ys} full longest) = record { tokens = tokens; left = left; reaches = reaches; full = full; sort = s; next = ys; token = longest }

moved_fault : {count other_count : ℕ} (place other_place : ℕ) (left other_left : List ℕ) {fault other : SpellingFault} → left ≡ other_left → place ≡ other_place → FaultOf count place left fault → FaultOf other_count other_place other_left other → fault ≡ other
moved_fault {count} place other_place left other_left {fault = fault} same_left same_place this that =
    fault_same (subst (λ (p : ℕ). FaultOf count p other_left fault) same_place (subst (λ (l : List ℕ). FaultOf count place l fault) same_left this)) that

faulty_same : {bytes : List ℕ} {fault other : SpellingFault} → Faulty bytes fault → Faulty bytes other → fault ≡ other
faulty_same (too_long _) (too_long _) = refl
faulty_same (too_long long) (faulty_at _ _ _ reaches _) = absurd (omega (arith, reaches.few_bytes))
faulty_same (faulty_at _ _ _ reaches _) (too_long long) = absurd (omega (arith, reaches.few_bytes))
faulty_same {bytes} (faulty_at tokens place left this of) (faulty_at others other_place other_left that other_of) =
    let same = one_end this.leads that.leads (fault_end this.few_tokens of) (fault_end that.few_tokens other_of) in
    moved_fault place other_place left other_left same.1 (this.place_is ∙ ap (λ l. length bytes - length l) same.1 ∙ sym that.place_is) of other_of

pub one_fault : HasOneFault
one_fault bytes fault other this that = faulty_same (faulty bytes fault this) (faulty bytes other that)

spelt_end : {bytes : List ℕ} {tokens : List Mark} → IsSpelt bytes tokens → IsEnd (length bytes) tokens []
spelt_end spelt = record { few = spelt.few_tokens; last = λ back zs leads within. none_of leads }

faulty_no_tokens : {bytes : List ℕ} {fault : SpellingFault} {tokens : List Mark} → Faulty bytes fault → IsSpelt bytes tokens → ⊥
faulty_no_tokens (too_long long) spelt = omega (arith, spelt.few_bytes)
faulty_no_tokens {fault = fault} (faulty_at tokens place left reaches of) spelt =
    let same = one_end reaches.leads spelt.spells (fault_end reaches.few_tokens of) (spelt_end spelt) in
    nothing_faulty (subst (λ (l : List ℕ). FaultOf (length tokens) place l fault) same.1 of)

pub fault_or_tokens : HasFaultOrTokens
fault_or_tokens bytes fault tokens has spelt = faulty_no_tokens (faulty bytes fault has) spelt

-- ---- the fault of a place where no token begins

quote_unclosed : (x : ℕ) (xs : List ℕ) → is_quote x ≡ true → IsNoToken (x ∷ xs) → IsUnclosed (x ∷ xs)
quote_unclosed x xs quote none = at (x == byte "'") refl quote
  where
    at : (b : Bool) → (x == byte "'") ≡ b → (b || (x == byte "\"")) ≡ true → IsUnclosed (x ∷ xs)
    at true is any =
        let same : x ≡ byte "'" = grind (arith, nat_tests) in
        let none_here : IsNoToken (byte "'" ∷ xs) = rw same at none in
        rw same (unclosed_text (λ content ys there. none_here (text content) ys (text_token there)))
    at false is any =
        let same : x ≡ byte "\"" = grind (arith, nat_tests) in
        let none_here : IsNoToken (byte "\"" ∷ xs) = rw same at none in
        rw same (unclosed_name (λ run ys there. none_here (name run) ys (quoted_token there)))

no_token_at : (count place x : ℕ) (xs : List ℕ) (b : Bool) → is_quote x ≡ b → is_blank x ≡ false → IsNoToken (x ∷ xs) → FaultOf count place (x ∷ xs) (if b then Unterminated place else StrangeCharacter place)
no_token_at count place x xs true quote no_blank none = unterminated (quote_unclosed x xs quote none)
no_token_at count place x xs false no_quote no_blank none = strange_character (strange no_blank no_quote none)

pub no_token_is : (count place x : ℕ) (xs : List ℕ) → is_blank x ≡ false → IsNoToken (x ∷ xs) → FaultOf count place (x ∷ xs) (no_token_fault place (x ∷ xs))
no_token_is count place x xs no_blank none = no_token_at count place x xs (is_quote x) refl no_blank none

-- ---- what the answers say

-- a token should begin here and none does
pub stuck : {bytes : List ℕ} {tokens : List Mark} {place : ℕ} (left : List ℕ) (fault : SpellingFault) → Reaches bytes tokens place left → IsPast is_blank left → (length left == 0) ≡ false → IsNoToken left → fault ≡ no_token_fault place left → HasFault bytes fault
stuck [] fault reaches past filled none is = absurd (opposite refl filled)
stuck {bytes} {tokens} {place} (x ∷ xs) fault reaches past filled none is =
    rw is (has_fault reaches (no_token_is (length tokens) place x xs past none))

pub accepted : (bytes : List ℕ) (result : Result Tokens LexFault) → Answers bytes result → (list : List Mark) → IsSpelt bytes list → OrMemory result (IsOk result)
accepted bytes (Ok t) answer list spelt = inr refl
accepted bytes (Err Memory) answer list spelt = inl refl
accepted bytes (Err (At fault)) answer list spelt = absurd (fault_or_tokens bytes fault list answer spelt)

pub refused : (bytes : List ℕ) (result : Result Tokens LexFault) → Answers bytes result → (fault : SpellingFault) → HasFault bytes fault → OrMemory result (result ≡ Err (At fault))
refused bytes (Ok t) answer fault has = absurd (fault_or_tokens bytes fault (marks t.list.items) has answer.0)
refused bytes (Err Memory) answer fault has = inl refl
refused bytes (Err (At other)) answer fault has = inr (ap (λ f. Err (At f)) (one_fault bytes other fault answer has))

pub only : (bytes : List ℕ) (result : Result Tokens LexFault) → Answers bytes result → (list : List Mark) → IsSpelt bytes list → IfOk result (λ read. list ≡ marks read.list.items)
only bytes (Ok t) answer list spelt = one_spelling bytes list (marks t.list.items) spelt.spells answer.0.spells
only bytes (Err Memory) answer list spelt = tt
only bytes (Err (At fault)) answer list spelt = tt
