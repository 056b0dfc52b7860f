-- A text has one spelling, whose tokens stand in order.
use Rattle.std.proofs.Common.{◌+◌, ◌≡◌, ℕ, ◌-◌, ◌≤◌, ◌<◌, true, List, [], ◌∷◌, ◌++◌, length, refl, sym, ap, subst, ◌∙◌, arith, append-nil, length-append, append_assoc, drop}
use Rattle.std.proofs.lemmas.List.{drop_at}
use Rattle.std.proofs.lemmas.Bool.Decides.{nat_tests}
use Rattle.std.specs.Str.{IsUtf8}
use Rattle.cql_lexer.specs.Mark.{Sort, Mark, at}
use Rattle.cql_lexer.specs.Runs.{Run, stop, more}
use Rattle.cql_lexer.specs.Spelling.{Leads, here, blank, token_first, is_blank}
use Rattle.cql_lexer.specs.Laws.{HasOneSpelling, AscendWithin, HasPlacesInOrder, StandAtPlaces, HasTokensAtPlaces}
use Rattle.cql_lexer.specs.Order.{Ascend}
use Rattle.cql_lexer.specs.lemmas.OrderLemmas.{ascends}
use Rattle.cql_lexer.proofs.Longest.{token_no_blank, token_shorter, token_splits, longest_same}
use Rattle.cql_lexer.proofs.Utf8.{cut}

-- ---- leading on

pub leads_on : {size : ℕ} {xs ys zs : List ℕ} {ms ns : List Mark} → Leads size xs ms ys → Leads size ys ns zs → Leads size xs (ms ++ ns) zs
leads_on here onward = onward
leads_on (blank is leads) onward = blank is (leads_on leads onward)
leads_on (token_first longest leads) onward = token_first longest (leads_on leads onward)

pub blanks_lead : {size : ℕ} {xs run ys : List ℕ} → Run is_blank xs run ys → Leads size xs [] ys
blanks_lead stop = here
blanks_lead (more is run) = blank is (blanks_lead run)

blank_ascii : (x : ℕ) → is_blank x ≡ true → x < 128
blank_ascii x is = grind (arith, nat_tests)

pub blanks_utf8 : {xs run ys : List ℕ} → Run is_blank xs run ys → IsUtf8 xs → IsUtf8 ys
blanks_utf8 stop utf8 = utf8
blanks_utf8 (more {x} {xs} is run) utf8 = blanks_utf8 run (cut [] x xs (blank_ascii x is) utf8).1

-- ---- two ways to lead on from the same bytes

-- what leads to `zs` has these tokens at its front, and goes on from `ys`
pub record HasBack (size : ℕ) (front all : List Mark) (ys zs : List ℕ) : Type 0 where
  pub back : List Mark
  pub is_all : all ≡ front ++ back
  pub leads : Leads size ys back zs

more_back : {size : ℕ} {m : Mark} {front all : List Mark} {ys zs : List ℕ} → HasBack size front all ys zs → HasBack size (m ∷ front) (m ∷ all) ys zs
more_back {m} h = record { back = h.back; is_all = ap (λ ms. m ∷ ms) h.is_all; leads = h.leads }

-- one of the two goes on from where the other ends
pub data Meets (size : ℕ) (ms ns : List Mark) (ys zs : List ℕ) : Type 0 where
  goes_on : HasBack size ms ns ys zs → Meets size ms ns ys zs
  went_on : HasBack size ns ms zs ys → Meets size ms ns ys zs

more_meets : {size : ℕ} {m : Mark} {ms ns : List Mark} {ys zs : List ℕ} → Meets size ms ns ys zs → Meets size (m ∷ ms) (m ∷ ns) ys zs
more_meets (goes_on h) = goes_on (more_back h)
more_meets (went_on h) = went_on (more_back h)

same_first : {size place : ℕ} {s t : Sort} {ms ns : List Mark} {ys zs : List ℕ} → s ≡ t → Meets size (at place s ∷ ms) (at place s ∷ ns) ys zs → Meets size (at place s ∷ ms) (at place t ∷ ns) ys zs
same_first {size} {place} {s} {ms = ms} {ns = ns} {ys = ys} {zs = zs} same h = subst (λ (u : Sort). Meets size (at place s ∷ ms) (at place u ∷ ns) ys zs) same h

moved : {size : ℕ} {xs ys zs : List ℕ} {ms : List Mark} → xs ≡ ys → Leads size xs ms zs → Leads size ys ms zs
moved {size} {zs = zs} {ms = ms} same leads = subst (λ (u : List ℕ). Leads size u ms zs) same leads

pub meet : {size : ℕ} {xs ys zs : List ℕ} {ms ns : List Mark} → Leads size xs ms ys → Leads size xs ns zs → Meets size ms ns ys zs
meet {ns = ns} here other = goes_on (record { back = ns; is_all = refl; leads = other })
meet (blank is leads) (blank _ other) = meet leads other
meet (blank {x} {xs} {marks} is leads) here = went_on (record { back = marks; is_all = refl; leads = blank {x = x} {xs = xs} is leads })
meet (blank is leads) (token_first longest _) = absurd (token_no_blank longest.token is)
meet (token_first {xs} {ys} {s} longest leads) here = went_on (record { back = _; is_all = refl; leads = token_first {xs = xs} {ys = ys} {s = s} longest leads })
meet (token_first longest leads) (blank is _) = absurd (token_no_blank longest.token is)
meet (token_first longest leads) (token_first another other) =
    let same = longest_same longest another in
    same_first same.0 (more_meets (meet leads (moved (sym same.1) other)))

-- nothing leads to nothing, by no token
pub none_of : {size : ℕ} {ms : List Mark} {zs : List ℕ} → Leads size [] ms zs → (ms ≡ []) × (zs ≡ [])
none_of here = (refl, refl)
none_of (token_first longest _) = absurd (omega (arith, token_shorter longest.token))

-- ---- the laws

whole_same : {size : ℕ} {ms ns : List Mark} → Meets size ms ns [] [] → ms ≡ ns
whole_same {ms = ms} (goes_on h) = sym (h.is_all ∙ ap (λ back. ms ++ back) (none_of h.leads).0 ∙ append-nil ms)
whole_same {ns = ns} (went_on h) = h.is_all ∙ ap (λ back. ns ++ back) (none_of h.leads).0 ∙ append-nil ns

pub one_spelling : HasOneSpelling
one_spelling bytes these those this that = whole_same (meet this that)

later : (first sooner end : ℕ) (tokens : List Mark) → sooner ≤ first → AscendWithin first end tokens → AscendWithin sooner end tokens
later first sooner end [] before ascend = tt
later first sooner end (at place s ∷ tokens) before ascend = (omega (arith, ascend.0), ascend.1, ascend.2)

places : (size : ℕ) {xs ys : List ℕ} {tokens : List Mark} → length xs ≤ size → Leads size xs tokens ys → AscendWithin (size - length xs) size tokens
places size within here = tt
places size {tokens} within (blank {xs} is leads) = later (size - length xs) _ size tokens (omega arith) (places size (omega arith) leads)
places size {xs} within (token_first {ys} {marks} longest leads) =
    let shorter : length ys < length xs = token_shorter longest.token in
    (omega arith, omega arith, later (size - length ys) _ size marks (omega arith) (places size (omega arith) leads))

pub places_in_order : HasPlacesInOrder
places_in_order bytes tokens spells = later (length bytes - length bytes) 0 (length bytes) tokens (omega arith) (places (length bytes) (omega arith) spells)

-- the places of the tokens that were read so far
pub leads_ascend : (bytes : List ℕ) {ys : List ℕ} {tokens : List Mark} → Leads (length bytes) bytes tokens ys → Ascend 0 tokens
leads_ascend bytes {tokens} leads = ascends 0 (length bytes) tokens (later (length bytes - length bytes) 0 (length bytes) tokens (omega arith) (places (length bytes) (omega arith) leads))

-- what is left of the text begins at the place that it has
rest_at : (before xs : List ℕ) (n : ℕ) → n ≡ length (before ++ xs) - length xs → drop n (before ++ xs) ≡ xs
rest_at before xs n is = drop_at before xs n (omega (arith, length-append before xs))

stands : (bytes before : List ℕ) {xs ys : List ℕ} {tokens : List Mark} → bytes ≡ before ++ xs → Leads (length bytes) xs tokens ys → StandAtPlaces bytes tokens
stands bytes before is here = tt
stands bytes before is (blank {x} {xs} _ leads) = stands bytes (before ++ x ∷ []) (is ∙ sym (append_assoc before (x ∷ []) xs)) leads
stands bytes before {xs} is (token_first {ys} longest leads) =
    let split = token_splits longest.token in
    let onward : bytes ≡ (before ++ split.0) ++ ys = is ∙ ap (λ w. before ++ w) split.1 ∙ sym (append_assoc before split.0 ys) in
    let place : drop (length bytes - length xs) bytes ≡ xs = rw is (rest_at before xs (length (before ++ xs) - length xs) refl) in
    ((ys, rw place longest), stands bytes (before ++ split.0) onward leads)

pub tokens_at_places : HasTokensAtPlaces
tokens_at_places bytes tokens spells = stands bytes [] refl spells
