-- Which token is the longest at a place, by the byte that begins it.
use Rattle.std.proofs.Common.{◌≡◌, ℕ, ◌≤◌, ◌<◌, Bool, true, false, ◌==◌, ◌||◌, ◌&&◌, Option, Some, None, List, [], ◌∷◌, ◌++◌, length, refl, ap, sym, ◌∙◌, subst, append_assoc, length-append, arith}
use Rattle.std.proofs.lemmas.Bool.Decides.{nat_tests}
use Rattle.std.specs.Char.{is_ascii_digit}
use Rattle.std.specs.Str.{IsUtf8, byte}
use Rattle.std.specs.Borrow.{Bor}
use Rattle.cql_lexer.specs.declared.token.Kind.{Kind}
use Rattle.cql_lexer.specs.Mark.{Sort, name, text, number}
use Rattle.cql_lexer.specs.Runs.{Run}
use Rattle.cql_lexer.specs.Symbols.{symbol_of, IsSymbol}
use Rattle.cql_lexer.specs.Names.{is_name_start, is_name_part, is_unquoted, bare}
use Rattle.cql_lexer.specs.Numbers.{IsNumber, digits_first, point_first, digits}
use Rattle.cql_lexer.specs.Texts.{IsContent}
use Rattle.cql_lexer.specs.Spelling.{IsToken, symbol_token, number_token, bare_token, quoted_token, text_token, IsLongest, IsNoToken, is_blank}
use Rattle.cql_lexer.specs.inner.Scan.{run_of, after_run, after_number, begins_digit, begins_number, begins_name, symbol_front, Finds, seen}
use Rattle.cql_lexer.proofs.Roles.{Role, role, named, numbered, quoted, worded, spaced, other, role_of_name, role_of_digit, role_of_blank}
use Rattle.cql_lexer.proofs.Runs.{run_is, run_longest, run_shorter, run_splits, run_whole, past_run}
use Rattle.cql_lexer.proofs.Symbols.{symbol_role, symbol_ascii, symbol_shorter, FindsSymbol, finds_symbol}
use Rattle.cql_lexer.proofs.Numbers.{number_longest, number_is, number_begins, number_splits, number_ascii, number_filled}
use Rattle.cql_lexer.proofs.Texts.{content_one, content_splits, content_shorter, content_utf8, opposite}
use Rattle.cql_lexer.proofs.Utf8.{cut, behind_ascii, name_ascii, one_more}

-- the longest token at the front and what is left, or none begins there
abbrev pub FindsToken : List ℕ → Option (Sort × List ℕ) → Type 0
FindsToken xs None = IsNoToken xs
FindsToken xs (Some found) = IsLongest xs found.0 found.1

some_same : {s t : Sort} → Some s ≡ Some t → s ≡ t
some_same same = cc

-- ---- what the first byte of a token says

number_role : {x : ℕ} {xs spelling ys : List ℕ} → IsNumber (x ∷ xs) spelling ys → role x ≡ numbered
number_role {x} (digits_first (digits digit _) _ _) = role_of_digit x digit
number_role (point_first _ _) = refl

-- the token is of the kind of its first byte
pub data IsKind : Role → List ℕ → Sort → List ℕ → Type 0 where
  a_symbol : {xs ys : List ℕ} {s : Sort} → IsSymbol xs s ys → IsKind other xs s ys
  a_number : {xs spelling ys : List ℕ} → IsNumber xs spelling ys → IsKind numbered xs (number spelling) ys
  a_name : {x : ℕ} {xs run ys : List ℕ} → Run is_name_part xs run ys → IsKind named (x ∷ xs) (bare (x ∷ run)) ys
  a_quoted : {xs run ys : List ℕ} → Run is_unquoted xs run (byte "\"" ∷ ys) → IsKind quoted (byte "\"" ∷ xs) (name run) ys
  a_text : {xs content ys : List ℕ} → IsContent xs content ys → IsKind worded (byte "'" ∷ xs) (text content) ys

of_role : {r q : Role} {xs ys : List ℕ} {s : Sort} → q ≡ r → IsKind q xs s ys → IsKind r xs s ys
of_role {xs} {ys} {s} same kind = subst (λ (u : Role). IsKind u xs s ys) same kind

pub kind_of : {x : ℕ} {xs ys : List ℕ} {s : Sort} → IsToken (x ∷ xs) s ys → IsKind (role x) (x ∷ xs) s ys
kind_of (symbol_token symbol) = of_role (sym (symbol_role symbol)) (a_symbol symbol)
kind_of (number_token is) = of_role (sym (number_role is)) (a_number is)
kind_of (bare_token {x} {xs} begins run) = of_role (sym (role_of_name x begins)) (a_name {x = x} {xs = xs} run)
kind_of (quoted_token run) = a_quoted run
kind_of (text_token content) = a_text content

no_kind : {xs ys : List ℕ} {s : Sort} → IsKind spaced xs s ys → ⊥
no_kind kind = elim kind [ ]

start_ascii : (x : ℕ) → is_name_start x ≡ true → x < 128
start_ascii x begins = grind (arith, nat_tests)

-- ---- each token has a byte at least, and is the front of the bytes

number_leaves_less : {xs spelling ys : List ℕ} → IsNumber xs spelling ys → length ys < length xs
number_leaves_less {xs} {spelling} {ys} is = omega (arith, number_filled is, ap length (number_splits is), length-append spelling ys)

-- a token has a byte at least
pub token_shorter : {xs ys : List ℕ} {s : Sort} → IsToken xs s ys → length ys < length xs
token_shorter (symbol_token symbol) = symbol_shorter symbol
token_shorter (number_token is) = number_leaves_less is
token_shorter (bare_token _ run) = omega (arith, run_shorter run)
token_shorter (quoted_token run) = omega (arith, run_shorter run)
token_shorter (text_token content) = omega (arith, content_shorter content)

-- and is the front of the bytes
pub token_splits : {xs ys : List ℕ} {s : Sort} → IsToken xs s ys → (spelling : List ℕ) × (xs ≡ spelling ++ ys)
token_splits (symbol_token symbol) = (symbol.spelling, symbol.is_all)
token_splits (number_token {spelling} is) = (spelling, number_splits is)
token_splits (bare_token {x} {run} _ named_there) = (x ∷ run, ap (λ w. x ∷ w) (run_splits named_there))
token_splits (quoted_token {run} {ys} named_there) = (byte "\"" ∷ (run ++ byte "\"" ∷ []), ap (λ w. byte "\"" ∷ w) (run_splits named_there ∙ sym (append_assoc run (byte "\"" ∷ []) ys)))
token_splits (text_token content) = let split = content_splits content in (byte "'" ∷ split.0, ap (λ w. byte "'" ∷ w) split.1)

-- what is left behind a token is UTF-8
pub token_utf8 : {xs ys : List ℕ} {s : Sort} → IsToken xs s ys → IsUtf8 xs → IsUtf8 ys
token_utf8 {xs} {ys} (symbol_token symbol) utf8 = behind_ascii ys (symbol_ascii symbol) (subst IsUtf8 symbol.is_all utf8)
token_utf8 {xs} {ys} (number_token is) utf8 = behind_ascii ys (number_ascii is) (subst IsUtf8 (number_splits is) utf8)
token_utf8 (bare_token {x} {xs} {run} {ys} begins named_there) utf8 =
    behind_ascii ys (one_more (start_ascii x begins) (name_ascii named_there)) (subst IsUtf8 (ap (λ w. x ∷ w) (run_splits named_there)) utf8)
token_utf8 (quoted_token {xs} {run} {ys} named_there) utf8 =
    (cut (byte "\"" ∷ run) (byte "\"") ys (omega arith) (subst IsUtf8 (ap (λ w. byte "\"" ∷ w) (run_splits named_there)) utf8)).1
token_utf8 (text_token {xs} content) utf8 = (content_utf8 [] content (cut [] (byte "'") xs (omega arith) utf8).1).1

-- a blank begins no token
pub token_no_blank : {x : ℕ} {xs ys : List ℕ} {s : Sort} → IsToken (x ∷ xs) s ys → is_blank x ≡ true → ⊥
token_no_blank {x} token blank = no_kind (of_role (role_of_blank x blank) (kind_of token))

-- ---- the longest name

only_name : (x : ℕ) (xs : List ℕ) {zs : List ℕ} {t : Sort} → IsKind named (x ∷ xs) t zs → length (after_run is_name_part xs) ≤ length zs
only_name x xs (a_name run) = run_longest run

name_there : (x : ℕ) (xs : List ℕ) → is_name_start x ≡ true → IsLongest (x ∷ xs) (bare (x ∷ run_of is_name_part xs)) (after_run is_name_part xs)
name_there x xs begins = record {
  token = bare_token begins (run_is is_name_part xs);
  longest = λ t zs token. only_name x xs (of_role (role_of_name x begins) (kind_of token));
}

start_is_part : (x : ℕ) → is_name_start x ≡ true → is_name_part x ≡ true
start_is_part x begins = grind (arith, nat_tests)

pub name_longest : (xs : List ℕ) → begins_name xs ≡ true → IsLongest xs (bare (run_of is_name_part xs)) (after_run is_name_part xs)
name_longest [] begins = absurd (cc)
name_longest (x ∷ xs) begins = rw (start_is_part x begins) (name_there x xs begins)

-- ---- the longest number

begins_role : (x : ℕ) (xs : List ℕ) → begins_number (x ∷ xs) ≡ true → role x ≡ numbered
begins_role x xs begins = at (is_ascii_digit x) refl begins
  where
    at : (b : Bool) → is_ascii_digit x ≡ b → (b || ((x == byte ".") && begins_digit xs)) ≡ true → role x ≡ numbered
    at true digit is = role_of_digit x digit
    at false digit is = let same : x ≡ byte "." = grind (arith, nat_tests) in rw same refl

only_number : {xs zs : List ℕ} {t : Sort} → IsKind numbered xs t zs → length (after_number xs) ≤ length zs
only_number (a_number is) = number_longest is

pub record HasNumber (xs : List ℕ) : Type 0 where
  pub spelling : List ℕ
  pub is : IsNumber xs spelling (after_number xs)
  pub longest : IsLongest xs (number spelling) (after_number xs)

pub longest_number : (xs : List ℕ) → begins_number xs ≡ true → HasNumber xs
longest_number [] begins = absurd (cc)
longest_number (x ∷ xs) begins =
    let found = number_is (x ∷ xs) begins in
    record {
      spelling = found.0;
      is = found.1;
      longest = record {
        token = number_token found.1;
        longest = λ t zs token. only_number (of_role (begins_role x xs begins) (kind_of token));
      };
    }

-- ---- the longest quoted name

abbrev pub only_quoted_goal : List ℕ → List ℕ → Type 0
only_quoted_goal xs zs = (run : List ℕ) × Run is_unquoted xs run (byte "\"" ∷ zs)

pub only_quoted : {xs zs : List ℕ} {t : Sort} → IsKind quoted (byte "\"" ∷ xs) t zs → only_quoted_goal xs zs
only_quoted (a_quoted {run} named_there) = (run, named_there)

pub quoted_longest : (xs ys : List ℕ) → after_run is_unquoted xs ≡ byte "\"" ∷ ys → IsLongest (byte "\"" ∷ xs) (name (run_of is_unquoted xs)) ys
quoted_longest xs ys behind =
    let run : Run is_unquoted xs (run_of is_unquoted xs) (byte "\"" ∷ ys) = rw behind at (run_is is_unquoted xs) in
    record {
      token = quoted_token run;
      longest = λ t zs token. let one = only_quoted (kind_of token) in omega (arith, ap length behind, ap length (run_whole one.1 refl).1);
    }

unquoted_is : (x : ℕ) → is_unquoted x ≡ false → x ≡ byte "\""
unquoted_is x quote = grind (arith, nat_tests)

-- what comes behind the bytes of a name is a quote
pub quoted_end : (xs : List ℕ) (y : ℕ) (ys : List ℕ) → after_run is_unquoted xs ≡ y ∷ ys → after_run is_unquoted xs ≡ byte "\"" ∷ ys
quoted_end xs y ys behind = behind ∙ ap (λ q. q ∷ ys) (unquoted_is y (past_run is_unquoted xs y ys behind))

pub quoted_utf8 : (xs ys : List ℕ) → after_run is_unquoted xs ≡ byte "\"" ∷ ys → IsUtf8 xs → IsUtf8 (run_of is_unquoted xs)
quoted_utf8 xs ys behind utf8 =
    let splits : xs ≡ run_of is_unquoted xs ++ byte "\"" ∷ ys = run_splits (run_is is_unquoted xs) ∙ ap (λ w. run_of is_unquoted xs ++ w) behind in
    (cut (run_of is_unquoted xs) (byte "\"") ys (omega arith) (subst IsUtf8 splits utf8)).0

pub quoted_none : (xs : List ℕ) → length (after_run is_unquoted xs) ≡ 0 → IsNoToken (byte "\"" ∷ xs)
quoted_none xs empty = λ t zs token. let one = only_quoted (kind_of token) in omega (arith, empty, ap length (run_whole one.1 refl).1)

-- ---- the longest text

pub only_text : {xs zs : List ℕ} {t : Sort} → IsKind worded (byte "'" ∷ xs) t zs → (content : List ℕ) × IsContent xs content zs
only_text (a_text {content} there) = (content, there)

pub text_longest : {xs content ys : List ℕ} → IsContent xs content ys → IsLongest (byte "'" ∷ xs) (text content) ys
text_longest there = record {
  token = text_token there;
  longest = λ t zs token. let one = only_text (kind_of token) in omega (arith, ap length (content_one there one.1).1);
}

pub text_none : (xs : List ℕ) → ((content ys : List ℕ) → IsContent xs content ys → ⊥) → IsNoToken (byte "'" ∷ xs)
text_none xs none = λ t zs token. let one = only_text (kind_of token) in none one.0 zs one.1

-- ---- the longest symbol

-- a byte that begins nothing else begins a symbol or nothing
pub record IsPlain (x : ℕ) (xs : List ℕ) : Type 0 where
  pub no_name : is_name_start x ≡ false
  pub no_number : begins_number (x ∷ xs) ≡ false
  pub no_quoted : (x == byte "\"") ≡ false
  pub no_text : (x == byte "'") ≡ false

only_symbol : {x : ℕ} {xs ys : List ℕ} {s : Sort} → IsPlain x xs → IsToken (x ∷ xs) s ys → IsSymbol (x ∷ xs) s ys
only_symbol plain (symbol_token symbol) = symbol
only_symbol plain (number_token is) = absurd (opposite (number_begins is) plain.no_number)
only_symbol plain (bare_token begins _) = absurd (opposite begins plain.no_name)
only_symbol plain (quoted_token _) = absurd (opposite refl plain.no_quoted)
only_symbol plain (text_token _) = absurd (opposite refl plain.no_text)

pub finds_at : (x : ℕ) (xs : List ℕ) (found : Option (Sort × List ℕ)) → IsPlain x xs → FindsSymbol (x ∷ xs) found → FindsToken (x ∷ xs) found
finds_at x xs None plain none = λ t zs token. none t zs (only_symbol plain token)
finds_at x xs (Some r) plain longest = record {
  token = symbol_token longest.symbol;
  longest = λ t zs token. longest.longest t zs (only_symbol plain token);
}

finds_seen : (xs : List ℕ) (found : Option (Kind × Bor (List ℕ))) → FindsToken xs (seen found) → Finds xs found
finds_seen xs None none = none
finds_seen xs (Some r) longest = longest

pub finds_plain : (x : ℕ) (behind xs : List ℕ) (found : Option (Kind × Bor (List ℕ))) → xs ≡ x ∷ behind → IsPlain x behind → seen found ≡ symbol_front xs → Finds xs found
finds_plain x behind xs found all plain is =
    rw all (finds_seen (x ∷ behind) found (finds_at x behind (seen found) plain (finds_symbol (x ∷ behind) (seen found) (rw all at (sym is)))))

-- ---- tokens of one length at one place are one token

same_split : (front back other_front other_back : List ℕ) → front ++ back ≡ other_front ++ other_back → length back ≡ length other_back → (front ≡ other_front) × (back ≡ other_back)
same_split [] back [] other_back same lengths = (refl, same)
same_split [] back (y ∷ ys) other_back same lengths = absurd (omega (arith, ap length same, length-append ys other_back))
same_split (x ∷ xs) back [] other_back same lengths = absurd (omega (arith, ap length same, length-append xs back))
same_split (x ∷ xs) back (y ∷ ys) other_back same lengths =
    let first : x ≡ y = cc in
    let rest = same_split xs back ys other_back (cc) lengths in
    (ap (λ c. c ∷ xs) first ∙ ap (λ w. y ∷ w) rest.0, rest.1)

symbol_same : {xs ys zs : List ℕ} {s t : Sort} → IsSymbol xs s ys → IsSymbol xs t zs → length ys ≡ length zs → s ≡ t
symbol_same {xs} {ys} {zs} {s} {t} one another same =
    let spelling = (same_split one.spelling ys another.spelling zs (sym one.is_all ∙ another.is_all) same).0 in
    some_same (sym one.entry ∙ ap symbol_of spelling ∙ another.entry)

number_same : {xs spelling ys other_spelling zs : List ℕ} → IsNumber xs spelling ys → IsNumber xs other_spelling zs → length ys ≡ length zs → spelling ≡ other_spelling
number_same {xs} {spelling} {ys} {other_spelling} {zs} one another same = (same_split spelling ys other_spelling zs (sym (number_splits one) ∙ number_splits another) same).0

run_same : {p : ℕ → Bool} {xs run ys other_run zs : List ℕ} → Run p xs run ys → Run p xs other_run zs → length ys ≡ length zs → run ≡ other_run
run_same {run} {ys} {other_run} {zs} one another same = (same_split run ys other_run zs (sym (run_splits one) ∙ run_splits another) same).0

kind_same : {r : Role} {xs ys zs : List ℕ} {s t : Sort} → IsKind r xs s ys → IsKind r xs t zs → length ys ≡ length zs → s ≡ t
kind_same (a_symbol one) (a_symbol another) same = symbol_same one another same
kind_same (a_number one) (a_number another) same = ap number (number_same one another same)
kind_same (a_name {x} one) (a_name another) same = ap (λ w. bare (x ∷ w)) (run_same one another same)
kind_same (a_quoted one) (a_quoted another) same = ap name (run_same one another (omega (arith, same)))
kind_same (a_text one) (a_text another) same = ap text (content_one one another).0

token_same : (xs : List ℕ) {ys zs : List ℕ} {s t : Sort} → IsToken xs s ys → IsToken xs t zs → length ys ≡ length zs → s ≡ t
token_same [] one another same = absurd (omega (arith, token_shorter one))
token_same (x ∷ xs) one another same = kind_same (kind_of one) (kind_of another) same

left_same : {xs ys zs : List ℕ} {s t : Sort} → IsToken xs s ys → IsToken xs t zs → length ys ≡ length zs → ys ≡ zs
left_same {xs} {ys} {zs} one another same =
    let this = token_splits one in
    let that = token_splits another in
    (same_split this.0 ys that.0 zs (sym this.1 ∙ that.1) same).1

-- one token is the longest
pub longest_same : {xs ys zs : List ℕ} {s t : Sort} → IsLongest xs s ys → IsLongest xs t zs → (s ≡ t) × (ys ≡ zs)
longest_same {xs} {ys} {zs} {s} {t} one another =
    let no_longer : length ys ≤ length zs = one.longest t zs another.token in
    let no_shorter : length zs ≤ length ys = another.longest s ys one.token in
    let same : length ys ≡ length zs = omega arith in
    (token_same xs one.token another.token same, left_same one.token another.token same)

-- nothing begins no token
pub none_of_nothing : (xs : List ℕ) → length xs ≡ 0 → IsNoToken xs
none_of_nothing xs empty = λ t zs token. omega (arith, token_shorter token)
