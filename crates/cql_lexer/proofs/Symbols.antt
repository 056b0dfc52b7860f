-- The scan finds the longest symbol.
use Rattle.std.proofs.Common.{◌≡◌, ℕ, ◌≤◌, ◌<◌, Bool, true, false, ◌&&◌, nat_lt, Option, Some, None, MatchOption, List, [], ◌∷◌, ◌++◌, length, if◌then◌else◌, refl, ap, sym, arith}
use Rattle.std.proofs.lemmas.Bool.Decides.{nat_tests}
use Rattle.std.specs.Cmp.Lexicographic.{same_text}
use Rattle.std.specs.List.{list_all}
use Rattle.std.specs.Str.{bytes_eq}
use Rattle.cql_lexer.specs.Mark.{Sort}
use Rattle.cql_lexer.specs.Symbols.{symbols, symbol_of, IsSymbol}
use Rattle.cql_lexer.specs.Tables.{entry_of}
use Rattle.cql_lexer.specs.inner.Scan.{with_rest, or_else, symbol_front}
use Rattle.cql_lexer.proofs.Roles.{Role, role, other, is_other}
use Rattle.cql_lexer.proofs.Utf8.{AllAscii, no_bytes, one_more}

-- ---- what holds of the table

-- what passes at each spelling of a table passes at one that has an entry there
entry_passes : {A : Type 0} {a : A} (test : List ℕ → Bool) (table : List (List ℕ × A)) (spelling : List ℕ) → list_all (λ entry. test entry.0) table ≡ true → entry_of bytes_eq table spelling ≡ Some a → test spelling ≡ true
entry_passes test [] spelling all found = absurd (cc)
entry_passes {A} {a} test (entry ∷ entries) spelling all found = at (bytes_eq spelling entry.0) refl (test entry.0) refl all found (entry_passes test entries spelling)
  where
    at : (b : Bool) → bytes_eq spelling entry.0 ≡ b → (c : Bool) → test entry.0 ≡ c → (c && list_all (λ e. test e.0) entries) ≡ true → (if b then Some entry.1 else entry_of bytes_eq entries spelling) ≡ Some a → (list_all (λ e. test e.0) entries ≡ true → entry_of bytes_eq entries spelling ≡ Some a → test spelling ≡ true) → test spelling ≡ true
    at true same true passes rest is onward = let one : spelling ≡ entry.0 = same_text spelling entry.0 (sym same) in rw one passes
    at false same true passes rest is onward = onward rest is
    at true same false passes rest is onward = absurd (cc)
    at false same false passes rest is onward = absurd (cc)

-- a symbol has one byte or two, of ASCII, and its first byte begins nothing else
pub data IsShort : List ℕ → Type 0 where
  one_byte : {x : ℕ} → role x ≡ other → x < 128 → IsShort (x ∷ [])
  two_bytes : {x y : ℕ} → role x ≡ other → x < 128 → y < 128 → IsShort (x ∷ y ∷ [])

is_short : List ℕ → Bool
is_short [] = false
is_short (x ∷ []) = is_other (role x) && nat_lt x 128
is_short (x ∷ y ∷ []) = is_other (role x) && (nat_lt x 128 && nat_lt y 128)
is_short (x ∷ y ∷ z ∷ xs) = false

other_is : (r : Role) → is_other r ≡ true → r ≡ other
other_is other is = refl
other_is _ is = absurd (cc)

short_is : (spelling : List ℕ) → is_short spelling ≡ true → IsShort spelling
unfolding is_short
short_is [] is = absurd (cc)
short_is (x ∷ []) is = one_byte (other_is (role x) (grind (arith, nat_tests))) (grind (arith, nat_tests))
short_is (x ∷ y ∷ []) is = two_bytes (other_is (role x) (grind (arith, nat_tests))) (grind (arith, nat_tests)) (grind (arith, nat_tests))
short_is (x ∷ y ∷ z ∷ xs) is = absurd (cc)

symbol_short : {s : Sort} (spelling : List ℕ) → symbol_of spelling ≡ Some s → IsShort spelling
unfolding is_short symbol_of
symbol_short spelling found = short_is spelling (entry_passes is_short symbols spelling refl found)

-- ---- what holds of a symbol

first_other : {spelling : List ℕ} (x : ℕ) (xs ys : List ℕ) → IsShort spelling → x ∷ xs ≡ spelling ++ ys → role x ≡ other
first_other x xs ys (one_byte {x = y} is ascii) all = let same : y ≡ x = cc in rw same at is
first_other x xs ys (two_bytes {x = y} is ascii both) all = let same : y ≡ x = cc in rw same at is

pub symbol_role : {x : ℕ} {xs ys : List ℕ} {s : Sort} → IsSymbol (x ∷ xs) s ys → role x ≡ other
symbol_role {x} {xs} {ys} symbol = first_other x xs ys (symbol_short symbol.spelling symbol.entry) symbol.is_all

short_ascii : {spelling : List ℕ} → IsShort spelling → AllAscii spelling
short_ascii (one_byte is ascii) = one_more ascii no_bytes
short_ascii (two_bytes is ascii both) = one_more ascii (one_more both no_bytes)

pub symbol_ascii : {xs ys : List ℕ} {s : Sort} → (symbol : IsSymbol xs s ys) → AllAscii symbol.spelling
symbol_ascii symbol = short_ascii (symbol_short symbol.spelling symbol.entry)

longer_by : {spelling : List ℕ} (xs ys : List ℕ) → IsShort spelling → xs ≡ spelling ++ ys → length ys < length xs
longer_by xs ys (one_byte is ascii) all = rw all (omega arith)
longer_by xs ys (two_bytes is ascii both) all = rw all (omega arith)

pub symbol_shorter : {xs ys : List ℕ} {s : Sort} → IsSymbol xs s ys → length ys < length xs
symbol_shorter {xs} {ys} symbol = longer_by xs ys (symbol_short symbol.spelling symbol.entry) symbol.is_all

-- ---- the scan finds a symbol

pub record IsFound (xs ys : List ℕ) : Type 0 where
  pub sort : Sort
  pub left : List ℕ
  pub found : symbol_front xs ≡ Some (sort, left)
  pub no_shorter : length left ≤ length ys

one_found : (x : ℕ) (s : Sort) (xs : List ℕ) → symbol_of (x ∷ []) ≡ Some s → IsFound (x ∷ xs) xs
one_found x s [] entry = record { sort = s; left = []; found = rw entry refl; no_shorter = omega arith }
one_found x s (y ∷ xs) entry = at (symbol_of (x ∷ y ∷ [])) refl
  where
    at : (pair : Option Sort) → symbol_of (x ∷ y ∷ []) ≡ pair → IsFound (x ∷ y ∷ xs) (y ∷ xs)
    at None pair = record { sort = s; left = y ∷ xs; found = rw (pair, entry) refl; no_shorter = omega arith }
    at (Some t) pair = record { sort = t; left = xs; found = rw pair refl; no_shorter = omega arith }

short_found : {spelling : List ℕ} (xs ys : List ℕ) (s : Sort) → IsShort spelling → symbol_of spelling ≡ Some s → xs ≡ spelling ++ ys → IsFound xs ys
short_found xs ys s (one_byte {x = x} is ascii) entry all = rw all (one_found x s ys entry)
short_found xs ys s (two_bytes is ascii both) entry all = rw all (record { sort = s; left = ys; found = rw entry refl; no_shorter = omega arith })

symbol_found : {xs ys : List ℕ} {s : Sort} → IsSymbol xs s ys → IsFound xs ys
symbol_found {xs} {ys} {s} symbol = short_found xs ys s (symbol_short symbol.spelling symbol.entry) symbol.entry symbol.is_all

-- ---- what the scan finds is a symbol

abbrev SpellsSymbol : List ℕ → Option (Sort × List ℕ) → Type 0
SpellsSymbol xs found = MatchOption found (Unit {0}) (λ r. IsSymbol xs r.0 r.1)

single_is : (x : ℕ) (xs : List ℕ) (found : Option Sort) → symbol_of (x ∷ []) ≡ found → SpellsSymbol (x ∷ xs) (with_rest xs found)
single_is x xs None entry = tt
single_is x xs (Some s) entry = record { spelling = x ∷ []; entry = entry; is_all = refl }

pair_is : (x y : ℕ) (xs : List ℕ) (found : Option Sort) → symbol_of (x ∷ y ∷ []) ≡ found → SpellsSymbol (x ∷ y ∷ xs) (with_rest xs found)
pair_is x y xs None entry = tt
pair_is x y xs (Some s) entry = record { spelling = x ∷ y ∷ []; entry = entry; is_all = refl }

or_else_is : (xs : List ℕ) (one another : Option (Sort × List ℕ)) → SpellsSymbol xs one → SpellsSymbol xs another → SpellsSymbol xs (or_else one another)
or_else_is xs None another this that = that
or_else_is xs (Some s) another this that = this

front_is : (xs : List ℕ) → SpellsSymbol xs (symbol_front xs)
front_is [] = tt
front_is (x ∷ []) = single_is x [] (symbol_of (x ∷ [])) refl
front_is (x ∷ y ∷ xs) = or_else_is (x ∷ y ∷ xs) (with_rest xs (symbol_of (x ∷ y ∷ []))) (with_rest (y ∷ xs) (symbol_of (x ∷ [])))
    (pair_is x y xs (symbol_of (x ∷ y ∷ [])) refl) (single_is x (y ∷ xs) (symbol_of (x ∷ [])) refl)

-- ---- so it finds the longest symbol

pub record IsLongestSymbol (xs : List ℕ) (s : Sort) (ys : List ℕ) : Type 0 where
  pub symbol : IsSymbol xs s ys
  pub longest : (t : Sort) (zs : List ℕ) → IsSymbol xs t zs → length ys ≤ length zs

abbrev pub FindsSymbol : List ℕ → Option (Sort × List ℕ) → Type 0
FindsSymbol xs None = (t : Sort) (zs : List ℕ) → IsSymbol xs t zs → ⊥
FindsSymbol xs (Some r) = IsLongestSymbol xs r.0 r.1

none_is_not : {r : Sort × List ℕ} {found : Option (Sort × List ℕ)} → found ≡ None → found ≡ Some r → ⊥
none_is_not none some = cc

same_left : {r : Sort × List ℕ} {s : Sort} {left : List ℕ} {found : Option (Sort × List ℕ)} → found ≡ Some r → found ≡ Some (s, left) → left ≡ r.1
same_left one another = cc

pub finds_symbol : (xs : List ℕ) (found : Option (Sort × List ℕ)) → symbol_front xs ≡ found → FindsSymbol xs found
finds_symbol xs None is = λ t zs symbol. none_is_not is (symbol_found symbol).found
finds_symbol xs (Some r) is = record {
  symbol = rw is at (front_is xs);
  longest = λ t zs symbol. let f = symbol_found symbol in omega (arith, f.no_shorter, ap length (same_left is f.found));
}
