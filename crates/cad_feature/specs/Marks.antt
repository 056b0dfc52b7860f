-- Marks of texts with their case folded (own profile): two bits of 64 by the hash of a text, and two bits of 64 others by the characters with which it begins and ends. Texts of one property of which the marks differ are not the same.
use Rattle.std.specs.Prelude.{◌≡◌, ℕ, ◌+◌, ◌*◌, ◌/◌, ◌%◌, ◌^◌, List, Some, slice_get, bit_and, bit_or}
use Rattle.caseless.specs.Caseless.{default_case_fold}
use Rattle.cql_text.specs.Ends.{BeginsExactly, BeginsWith, EndsExactly, EndsWith}
use Rattle.cql_text.specs.Hashes.{hash_of_text}
use Rattle.cql_text.specs.Patterns.{pieces}
use Rattle.cad_feature.specs.Values.{Datum, a_text}
use Rattle.cad_feature.specs.declared.marks.TextMarks.{TextMarks}

-- these bits are among all of them
abbrev pub HasBits : ℕ → ℕ → Type 0
HasBits all bits = bit_and all bits ≡ bits

-- texts of different properties have different marks if they can
abbrev pub bits_of_hash : ℕ → ℕ → ℕ
bits_of_hash property hash = bit_or (2 ^ ((hash % 64 + property % 64 * 23) % 64)) (2 ^ ((hash / 64 % 64 + property % 64 * 41) % 64))

abbrev pub bit_of_first : ℕ → ℕ → ℕ
bit_of_first property c = 2 ^ ((c + property % 64 * 11) % 64)

abbrev pub bit_of_last : ℕ → ℕ → ℕ
bit_of_last property c = 2 ^ ((c * 5 + property % 64 * 43) % 64)

-- the marks of a folded text of the property are among all of them
pub record HasMarksOf (all : TextMarks) (property : ℕ) (folded : List ℕ) : Type 0 where
  pub hash : HasBits all.hashes (bits_of_hash property (hash_of_text folded))
  pub first : (c : ℕ) → BeginsWith c folded → HasBits all.ends (bit_of_first property c)
  pub last : (c : ℕ) → EndsWith c folded → HasBits all.ends (bit_of_last property c)

-- the marks of each text among the values, with its case folded, are among all of them
abbrev pub AreMarked : TextMarks → List Datum → Type 0
AreMarked all values = (property : ℕ) (text : List ℕ) → slice_get values property ≡ Some (a_text text) → HasMarksOf all property (default_case_fold text)

-- all of these marks are among the others
abbrev pub Includes : TextMarks → TextMarks → Type 0
Includes all marks = HasBits all.hashes marks.hashes × HasBits all.ends marks.ends

-- whatever has the marks of such a folded text of the property, has these
abbrev pub AreMarksOf : TextMarks → ℕ → (List ℕ → Type 0) → Type 0
AreMarksOf marks property IsSuch = (all : TextMarks) (folded : List ℕ) → IsSuch folded → HasMarksOf all property folded → Includes all marks

-- these have the marks of the hash of a folded text of the property
abbrev pub HasHashOf : TextMarks → ℕ → List ℕ → Type 0
HasHashOf marks property folded = HasBits marks.hashes (bits_of_hash property (hash_of_text folded))

-- these have the marks of the characters with which a pattern for texts of the property begins and ends, if it does with one
pub record HasEndsOf (marks : TextMarks) (property : ℕ) (pattern : List ℕ) : Type 0 where
  pub first : (c : ℕ) → BeginsExactly c (pieces pattern) → HasBits marks.ends (bit_of_first property c)
  pub last : (c : ℕ) → EndsExactly c (pieces pattern) → HasBits marks.ends (bit_of_last property c)
