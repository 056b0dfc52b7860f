-- Hashes of texts: numbers by which most texts are told apart (own profile).
use Rattle.std.specs.Prelude.{ℕ, ◌+◌, ◌*◌, ◌%◌, List, fold}

-- the hash of a text with one more character
abbrev pub next_hash : ℕ → ℕ → ℕ
next_hash hash character = (hash * 16777619 + character) % 4294967291

abbrev pub hash_of_text : List ℕ → ℕ
hash_of_text = fold next_hash 0
