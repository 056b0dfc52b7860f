-- Short texts (own profile).
use Rattle.std.specs.Prelude.{◌≡◌, ℕ, ◌≤◌, ◌==◌, List, length, false}
use Rattle.std.specs.List.{list_any}
use Rattle.cad_versions.specs.declared.words.Words.{Words}

-- 1 to 200 bytes, none of them the byte of U+0000
pub record AreWords (bytes : List ℕ) : Type 0 where
  pub some : 1 ≤ length bytes
  pub few : length bytes ≤ 200
  pub printable : list_any (λ b. b == 0) bytes ≡ false

abbrev pub bytes_of : Words → List ℕ
bytes_of words = words.spelling
