-- Values that terms have on every feature (own profile).
use Rattle.std.specs.Prelude.{ℕ, ℤ, List, Option, Some, None, String, chars, string_bytes}
use Rattle.std.specs.declared.alloc.Global.{Global}

-- the value that is known, or else the one that is given
abbrev pub whole_or : Option (Option ℤ) → Option ℤ → Option ℤ
whole_or None given = given
whole_or (Some value) given = value

abbrev pub text_or : Option (String Global) → Option (List ℕ) → Option (List ℕ)
text_or None given = given
text_or (Some text) given = Some (chars (string_bytes text))
