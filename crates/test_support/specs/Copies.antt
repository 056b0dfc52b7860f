-- How often a writer got a text (own profile).
use Rattle.std.specs.Prelude.{◌≡◌, ℕ, zero, suc, false, List, [], ◌++◌, take}
use Rattle.test_support.specs.declared.copies.Copies.{Copies}

-- a text so many times, one copy after the other
abbrev pub repeated : ℕ → List ℕ → List ℕ
repeated zero text = []
repeated (suc n) text = repeated n text ++ text

-- it got these bytes, unless it got others than those of copies
abbrev pub HasGot : Copies → List ℕ → Type 0
HasGot c bytes = c.has_others ≡ false → bytes ≡ repeated c.count c.text.now ++ take c.at c.text.now

-- it got copies alone, and the last one whole
pub record IsAtAnEnd (c : Copies) : Type 0 where
  pub copies : c.has_others ≡ false
  pub whole : c.at ≡ 0
