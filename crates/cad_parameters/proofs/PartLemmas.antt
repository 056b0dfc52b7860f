-- Where a text is parted.
use Rattle.std.proofs.Common.{◌≡◌, ℕ, ◌+◌, ◌-◌, ◌<◌, List, length, take, drop, true, false, Some, None, refl, ap, arith}
use Rattle.std.proofs.lemmas.Bool.Decides.{nat_tests}
use Rattle.std.proofs.lemmas.List.{take_rest}
use Rattle.std.specs.Prelude.{nat_lt}
use Rattle.std.specs.List.{position_or_len}
use Rattle.cad_parameters.specs.Parts.{is_byte, parted}

-- a text with such a byte at its first place
pub parted_at : (byte : ℕ) (text : List ℕ) (place : ℕ) → place < length text → position_or_len (is_byte byte) text ≡ place
    → Some (take place text, take (length text - (place + 1)) (drop (place + 1) text)) ≡ parted byte text
parted_at byte text place within at =
    let below : nat_lt (position_or_len (is_byte byte) text) (length text) ≡ true = grind (arith, nat_tests) in
    rw (below, at) (ap (λ (rest : List ℕ). Some (take place text, rest)) (take_rest text (place + 1)))

-- a text without one
pub parted_none : (byte : ℕ) (text : List ℕ) → position_or_len (is_byte byte) text ≡ length text → None ≡ parted byte text
parted_none byte text at =
    let above : nat_lt (position_or_len (is_byte byte) text) (length text) ≡ false = grind (arith, nat_tests) in
    rw above refl
