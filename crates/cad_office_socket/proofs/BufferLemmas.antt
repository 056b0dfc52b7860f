-- Bytes in which no line ends, and a byte more.
use Rattle.std.proofs.Common.{◌≡◌, ℕ, ◌+◌, ◌<◌, List, [], ◌∷◌, ◌++◌, take, length, get_or, arith}
use Rattle.std.proofs.lemmas.Grind.{common_steps}
use Rattle.std.proofs.lemmas.List.{take_more}
use Rattle.cad_office_socket.specs.Buffering.{IsOfOneLine}

one_line_push : (xs : List ℕ) (byte : ℕ) → IsOfOneLine xs → (byte ≡ 10 → ⊥) → IsOfOneLine (xs ++ byte ∷ [])
one_line_push xs byte h other = grind (arith, common_steps)

pub one_line_more : (at : ℕ) (bytes : List ℕ) → at < length bytes → IsOfOneLine (take at bytes) → (get_or bytes at 0 ≡ 10 → ⊥) → IsOfOneLine (take (at + 1) bytes)
one_line_more at bytes within h other = rw (take_more bytes at 0 within) (one_line_push (take at bytes) (get_or bytes at 0) h other)
