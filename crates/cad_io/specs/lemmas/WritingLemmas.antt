-- Writes one after the other, and what they leave of the bytes that were given.
use Rattle.std.proofs.Common.{ℕ, ◌+◌, List, Option, Result, Ok, Err, length, take, drop, sym, subst, arith, take_all}
use Rattle.std.proofs.Math.Seq.{take-add}
use Rattle.std.proofs.KnownBytes.{Appends-trans}
use Rattle.std.specs.Io.KnownBytes.{Appends}
use Rattle.cad_io.specs.declared.writing.WriteFailed.{WriteFailed}
use Rattle.cad_io.specs.Writing.{IsFront, IsWritten}

-- one more write of what is left
pub appends_more : (a b c : Option (List ℕ)) (bytes : List ℕ) (done count : ℕ) → Appends a b (take done bytes) → Appends b c (take count (drop done bytes)) → Appends a c (take (done + count) bytes)
appends_more a b c bytes done count x y =
    subst (λ (w : List ℕ). Appends a c w) (sym (take-add done count bytes)) (Appends-trans a b c (take done bytes) (take count (drop done bytes)) x y)

-- what a writer took is a front of what it was given
pub written_front : (old new : Option (List ℕ)) (bytes : List ℕ) (result : Result (Unit {0}) WriteFailed) → IsWritten old new bytes result
    → (written : List ℕ) × Appends old new written × IsFront written bytes
written_front old new bytes (Ok done) w = (bytes, w, (length bytes, sym (take_all (length bytes) bytes (omega arith))))
written_front old new bytes (Err failed) w = (w.0, w.1, (w.2.0, w.2.2))
