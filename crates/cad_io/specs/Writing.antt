-- What a writer takes of the bytes that it is given (own profile).
use Rattle.std.specs.Prelude.{◌≡◌, ℕ, ◌<◌, List, take, length, Option, Result, Ok, Err}
use Rattle.std.specs.Io.KnownBytes.{Appends}
use Rattle.cad_io.specs.declared.writing.WriteFailed.{WriteFailed}

-- the first list is a front of the second, maybe all of it
abbrev pub IsFront : List ℕ → List ℕ → Type 0
IsFront front whole = (n : ℕ) × (front ≡ take n whole)

-- the first list is the second, cut short
abbrev pub IsCutShort : List ℕ → List ℕ → Type 0
IsCutShort front whole = (n : ℕ) × (n < length whole) × (front ≡ take n whole)

-- a part of the bytes is written, and not all
abbrev pub WritesCut : Option (List ℕ) → Option (List ℕ) → List ℕ → Type 0
WritesCut old new bytes = (front : List ℕ) × Appends old new front × IsCutShort front bytes

-- what a writer took of these bytes: all, or a part of them if it failed
abbrev pub IsWritten : Option (List ℕ) → Option (List ℕ) → List ℕ → Result (Unit {0}) WriteFailed → Type 0
IsWritten old new bytes (Ok done) = Appends old new bytes
IsWritten old new bytes (Err failed) = WritesCut old new bytes
