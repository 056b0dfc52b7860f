-- What is done at the sockets of a network, in its order (own profile).
use Rattle.std.specs.Prelude.{◌≡◌, ⊤, ℕ, nat_eq, Bool, true, false, ◌||◌, List, [], ◌∷◌, ◌++◌, take, Option, None, Some, Result, Ok, Err, if◌then◌else◌}
use Rattle.std.specs.IoError.{error_kind}
use Rattle.std.specs.declared.io.Error.{Error}
use Rattle.std.specs.declared.io.ErrorKind.{ErrorKind}
use Rattle.std.specs.declared.io.ErrorKind.TheVariants.{WouldBlock}

-- a client's socket is taken, or the land office's. The network reports that the socket at a place may give or take something. A read of a
-- socket gives bytes, or none if its peer sends no more. A write to it takes bytes. A read or a write can't be done now, or fails. A socket
-- is let go.
pub data Deed : Type 0 where
  came : ℕ → Deed
  office_came : ℕ → Deed
  woke : ℕ → Deed
  gave : ℕ → List ℕ → Deed
  took : ℕ → List ℕ → Deed
  blocked : ℕ → Deed
  failed : ℕ → Deed
  left : ℕ → Deed

-- what was done before, and then these, if that is known. Once the history is unknown, for example since there is no memory to keep it, it
-- stays unknown.
abbrev pub Adds : Option (List Deed) → Option (List Deed) → List Deed → Type 0
Adds before None deeds = ⊤
Adds None (Some after) deeds = ⊥
Adds (Some before) (Some after) deeds = after ≡ before ++ deeds

-- what was done before, and then such deeds
abbrev pub AddsSome : Option (List Deed) → Option (List Deed) → (List Deed → Type 0) → Type 0
AddsSome before after P = (deeds : List Deed) × Adds before after deeds × P deeds

-- the read or the write can't be done now, and may be done later
abbrev pub is_later : ErrorKind → Bool
is_later WouldBlock = true
is_later _ = false

abbrev pub is_blocked : Error → Bool
is_blocked error = is_later (error_kind error)

-- what each call of a network does
abbrev pub accepting : {S E : Type 0} → (S → ℕ) → Result S E → List Deed
accepting name (Ok socket) = came (name socket) ∷ []
accepting name (Err error) = []

abbrev pub accepting_office : {S E : Type 0} → (S → ℕ) → Result S E → List Deed
accepting_office name (Ok socket) = office_came (name socket) ∷ []
accepting_office name (Err error) = []

abbrev pub failing : ℕ → Error → List Deed
failing s error = (if is_blocked error then blocked s else failed s) ∷ []

abbrev pub reading : ℕ → List ℕ → Result ℕ Error → List Deed
reading s buffer (Ok count) = gave s (take count buffer) ∷ []
reading s buffer (Err error) = failing s error

abbrev pub writing : ℕ → List ℕ → Result ℕ Error → List Deed
writing s bytes (Ok count) = took s (take count bytes) ∷ []
writing s bytes (Err error) = failing s error

abbrev pub waking : Option ℕ → List Deed
waking None = []
waking (Some place) = woke place ∷ []

-- the bytes that reads of socket s gave
abbrev pub given_by : ℕ → List Deed → List ℕ
given_by s [] = []
given_by s (gave d bytes ∷ later) = if nat_eq d s then bytes ++ given_by s later else given_by s later
given_by s (other ∷ later) = given_by s later

-- the bytes that writes to socket s took
abbrev pub taken_by : ℕ → List Deed → List ℕ
taken_by s [] = []
taken_by s (took d bytes ∷ later) = if nat_eq d s then bytes ++ taken_by s later else taken_by s later
taken_by s (other ∷ later) = taken_by s later

-- one of these deeds takes socket s
abbrev pub comes : ℕ → List Deed → Bool
comes s [] = false
comes s (came d ∷ later) = nat_eq d s || comes s later
comes s (office_came d ∷ later) = nat_eq d s || comes s later
comes s (other ∷ later) = comes s later

-- no byte is read or written at socket s
abbrev pub IsQuiet : ℕ → List Deed → Type 0
IsQuiet s deeds = (given_by s deeds ≡ []) × (taken_by s deeds ≡ [])
