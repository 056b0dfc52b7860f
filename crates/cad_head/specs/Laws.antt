-- What the definitions of requests say together.
use Rattle.std.specs.Prelude.{◌≡◌, ◌≢◌, ℕ, true, List, All}
use Rattle.std.specs.List.{join_with_byte}
use Rattle.cad_head.specs.Request.{Request, members, closes_connection}

-- no member of a field's value contains a comma
abbrev pub MembersHoldNoComma : Type 0
MembersHoldNoComma = (value : List ℕ) → All (λ member. All (λ b. b ≢ 44) member) (members value)

-- the members, joined by commas, are the value
abbrev pub MembersMakeTheValue : Type 0
MembersMakeTheValue = (value : List ℕ) → join_with_byte 44 (members value) ≡ value

-- HTTP/1.0 closes the connection, for any fields
abbrev pub OldVersionsClose : Type 0
OldVersionsClose = (r : Request) → r.minor ≡ 0 → closes_connection r ≡ true
