-- Why a request is refused, as JSON, members in byte order of their names (own profile).
use Rattle.std.specs.Prelude.{ℕ, List, codes}
use Rattle.serde_json.specs.Data.{Data, number, unsigned, string, object, member, no_members}

-- a fault by its word
abbrev pub word_data : List ℕ → Data
word_data word = object (member (codes "fault") (string word) no_members)

-- the fault of a filter: its cause, and its place in the filter's text
abbrev pub filter_fault_data : List ℕ → ℕ → Data
filter_fault_data cause place =
    object (member (codes "cause") (string cause)
    (member (codes "fault") (string (codes "filter"))
    (member (codes "place") (number (unsigned place)) no_members)))
