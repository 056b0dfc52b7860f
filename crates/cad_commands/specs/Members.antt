-- Members of a JSON object (RFC 8259, section 4).
use Rattle.std.specs.Prelude.{◌≡◌, ℕ, List, [], ◌∷◌, Option, Some, None, if◌then◌else◌, bytes_eq}
use Rattle.std.specs.Option.{is_some, option_and_then}
use Rattle.serde_json.specs.Data.{Data, Members, no_members, member}
use Rattle.serde_json.specs.Find.{get_member, as_null}

-- a member that is null counts as missing
abbrev pub unless_null : Data → Option Data
unless_null d = if is_some (as_null d) then None else Some d

-- the member of this name, if it is there and not null
abbrev pub member_in : List ℕ → Members → Option Data
member_in name ms = option_and_then unless_null (get_member name ms)

-- the member's value says this one; if there is no member, there is no value
abbrev pub SaysAny : {X : Type 0} → (Data → X → Type 0) → Option Data → Option X → Type 0
SaysAny Says None None = Unit {0}
SaysAny Says None (Some x) = ⊥
SaysAny Says (Some d) None = ⊥
SaysAny Says (Some d) (Some x) = Says d x

-- a member that may be missing or null
abbrev pub MayHave : {X : Type 0} → (Data → X → Type 0) → List ℕ → Members → Option X → Type 0
MayHave Says name ms value = SaysAny Says (member_in name ms) value

-- a member that must be there and not null
abbrev pub Has : {X : Type 0} → (Data → X → Type 0) → List ℕ → Members → X → Type 0
Has Says name ms value = MayHave Says name ms (Some value)

-- the other members; an object has each name at most once
abbrev pub without : List ℕ → Members → Members
without name no_members = no_members
without name (member other d ms) = if bytes_eq name other then ms else member other d (without name ms)

-- the members of other names than these
abbrev pub without_all : List (List ℕ) → Members → Members
without_all [] ms = ms
without_all (name ∷ names) ms = without_all names (without name ms)

-- the object has only members of these names
abbrev pub AreOnly : List (List ℕ) → Members → Type 0
AreOnly names ms = without_all names ms ≡ no_members

-- the object has exactly one member that has none of these names
abbrev pub HasOneOther : List (List ℕ) → Members → List ℕ → Data → Type 0
HasOneOther names ms name d = without_all names ms ≡ member name d no_members
