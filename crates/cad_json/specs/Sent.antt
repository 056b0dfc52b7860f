-- What is sent to a writer of JSON (own profile).
use Rattle.std.specs.Prelude.{◌<◌, ◌^◌, pos, negsuc, ⊤}
use Rattle.serde.specs.Event.{Log}
use Rattle.serde_json.specs.Data.{Num, unsigned, negative, float, Data, null, boolean, number, string, array, object, Items, no_items, item, Members, no_members, member}
use Rattle.serde_json.specs.Events.{SendsValue}

-- a whole number of 64 bits, below zero or from zero on
abbrev pub IsWhole : Num → Type 0
IsWhole (unsigned n) = n < 2 ^ 64
IsWhole (negative (pos n)) = ⊥
IsWhole (negative (negsuc n)) = n < 2 ^ 63
IsWhole (float x) = ⊥

-- each number in the tree is such a number
abbrev mutual
  pub IsOfWholes : Data → Type 0
  IsOfWholes null = ⊤
  IsOfWholes (boolean b) = ⊤
  IsOfWholes (number n) = IsWhole n
  IsOfWholes (string s) = ⊤
  IsOfWholes (array ds) = AreItemsOfWholes ds
  IsOfWholes (object ms) = AreMembersOfWholes ms

  pub AreItemsOfWholes : Items → Type 0
  AreItemsOfWholes no_items = ⊤
  AreItemsOfWholes (item d ds) = IsOfWholes d × AreItemsOfWholes ds

  pub AreMembersOfWholes : Members → Type 0
  AreMembersOfWholes no_members = ⊤
  AreMembersOfWholes (member name d ms) = IsOfWholes d × AreMembersOfWholes ms

-- the events of the tree were sent, and its numbers are whole ones
abbrev pub Sends : Data → Log → Log → Type 0
Sends d old new = SendsValue d old new × IsOfWholes d
