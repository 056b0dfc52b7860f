-- The order of members in JSON.
use Rattle.std.specs.Prelude.{◌≡◌, ℕ, List, ⊤}
use Rattle.std.specs.Ordering.{nat_cmp}
use Rattle.std.specs.declared.cmp.Ordering.TheVariants.{Less}
use Rattle.std.specs.Cmp.Lexicographic.{slice_cmp}
use Rattle.serde_json.specs.Data.{Data, null, boolean, number, string, array, object, Items, no_items, item, Members, no_members, member}
use Rattle.cad_feature.specs.Features.{Item}
use Rattle.cad_schema.specs.declared.collection.Collection.{Collection}
use Rattle.cad_json.specs.Tree.{features_data}

-- the name comes before that of the first member, in byte order (own profile)
abbrev pub IsBeforeFirst : List ℕ → Members → Type 0
IsBeforeFirst name no_members = ⊤
IsBeforeFirst name (member next d ms) = slice_cmp nat_cmp name next ≡ Less

-- in each object of the tree the members are in byte order of their names, no name twice (RFC 8259, section 4: objects; order: own profile)
abbrev mutual
  pub IsInOrder : Data → Type 0
  IsInOrder null = ⊤
  IsInOrder (boolean b) = ⊤
  IsInOrder (number n) = ⊤
  IsInOrder (string s) = ⊤
  IsInOrder (array ds) = AreItemsInOrder ds
  IsInOrder (object ms) = AreMembersInOrder ms

  pub AreItemsInOrder : Items → Type 0
  AreItemsInOrder no_items = ⊤
  AreItemsInOrder (item d ds) = IsInOrder d × AreItemsInOrder ds

  pub AreMembersInOrder : Members → Type 0
  AreMembersInOrder no_members = ⊤
  AreMembersInOrder (member name d ms) = IsBeforeFirst name ms × IsInOrder d × AreMembersInOrder ms

-- every list of features is in order (own profile)
abbrev pub FeaturesAreInOrder : Type 0
FeaturesAreInOrder = (collection : Collection) (xs : List Item) → IsInOrder (features_data collection xs)
