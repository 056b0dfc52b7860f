-- Collections and their names in paths (OGC 17-069r4, 7.13; the names: own profile).
use Rattle.std.specs.Prelude.{◌≡◌, ℕ, List, [], ◌∷◌, find, codes, Option, Some}
use Rattle.std.specs.Str.{bytes_eq}
use Rattle.cad_schema.specs.declared.collection.Collection.{Collection}
use Rattle.cad_schema.specs.declared.collection.Collection.TheVariants.{Parcels, Rights, Restrictions, Units, Parties, Responsibilities}

-- the collections, in the order in which they are listed; `laws` says that each is
abbrev pub collections : List Collection
collections = Parcels ∷ Rights ∷ Restrictions ∷ Units ∷ Parties ∷ Responsibilities ∷ []

abbrev pub name_of : Collection → List ℕ
name_of Parcels = codes "parcels"
name_of Rights = codes "rights"
name_of Restrictions = codes "restrictions"
name_of Units = codes "units"
name_of Parties = codes "parties"
name_of Responsibilities = codes "responsibilities"

-- the collection of this name, if there is one
abbrev pub collection_named : List ℕ → Option Collection
collection_named name = find (λ c. bytes_eq name (name_of c)) collections

-- ---- laws

-- each collection is read by its name
abbrev pub NamesAreReadBack : Type 0
NamesAreReadBack = (c : Collection) → collection_named (name_of c) ≡ Some c

-- and a collection that is read has the name
abbrev pub WhatIsReadHasTheName : Type 0
WhatIsReadHasTheName = (name : List ℕ) (c : Collection) → collection_named name ≡ Some c → name ≡ name_of c
