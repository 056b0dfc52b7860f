-- A row of the table `version`.
use Rattle.std.specs.Prelude.{ℕ, ℤ, pos, List, [], ◌∷◌, Option}
use Rattle.sqlite_value.specs.declared.value.Value.TheVariants.{Int, Text, Blob}
use Rattle.sqlite_value.specs.Order.{Row}
use Rattle.sqlite_typed.specs.Columns.{or_null}

-- own profile: one version of an object (ISO 19152, VersionedObject), with the revision that entered it and the one that closed it; a field
-- that the object's class does not have is absent
pub record VersionRow : Type 0 where
  pub object : ℕ
  pub number : ℕ
  pub class : ℕ
  pub first : ℤ
  pub last : Option ℤ
  pub entered : ℕ
  pub closed : Option ℕ
  pub name : Option (List ℕ)
  pub code : Option (List ℕ)
  pub label : Option (List ℕ)
  pub area : Option ℕ
  pub unit : Option ℕ
  pub party : Option ℕ
  pub share_num : Option ℕ
  pub share_den : Option ℕ
  pub required : Option ℕ
  pub spot_x : Option ℤ
  pub spot_y : Option ℤ
  pub shape : Option (List ℕ)

-- the nineteen cells of the row, in the order of the columns (SQLite, Datatypes, section 2: storage classes)
abbrev pub cells_of : VersionRow → Row
cells_of l =
    Int (pos l.object) ∷ Int (pos l.number) ∷ Int (pos l.class) ∷ Int l.first ∷ or_null Int l.last
    ∷ Int (pos l.entered) ∷ or_null (λ n. Int (pos n)) l.closed
    ∷ or_null Text l.name ∷ or_null Text l.code ∷ or_null Text l.label
    ∷ or_null (λ n. Int (pos n)) l.area ∷ or_null (λ n. Int (pos n)) l.unit ∷ or_null (λ n. Int (pos n)) l.party
    ∷ or_null (λ n. Int (pos n)) l.share_num ∷ or_null (λ n. Int (pos n)) l.share_den ∷ or_null (λ n. Int (pos n)) l.required
    ∷ or_null Int l.spot_x ∷ or_null Int l.spot_y ∷ or_null Blob l.shape ∷ []
