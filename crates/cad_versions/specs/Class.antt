-- The classes of the register's objects (ISO 19152:2012, LA_Party, LA_BAUnit, LA_SpatialUnit, LA_Right, LA_Restriction, LA_Responsibility).
use Rattle.std.specs.Prelude.{ℕ, ℤ, pos, List, [], ◌∷◌, codes, Contains, Option, Some, None, if◌then◌else◌}
use Rattle.std.specs.Ordering.{int_eq}
use Rattle.cad_versions.specs.declared.body.Body.{Body}
use Rattle.cad_versions.specs.declared.body.Body.TheVariants as body
use Rattle.cad_versions.specs.declared.body.Class.{Class}
use Rattle.cad_versions.specs.declared.body.Class.TheVariants as class

abbrev pub class_of : Body → Class
class_of (body.Party name code) = class.Party
class_of (body.Unit name) = class.Unit
class_of (body.Parcel unit label area shape spot) = class.Parcel
class_of (body.Right unit party code share) = class.Right
class_of (body.Restriction unit party code share required) = class.Restriction
class_of (body.Responsibility unit party code share) = class.Responsibility

-- the classes, in the order of the collections that show their versions; `laws` says that each is
abbrev pub classes : List Class
classes = class.Parcel ∷ class.Right ∷ class.Restriction ∷ class.Unit ∷ class.Party ∷ class.Responsibility ∷ []

-- the name of a class in commands and counts (own profile)
abbrev pub class_name : Class → List ℕ
class_name class.Party = codes "party"
class_name class.Unit = codes "unit"
class_name class.Parcel = codes "parcel"
class_name class.Right = codes "right"
class_name class.Restriction = codes "restriction"
class_name class.Responsibility = codes "responsibility"

-- the attributes that a body of each class may have (ISO 19152:2012, attributes of the classes); a shape is said by its outline and its holes
abbrev pub class_attributes : Class → List (List ℕ)
class_attributes class.Party = codes "name" ∷ codes "code" ∷ []
class_attributes class.Unit = codes "name" ∷ []
class_attributes class.Parcel = codes "unit" ∷ codes "label" ∷ codes "area" ∷ codes "shape" ∷ codes "holes" ∷ codes "spot" ∷ []
class_attributes class.Right = codes "unit" ∷ codes "party" ∷ codes "code" ∷ codes "share" ∷ []
class_attributes class.Restriction = codes "unit" ∷ codes "party" ∷ codes "code" ∷ codes "share" ∷ codes "required" ∷ []
class_attributes class.Responsibility = codes "unit" ∷ codes "party" ∷ codes "code" ∷ codes "share" ∷ []

-- the number of a class in the stored table (own profile)
abbrev pub class_number : Class → ℕ
class_number class.Party = 1
class_number class.Unit = 2
class_number class.Parcel = 3
class_number class.Right = 4
class_number class.Restriction = 5
class_number class.Responsibility = 6

abbrev pub is_number_of : ℤ → Class → Option Class → Option Class
is_number_of number class others = if int_eq number (pos (class_number class)) then Some class else others

abbrev pub class_numbered : ℤ → Option Class
class_numbered number =
    is_number_of number class.Party (is_number_of number class.Unit (is_number_of number class.Parcel
    (is_number_of number class.Right (is_number_of number class.Restriction (is_number_of number class.Responsibility None)))))

-- ---- law

abbrev pub EachClassIsListed : Type 0
EachClassIsListed = (class : Class) → Contains classes class
