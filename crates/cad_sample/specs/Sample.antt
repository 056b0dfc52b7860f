-- The commands of the sample register (own profile).
use Rattle.std.specs.Prelude.{◌≡◌, ℕ, ◌+◌, ℤ, pos, false, List, [], ◌∷◌, map, Some, None, codes, encode_utf8_all}
use Rattle.jiff_core.specs.Calendar.{days_from_civil}
use Rattle.cad_versions.specs.declared.command.Command.{Command}
use Rattle.cad_sample.specs.Instructions.{Attributes, a_party, a_unit, a_parcel, a_right, a_restriction, Instruction, to_enter, to_amend, instruction_of}

-- the day of the calendar (ISO 8601-1:2019, 5.2.2)
abbrev pub date : ℕ → ℕ → ℕ → ℤ
date year month day = days_from_civil (pos year) month day

-- a corner, in whole millimetres
abbrev pub corner : ℕ → ℕ → ℤ × ℤ
corner x y = (pos x, pos y)

-- the square with sides of 20 metres whose left side is at this x, in millimetres
abbrev pub square_at : ℕ → List (ℤ × ℤ)
square_at x = corner x 0 ∷ corner (x + 20000) 0 ∷ corner (x + 20000) 20000 ∷ corner x 20000 ∷ []

-- texts are in UTF-8
abbrev pub ana : Attributes
ana = a_party (Some (encode_utf8_all (codes "Ana Straße"))) (codes "naturalPerson")

abbrev pub first_parcel : ℕ → Attributes
first_parcel area = a_parcel 10 (codes "A-1") (Some area) (Some (square_at 0 ∷ [])) None

abbrev pub second_parcel : Attributes
second_parcel = a_parcel 10 (codes "A-2") None (Some (square_at 20000 ∷ [])) None

abbrev pub third_parcel : Attributes
third_parcel = a_parcel 11 (codes "b-7") (Some 900) (Some ((corner 0 30000 ∷ corner 30000 30000 ∷ corner 0 60000 ∷ []) ∷ [])) None

abbrev pub fourth_parcel : Attributes
fourth_parcel = a_parcel 11 (codes "C%1") (Some 0) None None

abbrev pub ownership : Attributes
ownership = a_right 10 (Some 20) (codes "ownership") (Some (1, 2))

abbrev pub no_building : Attributes
no_building = a_restriction 11 None (codes "noBuilding") None (Some false)

-- two units, a party, four parcels of which the first is amended, a right and a restriction
abbrev pub sample_commands : List Instruction
sample_commands =
    to_enter 10 (date 2000 1 1) (a_unit (Some (codes "Mill")))
    ∷ to_enter 11 (date 2000 1 1) (a_unit None)
    ∷ to_enter 20 (date 2000 1 1) ana
    ∷ to_enter 1 (date 2001 1 1) (first_parcel 400)
    ∷ to_amend 1 (date 2010 1 1) (first_parcel 380)
    ∷ to_enter 2 (date 2005 6 1) second_parcel
    ∷ to_enter 3 (date 2003 1 1) third_parcel
    ∷ to_enter 4 (date 2003 1 1) fourth_parcel
    ∷ to_enter 30 (date 2005 1 1) ownership
    ∷ to_enter 31 (date 2006 1 1) no_building
    ∷ []

-- the commands with this content
abbrev pub AreSample : List Command → Type 0
AreSample commands = map instruction_of commands ≡ sample_commands
