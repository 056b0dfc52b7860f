-- The conditions that a normal form takes from its filter (own profile).
use Rattle.std.specs.Prelude.{◌≡◌, Bool, true, false, List}
use Rattle.std.specs.List.{list_all}
use Rattle.cql_types.specs.declared.filter.Filter.{Filter}
use Rattle.cql_types.specs.declared.filter.Filter.TheOpen.{Filter-F}
use Rattle.cql_types.specs.declared.filter.Filter.TheFolds.{fold-Filter}
use Rattle.cql_rewrite.specs.declared.form.Normal.{Normal}
use Rattle.cql_rewrite.specs.declared.form.Normal.TheOpen.{Normal-F}
use Rattle.cql_rewrite.specs.declared.form.Normal.TheFolds.{fold-Normal}

-- a condition of the language that does not consist of others, and is neither TRUE nor FALSE
abbrev pub atom_step : Filter-F Bool → Bool
atom_step (Filter-F.Truth b) = false
atom_step (Filter-F.Not f) = false
atom_step (Filter-F.And fs) = false
atom_step (Filter-F.Or fs) = false
atom_step f = true

abbrev pub is_atom : Filter → Bool
is_atom = fold-Filter Bool atom_step

abbrev pub IsAtom : Filter → Type 0
IsAtom f = is_atom f ≡ true

-- whether the conditions that a form takes from its filter are atoms, with the answer for each part in the part's place
abbrev pub plain_step : Normal-F Bool → Bool
plain_step (Normal-F.Constant b) = true
plain_step (Normal-F.Range r) = true
plain_step (Normal-F.Like pattern r) = true
plain_step (Normal-F.Atom f side) = is_atom f.now
plain_step (Normal-F.Owned f side) = is_atom f
plain_step (Normal-F.Folded text) = true
plain_step (Normal-F.LikeFolded p) = true
plain_step (Normal-F.Near f property shape) = is_atom f.now
plain_step (Normal-F.And parts) = list_all (λ b. b) parts.items
plain_step (Normal-F.Or parts) = list_all (λ b. b) parts.items

abbrev pub has_plain_atoms : Normal → Bool
has_plain_atoms = fold-Normal Bool plain_step

abbrev pub HasPlainAtoms : Normal → Type 0
HasPlainAtoms n = has_plain_atoms n ≡ true

-- ---- words of the contracts

abbrev pub HavePlainAtoms : List Normal → Type 0
HavePlainAtoms ns = list_all has_plain_atoms ns ≡ true

-- if the parts have plain atoms, so have they with one more part that has plain atoms
abbrev pub KeepsAtoms : List Normal → List Normal → Normal → Type 0
KeepsAtoms old new part = HavePlainAtoms old → HasPlainAtoms part → HavePlainAtoms new
