-- Lines as they are listed.
use Rattle.std.specs.Prelude.{◌≡◌, ◌-◌, ℕ, pos, int_le, false, List, [], ◌∷◌, filter, take, drop}
use Rattle.std.specs.declared.cmp.Ordering.{Ordering}
use Rattle.std.specs.Ordering.{is_eq, int_eq, int_cmp, ordering_then}
use Rattle.sqlite_trees.specs.Tree.{IsAscending}
use Rattle.sqlite_keyed.specs.Lists.{sort_by}
use Rattle.sqlite_value.specs.declared.value.Value.TheVariants.{Int}
use Rattle.sqlite_value.specs.Order.{Row}
use Rattle.sqlite_typed.specs.Columns.{or_null}
use Rattle.cad_tables.specs.VersionRow.{VersionRow}

-- own profile: by object, and then by number
abbrev pub identifier_order : VersionRow → VersionRow → Ordering
identifier_order a b = ordering_then (int_cmp (pos a.object) (pos b.object)) (int_cmp (pos a.number) (pos b.number))

abbrev pub number_order : VersionRow → VersionRow → Ordering
number_order a b = int_cmp (pos a.number) (pos b.number)

-- SQLite, SELECT, section 4: if no two rows compare equal, ORDER BY leaves no choice
abbrev pub HaveNoTies : (VersionRow → VersionRow → Ordering) → List VersionRow → Type 0
HaveNoTies order = IsAscending (λ a b. is_eq (order a b) ≡ false)

-- own profile: the lines that were entered up to a revision
abbrev pub lines_at : ℕ → List VersionRow → List VersionRow
lines_at revision lines = filter (λ (line : VersionRow). int_le (pos line.entered) (pos revision)) lines

abbrev pub listing : ℕ → List VersionRow → List VersionRow
listing revision lines = sort_by identifier_order (lines_at revision lines)

-- own profile: the lines at the places behind one, up to another; the line that was entered first has place 1
abbrev pub lines_between : ℕ → ℕ → List VersionRow → List VersionRow
lines_between behind up_to lines = take (up_to - behind) (drop behind lines)

-- own profile: the lines of an object
abbrev pub lines_of_object : ℕ → List VersionRow → List VersionRow
lines_of_object object lines = filter (λ (line : VersionRow). int_eq (pos line.object) (pos object)) lines

abbrev pub history : ℕ → List VersionRow → List VersionRow
history object lines = sort_by number_order (lines_of_object object lines)

-- own profile: number, class, first day and last day
abbrev pub outline_of : VersionRow → Row
outline_of l = Int (pos l.number) ∷ Int (pos l.class) ∷ Int l.first ∷ or_null Int l.last ∷ []
