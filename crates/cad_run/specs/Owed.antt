-- The page that a search which was begun owes.
use Rattle.std.specs.Prelude.{◌≡◌, ◌≤◌, ℕ, ℤ, ◌+◌, ◌-◌, nat_lt, Bool, List, ◌++◌, length, filter, take, map, Option, option_map}
use Rattle.cad_feature.specs.Features.{Item, identifier_of}
use Rattle.cad_run.specs.declared.search.Progress.{Progress}
use Rattle.cad_run.specs.declared.search.Progress.TheVariants.{Part, Whole}
use Rattle.cad_run.specs.declared.search.Search.{Search}
use Rattle.cad_run.specs.Pages.{examined_of}
use Rattle.cad_run.specs.Slices.{identifier, later, slice, is_more}
use Rattle.cad_run.specs.Steps.{AreAmong}

-- the identifiers of the rows of a page, whether more are left, and how many features were tested
pub record Owed : Type 0 where
  pub rows : List (ℤ × ℤ)
  pub more : Bool
  pub examined : ℕ

-- of these features: the rows found so far, and then as many as are still wanted
abbrev pub owed_by : (Item → Bool) → List (ℤ × ℤ) → ℕ → ℕ → List Item → Owed
owed_by passes found wanted examined xs = record {
  rows = found ++ map identifier_of (take wanted (filter passes xs));
  more = nat_lt wanted (length (filter passes xs));
  examined = examined + examined_of passes wanted xs;
}

-- the rows found so far
abbrev pub found_in : Search → List (ℤ × ℤ)
found_in search = map identifier search.found.items

-- what the search owes, if these features are left
abbrev pub owed : (Item → Bool) → Search → List Item → Owed
owed passes search xs = owed_by passes (found_in search) (search.limit - length search.found.items) search.examined xs

-- what the search has still to look through, of all these features
abbrev pub remaining : Search → List Item → List Item
remaining search all = later (option_map identifier search.after) all

-- what it owes of all these features
abbrev pub owes : (Item → Bool) → List Item → Search → Owed
owes passes all search = owed passes search (remaining search all)

-- the page itself, if the search is over
abbrev pub page_in : Search → Bool → Owed
page_in search more = record { rows = found_in search; more = more; examined = search.examined }

-- the page of the features that pass: the first after the named one, as many as are wanted
abbrev pub page_after : (Item → Bool) → Option (ℤ × ℤ) → ℕ → List Item → Owed
page_after passes last limit all = record {
  rows = map identifier_of (slice last limit (filter passes all));
  more = is_more last limit (filter passes all);
  examined = examined_of passes limit (later last all);
}

-- ---- what comes of a piece

-- what is left of any list of which the first search left this, is what the second one leaves
abbrev pub IsPlaced : Search → Search → List Item → List Item → Type 0
IsPlaced old new left rest = (all : List Item) → left ≡ remaining old all → rest ≡ remaining new all

-- of any features among which those ahead are: they still are, and by so many at least fewer remain
abbrev pub Advances : Search → Search → ℕ → List Item → List Item → Type 0
Advances old new count ahead rest =
    (all : List Item) → AreAmong ahead (remaining old all)
    → AreAmong rest (remaining new all) × (length (remaining new all) + count ≤ length (remaining old all))

abbrev pub IfPart : Progress → Type 0 → Type 0
IfPart Part P = P
IfPart (Whole more) P = Unit {0}

abbrev pub IfWhole : Progress → (Bool → Type 0) → Type 0
IfWhole Part P = Unit {0}
IfWhole (Whole more) P = P more

-- a piece owes what was owed, or is the page that was owed
abbrev pub Keeps : Owed → Progress → Owed → (Bool → Owed) → Type 0
Keeps was Part now page = now ≡ was
Keeps was (Whole more) now page = page more ≡ was
