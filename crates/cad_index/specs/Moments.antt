-- The features of a list that have their values at a revision (SQL:2011, 4.15.7: system-versioned tables; revisions: own profile).
use Rattle.std.specs.Prelude.{◌≡◌, ℕ, Bool, List, [], filter}
use Rattle.cad_feature.specs.Features.{Item}
use Rattle.cad_feature.specs.Periods.{is_within}
use Rattle.cad_index.specs.declared.periods.Shown.{Shown}
use Rattle.cad_index.specs.declared.periods.Shown.TheVariants.{Nothing, Part, Everything}

-- the row has its values at the revision
abbrev pub is_shown_at : ℕ → Item → Bool
is_shown_at revision x = is_within x.period revision

abbrev pub rows_at : ℕ → List Item → List Item
rows_at revision xs = filter (is_shown_at revision) xs

-- none of the rows has its values at the revision, or some have and others have not, or all have
abbrev pub AreShown : Shown → ℕ → List Item → Type 0
AreShown Nothing revision xs = rows_at revision xs ≡ []
AreShown Part revision xs = ¬ (rows_at revision xs ≡ []) × ¬ (rows_at revision xs ≡ xs)
AreShown Everything revision xs = rows_at revision xs ≡ xs
