-- Versions that are found by their objects, and what of them a revision leaves as it is (own profile).
use Rattle.std.specs.Prelude.{◌≡◌, ℕ, suc, ◌<◌, ◌≤◌, pos, int_le, Bool, true, ◌&&◌, List, filter, find, Option, option_and_then}
use Rattle.std.specs.List.{AllByRecursion}
use Rattle.cad_day.specs.declared.day.Day.{Day}
use Rattle.cad_versions.specs.declared.object_id.ObjectId.{ObjectId}
use Rattle.cad_versions.specs.declared.words.Words.{Words}
use Rattle.cad_versions.specs.AsOf.{versions_at}
use Rattle.cad_versions.specs.BodyParts.{name_in}
use Rattle.cad_versions.specs.Entries.{Entry, version_in, seen_at}
use Rattle.cad_versions.specs.Versions.{is_of}
use Rattle.cad_schema.specs.declared.collection.Collection.{Collection}
use Rattle.cad_feature.specs.Features.{Item}
use Rattle.cad_feature.specs.FeaturesThen.{feature_at}
use Rattle.cad_feature.specs.Flatten.{joined_name}
use Rattle.cad_feature.specs.Lifespans.{holds_on, is_up_to}
use Rattle.cad_feature.specs.declared.period.Period.{Period}
use Rattle.cad_feature.specs.inner.Stretches.{number_in}

abbrev pub number_of_entry : Entry → ℕ
number_of_entry entry = number_in (version_in entry)

abbrev pub is_entry_of : ObjectId → Entry → Bool
is_entry_of object entry = is_of object (version_in entry)

abbrev pub own_entries : ObjectId → List Entry → List Entry
own_entries object entries = filter (is_entry_of object) entries

-- the revision sees the version, and it holds the day then
abbrev pub is_held_at : ℕ → Day → Entry → Bool
is_held_at revision day entry = int_le (pos entry.entered) (pos revision) && holds_on day (seen_at revision entry)

-- the name in the first of them that is of the object and holds the day then
abbrev pub name_of_entry : Entry → Option Words
name_of_entry entry = name_in (version_in entry).body

abbrev pub name_held : List Entry → ObjectId → Day → ℕ → Option Words
name_held entries object day revision = option_and_then name_of_entry (find (λ entry. is_entry_of object entry && is_held_at revision day entry) entries)

-- the next revision makes no difference to whether it lasts to the day
abbrev pub LastsAlike : ℕ → Day → Entry → Type 0
LastsAlike n day entry = is_up_to (seen_at (suc n) entry).last day ≡ is_up_to (seen_at n entry).last day

-- no revision after the first one, up to the last one, makes a difference to it
abbrev pub IsHeldAlike : ℕ → ℕ → Day → Entry → Type 0
IsHeldAlike from upto day entry = (n : ℕ) → from ≤ n → n < upto → is_held_at (suc n) day entry ≡ is_held_at n day entry

abbrev pub AreHeldAlike : ℕ → ℕ → ObjectId → Day → List Entry → Type 0
AreHeldAlike from upto object day entries = AllByRecursion (λ entry. is_entry_of object entry ≡ true → IsHeldAlike from upto day entry) entries

abbrev pub NameStays : ℕ → ℕ → List Entry → Day → Option ObjectId → Type 0
NameStays from upto entries day named = (n : ℕ) → from ≤ n → n < upto → joined_name (versions_at (suc n) entries) day named ≡ joined_name (versions_at n entries) day named

abbrev pub FeatureStays : ℕ → ℕ → List Entry → Entry → Type 0
FeatureStays from upto entries entry = (collection : Collection) (n : ℕ) → from ≤ n → n < upto → feature_at entries collection entry (suc n) ≡ feature_at entries collection entry n

-- the version of the entry with the values of the revision at which the period starts
abbrev pub row_from : List Entry → Collection → Entry → Period → Item
row_from entries collection entry period = record { object = (version_in entry).object; number = (version_in entry).number; values = (feature_at entries collection entry period.start).values; period = period }
