-- The highest number of an object, over commands and over what is stored.
use Rattle.std.proofs.Common.{◌≡◌, ◌∙◌, ℕ, max, Bool, true, false, if◌then◌else◌, List, [], ◌∷◌, ◌++◌, length, map, take, Option, None, Some, IfSome, refl, sym, ap, ap₂, arith}
use Rattle.std.proofs.Math.Seq.{take-length}
use Rattle.std.specs.declared.cmp.Ordering.{Ordering}
use Rattle.std.specs.Ordering.{is_gt}
use Rattle.cad_day.specs.declared.day.Day.{Day}
use Rattle.cad_day.specs.DayBefore.{day_before}
use Rattle.cad_versions.specs.declared.object_id.ObjectId.{ObjectId}
use Rattle.cad_versions.specs.declared.body.Body.{Body}
use Rattle.cad_versions.specs.declared.command.Command.{Command}
use Rattle.cad_versions.specs.declared.command.Command.TheVariants.{Enter, Amend, Retire}
use Rattle.cad_versions.specs.Objects.{object_number}
use Rattle.cad_versions.specs.VersionedObject.{VersionedObject}
use Rattle.cad_versions.specs.Versions.{begun, closed_on, closed_if_open, is_open_of, next_number, versions, versions_after}
use Rattle.cad_versions.specs.Entries.{Entry, version_in, entries_of}
use Rattle.cad_versions.specs.AsOf.{all_entries, as_of}
use Rattle.cad_versions.specs.Identifiers.{by_identifier}
use Rattle.cad_versions.specs.Sorting.{insert_sorted, sort_by}
use Rattle.cad_versions.specs.lemmas.EntryLemmas.{versions_of_entries}
use Rattle.cad_versions.specs.lemmas.ListLemmas.{sort_by-map}
use Rattle.cad_stream.specs.Summaries.{highest_object}
use Rattle.cad_server.specs.declared.snapshot_cache.SnapshotCache.{SnapshotCache}
use Rattle.cad_server.specs.Keeping.{KeepsOf, KnowsHighest}

turned : (a b c : ℕ) → max a (max b c) ≡ max b (max a c)
turned a b c = omega arith

highest_pushed : (vs : List VersionedObject) (v : VersionedObject) → highest_object (vs ++ v ∷ []) ≡ max (object_number v.object) (highest_object vs)
highest_pushed [] v = refl
highest_pushed (w ∷ vs) v = ap (max (object_number w.object)) (highest_pushed vs v) ∙ turned (object_number w.object) (object_number v.object) (highest_object vs)

-- ---- in another order

highest_inserted : (cmp : VersionedObject → VersionedObject → Ordering) (v : VersionedObject) (vs : List VersionedObject) → highest_object (insert_sorted cmp v vs) ≡ max (object_number v.object) (highest_object vs)
highest_inserted cmp v [] = refl
highest_inserted cmp v (w ∷ vs) = go (is_gt (cmp v w)) (highest_inserted cmp v vs)
  where
    go : (b : Bool) → highest_object (insert_sorted cmp v vs) ≡ max (object_number v.object) (highest_object vs)
        → highest_object (if b then w ∷ insert_sorted cmp v vs else v ∷ w ∷ vs) ≡ max (object_number v.object) (highest_object (w ∷ vs))
    go true later = ap (max (object_number w.object)) later ∙ turned (object_number w.object) (object_number v.object) (highest_object vs)
    go false later = refl

highest_sorted : (cmp : VersionedObject → VersionedObject → Ordering) (vs : List VersionedObject) → highest_object (sort_by cmp vs) ≡ highest_object vs
highest_sorted cmp [] = refl
highest_sorted cmp (v ∷ vs) = highest_inserted cmp v (sort_by cmp vs) ∙ ap (max (object_number v.object)) (highest_sorted cmp vs)

-- ---- after a command

closed_same : (object : ObjectId) (day : Day) (v : VersionedObject) → (closed_if_open object day v).object ≡ v.object
closed_same object day v = go (is_open_of object v)
  where
    go : (b : Bool) → (if b then closed_on day v else v).object ≡ v.object
    go true = refl
    go false = refl

highest_closed : (object : ObjectId) (day : Day) (vs : List VersionedObject) → highest_object (map (closed_if_open object day) vs) ≡ highest_object vs
highest_closed object day [] = refl
highest_closed object day (v ∷ vs) = ap₂ max (ap object_number (closed_same object day v)) (highest_closed object day vs)

pub entered_highest : (object : ObjectId) (first : Day) (body : Body) (vs : List VersionedObject) (highest : ℕ) → highest ≡ highest_object vs → max (object_number object) highest ≡ highest_object (versions_after vs (Enter object first body))
entered_highest object first body vs highest is = ap (max (object_number object)) is ∙ sym (highest_pushed vs (begun object 1 first body))

pub amended_highest : (object : ObjectId) (first : Day) (body : Body) (vs : List VersionedObject) (highest : ℕ) → highest ≡ highest_object vs → max (object_number object) highest ≡ highest_object (versions_after vs (Amend object first body))
amended_highest object first body vs highest is =
    ap (max (object_number object)) (is ∙ sym (highest_closed object (day_before first) vs))
    ∙ sym (highest_pushed (map (closed_if_open object (day_before first)) vs) (begun object (next_number object vs) first body))

pub retired_highest : (object : ObjectId) (last : Day) (vs : List VersionedObject) (highest : ℕ) → highest ≡ highest_object vs → highest ≡ highest_object (versions_after vs (Retire object last))
retired_highest object last vs highest is = is ∙ sym (highest_closed object last vs)

-- ---- of what is stored

pub highest_entry : (es : List Entry) (e : Entry) → highest_object (map version_in (es ++ e ∷ [])) ≡ max (object_number e.version.object) (highest_object (map version_in es))
highest_entry [] e = refl
highest_entry (f ∷ es) e = ap (max (object_number f.version.object)) (highest_entry es e) ∙ turned (object_number f.version.object) (object_number e.version.object) (highest_object (map version_in es))

pub highest_stored : (commands : List Command) → highest_object (map version_in (all_entries commands)) ≡ highest_object (versions commands)
highest_stored commands =
    ap highest_object (sym (sort_by-map by_identifier version_in (entries_of commands)))
    ∙ highest_sorted by_identifier (map version_in (entries_of commands))
    ∙ ap highest_object (versions_of_entries commands)

pub highest_listed : (commands : List Command) → highest_object (as_of (length commands) commands) ≡ highest_object (versions commands)
highest_listed commands =
    highest_sorted by_identifier (versions (take (length commands) commands)) ∙ ap (λ cs. highest_object (versions cs)) (take-length commands)

-- ---- as far as it is known

pub knows_listed : (kept : SnapshotCache) (commands : List Command) → KeepsOf commands kept → IfSome kept.totals.highest_object (λ highest. highest ≡ highest_object (as_of (length commands) commands))
knows_listed kept commands keeps = go kept.totals.highest_object keeps.totals.highest
  where
    go : (known : Option ℕ) → KnowsHighest commands known → IfSome known (λ highest. highest ≡ highest_object (as_of (length commands) commands))
    go None knows = tt
    go (Some highest) knows = knows ∙ sym (highest_listed commands)
