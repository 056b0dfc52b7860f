-- The rows of a register that stands break no rule.
use Rattle.std.proofs.Common.{◌≡◌, ℕ, ◌+◌, ◌≤◌, ℤ, Bool, true, false, List, [], ◌∷◌, length, map, take, drop, Option, Some, None, inl, inr, refl, sym, ap, ◌∙◌, subst, arith, pos, int_le, nat_le}
use Rattle.std.specs.List.{AllByRecursion}
use Rattle.std.proofs.lemmas.Bool.Decides.{nat_tests}
use Rattle.std.proofs.lemmas.Int.{ints}
use Rattle.std.proofs.lemmas.List.{take-append-drop}
use Rattle.sqlite_keyed.proofs.ListLemmas.{all-filter}
use Rattle.sqlite_value.specs.Order.{Row}
use Rattle.sqlite.specs.State.{State}
use Rattle.cad_tables.specs.VersionRow.{cells_of}
use Rattle.cad_tables.specs.Listing.{listing}
use Rattle.cad_versions.specs.declared.command.Command.{Command}
use Rattle.cad_versions.specs.declared.fault.RegisterFault.{RegisterFault}
use Rattle.cad_versions.specs.declared.fault.RegisterFault.TheVariants as fault
use Rattle.cad_versions.specs.Entries.{Entry, version_in, entries_of, entries_at, seen_at}
use Rattle.cad_versions.specs.lemmas.EntryLemmas.{listing_is}
use Rattle.cad_versions.specs.Sorting.{sort_by}
use Rattle.cad_versions.specs.AsOf.{entry_order, entries_listed}
use Rattle.cad_versions.specs.Refusals.{AreAccepted}
use Rattle.cad_versions.specs.lemmas.AcceptedLemmas.{accepted_front}
use Rattle.cad_versions.specs.lemmas.ClosingLemmas.{entries_few}
use Rattle.cad_versions.specs.lemmas.SortLemmas.{all_sorted, length-sort_by}
use Rattle.cad_register.specs.declared.place.Place.{Place}
use Rattle.cad_register.specs.Damage.{place_of, Follows, HasRevisions, AreSound, IsFirstDamaged, IsCauseIn}
use Rattle.cad_register.specs.StoredVersions.{AreRowsOf}
use Rattle.cad_register.specs.Stands.{StandsFor, IsStoreFault}
use Rattle.cad_register.proofs.FollowLemmas.{Follow, versions_follow}
use Rattle.cad_register.proofs.KeptLemmas.{entry_same}
use Rattle.cad_register.proofs.RevisionLemmas.{revisions}
use Rattle.cad_register.proofs.RowLemmas.{rows_listed}
use Rattle.cad_versions.specs.lemmas.ListLemmas.{filter_fewer}

-- ---- the entries that a revision lists

-- a revision that was not made yet lists what the newest does
all_at : (n revision : ℕ) → n ≤ revision → (es : List Entry) → AllByRecursion (HasRevisions n) es → entries_at revision es ≡ es
all_at n revision h [] all = refl
all_at n revision h (e ∷ es) all =
    let early : e.entered ≤ n = all.0.entered.1 in
    let low : int_le (pos e.entered) (pos revision) ≡ true = grind (arith, ints) in
    rw low (ap (λ l. e ∷ l) (all_at n revision h es all.1))

-- which closings are seen is no matter for what follows what
follows_now : (revision : ℕ) (before : Option Place) (e : Entry) → Follows before (seen_at revision e) → Follows before e.version
follows_now revision None e h = h
follows_now revision (Some before) e (inl next) = inl (record { object = next.object; number = next.number; class = next.class })
follows_now revision (Some before) e (inr later) = inr (record { object = later.object; number = later.number })

follow_now : (revision : ℕ) (before : Option Place) (es : List Entry) → Follow before (map (seen_at revision) es) → Follow before (map version_in es)
follow_now revision before [] h = tt
follow_now revision before (e ∷ es) h = (follows_now revision before e h.0, follow_now revision (Some (place_of e.version)) es h.1)

-- in the order of identifiers each follows the one before it
abbrev AreInOrder : List Entry → Type 0
AreInOrder es = Follow None (map version_in (sort_by entry_order es))

made_follow : (revision : ℕ) (cs : List Command) → AreAccepted [] cs → revision ≤ length cs → AreInOrder (entries_at revision (entries_of cs))
made_follow revision cs accepted h =
    let first = take revision cs in
    follow_now revision None (entries_listed revision (entries_of cs)) (subst (Follow None) (sym (listing_is revision cs h))
    (versions_follow first (accepted_front [] first (drop revision cs) (subst (AreAccepted []) (sym (take-append-drop revision cs)) accepted))))

listed_follow : (revision : ℕ) (cs : List Command) → AreAccepted [] cs → AreInOrder (entries_at revision (entries_of cs))
listed_follow revision cs accepted = go (nat_le revision (length cs)) refl
  where
    go : (t : Bool) → nat_le revision (length cs) ≡ t → AreInOrder (entries_at revision (entries_of cs))
    go true e = made_follow revision cs accepted (grind (arith, nat_tests))
    go false e =
        let n = length cs in
        let es = entries_of cs in
        let beyond : n ≤ revision = grind (arith, nat_tests) in
        subst AreInOrder (all_at n n (omega arith) es (revisions cs) ∙ sym (all_at n revision beyond es (revisions cs))) (made_follow n cs accepted (omega arith))

listed_revisions : (revision : ℕ) (cs : List Command) → AllByRecursion (HasRevisions (length cs)) (entries_listed revision (entries_of cs))
listed_revisions revision cs = all_sorted entry_order (HasRevisions (length cs)) (entries_at revision (entries_of cs)) (all-filter (HasRevisions (length cs)) _ (entries_of cs) (revisions cs))

-- ---- rows that stand for such entries

rows_sound : (newest : ℕ) (before : Option Place) (count : ℕ) (rows : List Row) (es : List Entry) → AreRowsOf rows es → Follow before (map version_in es) → AllByRecursion (HasRevisions newest) es → count + length es ≤ 2147483647
    → AreSound newest before count rows
rows_sound newest before count [] [] h follow dated few = tt
rows_sound newest before count [] (e ∷ es) h follow dated few = absurd h
rows_sound newest before count (row ∷ rows) [] h follow dated few = absurd h
rows_sound newest before count (row ∷ rows) (e ∷ es) h follow dated few = (
  e,
  record { shows = h.0; keeps = record { follows = follow.0; revisions = dated.0; room = omega (arith, few) } },
  rows_sound newest (Some (place_of e.version)) (count + 1) rows es h.1 follow.1 dated.1 (omega (arith, few)),
)

pub listed_sound : (revision : ℕ) (cs : List Command) (rows : List Row) → AreAccepted [] cs → AreRowsOf rows (entries_listed revision (entries_of cs)) → AreSound (length cs) None 0 rows
listed_sound revision cs rows accepted h =
    let es = entries_at revision (entries_of cs) in
    let few : length (entries_listed revision (entries_of cs)) ≤ 2147483647 = omega (arith, length-sort_by entry_order es, filter_fewer (λ (e : Entry). int_le (pos e.entered) (pos revision)) (entries_of cs), entries_few cs accepted) in
    rows_sound (length cs) None 0 rows (entries_listed revision (entries_of cs)) h (listed_follow revision cs accepted) (listed_revisions revision cs) (omega (arith, few))

pub standing_sound : (s : State) (cs : List Command) (revision : ℕ) (stands : StandsFor s cs) → AreSound (length cs) None 0 (map cells_of (listing revision stands.holds.lines))
standing_sound s cs revision stands = listed_sound revision cs (map cells_of (listing revision stands.holds.lines)) stands.accepted (rows_listed revision stands.holds.lines (entries_of cs) stands.holds.rows)

-- ---- and so none is damaged

undamaged : (newest : ℕ) (id : ℤ × ℤ) (before : Option Place) (count : ℕ) (rows : List Row) → AreSound newest before count rows → IsFirstDamaged newest id before count rows → ⊥
undamaged newest id before count [] sound bad = bad
undamaged newest id before count (row ∷ rows) sound (inl bad) = bad.1 sound.0 sound.1
undamaged newest id before count (row ∷ rows) sound (inr more) =
    undamaged newest id (Some (place_of sound.0.version)) (count + 1) rows sound.2
    (subst (λ (e : Entry). IsFirstDamaged newest id (Some (place_of e.version)) (count + 1) rows) (entry_same row more.0 sound.0 more.1.shows sound.1.shows) more.2)

-- the cause is not in the rows
pub sound_cause : (newest : ℕ) (rows : List Row) (why : RegisterFault) → AreSound newest None 0 rows → IsCauseIn newest rows why → IsStoreFault why
sound_cause newest rows (fault.Damaged object number) sound bad = absurd (undamaged newest (object, number) None 0 rows sound bad)
sound_cause newest rows fault.Memory sound bad = tt
sound_cause newest rows why sound bad = absurd bad
