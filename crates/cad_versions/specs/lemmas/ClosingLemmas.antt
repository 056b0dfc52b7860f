-- What an accepted command finds: room for what it adds, and an open version that began in time.
use Rattle.std.proofs.Common.{◌≡◌, ℕ, ◌+◌, ◌≤◌, ◌<◌, ◌≤ℤ◌, true, false, List, [], ◌∷◌, length, length-append, map, Some, None, refl, sym, subst, arith}
use Rattle.std.specs.List.{AllByRecursion}
use Rattle.std.proofs.lemmas.Bool.Decides.{nat_tests}
use Rattle.std.proofs.lemmas.List.{length-map}
use Rattle.cad_day.specs.declared.day.Day.{Day}
use Rattle.cad_day.specs.Days.{number_of}
use Rattle.cad_versions.specs.declared.object_id.ObjectId.{ObjectId}
use Rattle.cad_versions.specs.declared.body.Body.{Body}
use Rattle.cad_versions.specs.declared.command.Command.{Command}
use Rattle.cad_versions.specs.declared.command.Command.TheVariants.{Enter, Amend, Retire}
use Rattle.cad_versions.specs.Command.{body_added}
use Rattle.cad_day.specs.DayBefore.{day_before, number_of-day_before}
use Rattle.cad_versions.specs.VersionedObject.{VersionedObject}
use Rattle.cad_versions.specs.Versions.{is_open_of, begun, next_number}
use Rattle.cad_versions.specs.Refusals.{refusal, refuses_body, most_versions, is_full, AreAccepted}
use Rattle.cad_versions.specs.Entries.{Entry, version_in, entered_at, close_entry, entries_after, entries_from, entries_of, ClosesInTime}
use Rattle.cad_versions.specs.lemmas.EntryLemmas.{after_same}
use Rattle.cad_versions.specs.lemmas.ListLemmas.{all_weaker, all_unmapped}
use Rattle.cad_versions.specs.lemmas.HistoryLemmas.{HasHistories, only_open, amends, retires, neither, unrefused, le_fails, lt_fails, under}

-- ---- there is room for what is added

not_full : (vs : List VersionedObject) → is_full vs ≡ false → length vs < most_versions
not_full vs h = grind (arith, nat_tests)

pub room : (vs : List VersionedObject) (c : Command) (body : Body) → body_added c ≡ Some body → refusal vs c ≡ None → length vs < most_versions
room vs c body adds e = not_full vs (unrefused (is_full vs) _ (neither _ _ (subst (λ b. refuses_body vs b ≡ None) adds (neither _ _ e).1)).1)

pub entry_room : (ls : List Entry) (c : Command) (body : Body) → body_added c ≡ Some body → refusal (map version_in ls) c ≡ None → length ls < most_versions
entry_room ls c body adds e = let few = room (map version_in ls) c body adds e in omega (arith, length-map ls version_in)

pub few_after : (n : ℕ) (ls : List Entry) (c : Command) → refusal (map version_in ls) c ≡ None → length ls ≤ most_versions → length (entries_after n ls c) ≤ most_versions
few_after n ls (Enter object first body) e few =
    omega (arith, entry_room ls (Enter object first body) body refl e, length-append ls (entered_at n (begun object 1 first body) ∷ []))
few_after n ls (Amend object first body) e few =
    let closed = map (close_entry object (day_before first) n) ls in
    omega (arith, entry_room ls (Amend object first body) body refl e, length-map ls (close_entry object (day_before first) n), length-append closed (entered_at n (begun object (next_number object (map version_in ls)) first body) ∷ []))
few_after n ls (Retire object last) e few = omega (arith, length-map ls (close_entry object last n))

few_from : (n : ℕ) (ls : List Entry) (cs : List Command) → AreAccepted (map version_in ls) cs → length ls ≤ most_versions → length (entries_from n ls cs) ≤ most_versions
few_from n ls [] all few = few
few_from n ls (c ∷ cs) all few = few_from (n + 1) (entries_after (n + 1) ls c) cs (subst (λ vs. AreAccepted vs cs) (sym (after_same (n + 1) ls c)) all.1) (few_after (n + 1) ls c all.0 few)

pub entries_few : (cs : List Command) → AreAccepted [] cs → length (entries_of cs) ≤ most_versions
entries_few cs all = few_from 0 [] cs all (omega arith)

-- ---- what is closed began in time

in_time : (object : ObjectId) (day : Day) (found : VersionedObject) (ls : List Entry) → AllByRecursion (λ v. is_open_of object v ≡ true → v ≡ found) (map version_in ls) → number_of found.first ≤ℤ number_of day → AllByRecursion (ClosesInTime object day) ls
in_time object day found ls all h =
    all_weaker (λ (l : Entry). is_open_of object (version_in l) ≡ true → version_in l ≡ found) (ClosesInTime object day) (λ l k opened. subst (λ (v : VersionedObject). number_of v.first ≤ℤ number_of day) (sym (k opened)) h) ls
    (all_unmapped (λ v. is_open_of object v ≡ true → v ≡ found) version_in ls all)

pub amends_in_time : (ls : List Entry) (object : ObjectId) (first : Day) (body : Body) → HasHistories (map version_in ls) → refusal (map version_in ls) (Amend object first body) ≡ None → AllByRecursion (ClosesInTime object (day_before first)) ls
amends_in_time ls object first body all e =
    let vs = map version_in ls in
    let a = amends object first body vs e in
    let v = a.standing in
    let less = le_fails (number_of first) (number_of v.first) a.timely in
    in_time object (day_before first) v ls (only_open object v vs (all object) a.found) (under (number_of v.first) (number_of first) (number_of (day_before first)) less (number_of-day_before v.first first less))

pub retires_in_time : (ls : List Entry) (object : ObjectId) (last : Day) → HasHistories (map version_in ls) → refusal (map version_in ls) (Retire object last) ≡ None → AllByRecursion (ClosesInTime object last) ls
retires_in_time ls object last all e =
    let vs = map version_in ls in
    let a = retires object last vs e in
    let v = a.standing in
    in_time object last v ls (only_open object v vs (all object) a.found) (lt_fails (number_of last) (number_of v.first) a.timely)
