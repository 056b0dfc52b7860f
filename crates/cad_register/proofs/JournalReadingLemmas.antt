-- What the first entries show stays, and all of them show the commands.
use Rattle.std.proofs.Common.{◌≡◌, ◌⊎◌, inl, inr, ℕ, zero, suc, ◌+◌, ◌-◌, ◌≤◌, nat_le, Bool, true, false, cond, List, [], ◌∷◌, ◌++◌, length, map, take, drop, Vec, Global, Some, Result, Ok, Err, IfOk, IfErr, IsTrue, refl, sym, ap, ap₂, ◌∙◌, subst, arith, zero-add, append-nil, length-append, take-append-drop, length-take-le}
use Rattle.std.proofs.lemmas.Bool.Decides.{nat_tests}
use Rattle.std.proofs.lemmas.List.{length-map}
use Rattle.cad_day.specs.declared.day.Day.{Day}
use Rattle.cad_day.specs.DayBefore.{day_before}
use Rattle.cad_versions.specs.declared.object_id.ObjectId.{ObjectId}
use Rattle.cad_versions.specs.declared.command.Command.{Command}
use Rattle.cad_versions.specs.declared.command.Command.TheVariants.{Enter, Amend, Retire}
use Rattle.cad_versions.specs.declared.fault.RegisterFault.{RegisterFault}
use Rattle.cad_versions.specs.declared.fault.RegisterFault.TheVariants as fault
use Rattle.cad_versions.specs.VersionedObject.{VersionedObject}
use Rattle.cad_versions.specs.Refusals.{AreAccepted}
use Rattle.cad_versions.specs.Entries.{Entry, version_in, entered_at, close_entry, entries_after, entries_from, entries_of}
use Rattle.cad_versions.specs.lemmas.AcceptedLemmas.{accepted_front}
use Rattle.cad_versions.specs.lemmas.EntryLemmas.{entries_append, versions_of_entries}
use Rattle.cad_register.specs.Journal.{command_at, commands_behind}
use Rattle.cad_register.specs.declared.journal_reading.JournalReading.{JournalReading}
use Rattle.cad_register.specs.JournalReading.{behind_of, newest_of, rows_read, commands_held, Holds, HasRead, Begins, ReadingsStay, is_whole, next_place, HasNoted, GivesHeld}
use Rattle.cad_register.proofs.CountLemmas.{versions_few}
use Rattle.cad_register.proofs.DamageLemmas.{take_all}
use Rattle.cad_register.proofs.GatheringLemmas.{some_same}
use Rattle.cad_register.proofs.JournalLemmas.{pushed_same, closed_same, entries_give}

-- ---- the first of a list

module _ {X : Type 0} where
  abbrev nothing : List X
  nothing = []

  none_first : (k : ℕ) → take k nothing ≡ nothing
  none_first k = take_all nothing k (omega arith)

  take_on : (m k : ℕ) (xs : List X) → take m xs ++ take k (drop m xs) ≡ take (m + k) xs
  take_on zero k [] = ap (λ n. take n nothing) (sym (zero-add k))
  take_on zero k (x ∷ xs) = ap (λ n. take n (x ∷ xs)) (sym (zero-add k))
  take_on (suc m) k [] = none_first k ∙ sym (none_first (suc m + k))
  take_on (suc m) k (x ∷ xs) = let more : suc (m + k) ≡ suc m + k = omega arith in ap (λ l. x ∷ l) (take_on m k xs) ∙ ap (λ n. take n (x ∷ xs)) more

  first_mapped : (m : ℕ) (f : X → X) (xs : List X) → take m (map f xs) ≡ map f (take m xs)
  first_mapped zero f [] = refl
  first_mapped zero f (x ∷ xs) = refl
  first_mapped (suc m) f [] = refl
  first_mapped (suc m) f (x ∷ xs) = ap (λ l. f x ∷ l) (first_mapped m f xs)

  pushed : (m : ℕ) (xs : List X) (x : X) → (take m (xs ++ x ∷ []) ≡ take m xs) ⊎ (take m (xs ++ x ∷ []) ≡ take m xs ++ x ∷ [])
  pushed zero [] x = inl refl
  pushed zero (y ∷ xs) x = inl refl
  pushed (suc m) [] x = inr (ap (λ l. x ∷ l) (none_first m))
  pushed (suc m) (y ∷ xs) x = elim (pushed m xs x) [ inl h ↦ inl (ap (λ l. y ∷ l) h) | inr h ↦ inr (ap (λ l. y ∷ l) h) ]

  pub all_yielded : (yielded rest xs : List X) → xs ≡ yielded ++ rest → length rest ≡ 0 → xs ≡ yielded
  all_yielded yielded [] xs all ended = all ∙ append-nil yielded
  all_yielded yielded (x ∷ rest) xs all ended = absurd (omega (arith, ended))

-- ---- what the first entries show stays

first_pushed : (r n m : ℕ) (v : VersionedObject) → r ≤ n → (es : List Entry) → command_at r (take m (es ++ entered_at (n + 1) v ∷ [])) ≡ command_at r (take m es)
first_pushed r n m v h es = elim (pushed m es (entered_at (n + 1) v)) [ inl e ↦ ap (command_at r) e | inr e ↦ ap (command_at r) e ∙ pushed_same r n v h (take m es) ]

first_closed : (r : ℕ) (object : ObjectId) (day : Day) (n m : ℕ) → r ≤ n → (es : List Entry) → command_at r (take m (map (close_entry object day (n + 1)) es)) ≡ command_at r (take m es)
first_closed r object day n m h es = ap (command_at r) (first_mapped m (close_entry object day (n + 1)) es) ∙ closed_same r object day n h (take m es)

first_after : (r n m : ℕ) → r ≤ n → (es : List Entry) (c : Command) → command_at r (take m (entries_after (n + 1) es c)) ≡ command_at r (take m es)
first_after r n m h es (Enter object first body) = first_pushed r n m _ h es
first_after r n m h es (Amend object first body) = first_pushed r n m _ h _ ∙ first_closed r object (day_before first) n m h es
first_after r n m h es (Retire object last) = first_closed r object last n m h es

first_stays : (r n m : ℕ) → r ≤ n → (es : List Entry) (cs : List Command) → command_at r (take m (entries_from n es cs)) ≡ command_at r (take m es)
first_stays r n m h es [] = refl
first_stays r n m h es (c ∷ cs) = first_stays r (n + 1) m (omega arith) (entries_after (n + 1) es c) cs ∙ first_after r n m h es c

behind_stays : (b count n m : ℕ) → b + count ≤ n → (es : List Entry) (cs : List Command) → commands_behind b count (take m (entries_from n es cs)) ≡ commands_behind b count (take m es)
behind_stays b zero n m h es cs = refl
behind_stays b (suc count) n m h es cs =
    let low : b + 1 ≤ n = omega (arith, h) in
    let more : b + 1 + count ≤ n = omega (arith, h) in
    ap₂ ◌∷◌ (first_stays (b + 1) n m low es cs) (behind_stays (b + 1) count n m more es cs)

entries_later : (cs later : List Command) → entries_of (cs ++ later) ≡ entries_from (length cs) (entries_of cs) later
entries_later cs later = entries_append 0 [] cs later ∙ ap (λ n. entries_from n (entries_of cs) later) (zero-add (length cs))

held_stays : (b newest m : ℕ) (cs later : List Command) → b ≤ newest → newest ≤ length cs → commands_behind b (newest - b) (take m (entries_of (cs ++ later))) ≡ commands_behind b (newest - b) (take m (entries_of cs))
held_stays b newest m cs later low high =
    let within : b + (newest - b) ≤ length cs = omega (arith, low, high) in
    ap (λ es. commands_behind b (newest - b) (take m es)) (entries_later cs later) ∙ behind_stays b (newest - b) (length cs) m within (entries_of cs) later

pub readings_stay : ReadingsStay
readings_stay cs later reading accepted has = record {
  accepted = accepted;
  behind = has.behind;
  newest = omega (arith, has.newest, length-append cs later);
  within = has.within;
  holds = has.holds ∙ sym (held_stays (behind_of reading) (newest_of reading) (rows_read reading) cs later has.behind has.newest);
}

-- ---- a reading that begins

pub begun_read : (cs : List Command) (behind newest : ℕ) (reading : JournalReading) → AreAccepted [] cs → behind ≤ newest → newest ≡ length cs → Begins behind newest reading → HasRead cs reading
begun_read cs behind newest reading accepted low counts begins = record {
  accepted = accepted;
  behind = omega (arith, low, begins.behind_is, begins.newest_is);
  newest = omega (arith, counts, begins.newest_is);
  within = omega (arith, begins.none_read);
  holds = begins.holds ∙ ap (commands_behind (behind_of reading) (newest_of reading - behind_of reading)) (sym (ap (λ n. take n (entries_of cs)) begins.none_read ∙ none_taken (entries_of cs)));
}
  where
    none_taken : (es : List Entry) → take zero es ≡ []
    none_taken [] = refl
    none_taken (e ∷ es) = refl

-- ---- the next rows

abbrev IsOn : ℕ → ℕ → ℕ → Type 0
IsOn read newest place = (read ≤ place) × (place ≤ newest)

place_on : (read most newest : ℕ) → read ≤ newest → IsOn read newest (cond (nat_le newest (read + most)) newest (read + most))
place_on read most newest h = go (nat_le newest (read + most)) refl
  where
    go : (t : Bool) → nat_le newest (read + most) ≡ t → IsOn read newest (cond t newest (read + most))
    go true e = (h, omega arith)
    go false e = let low : read + most ≤ newest = grind (arith, nat_tests) in (omega arith, low)

pub read_given : (cs : List Command) (most : ℕ) (before after : JournalReading) (entries : List Entry) → HasRead cs before
    → entries ≡ take (next_place most before - rows_read before) (drop (rows_read before) (entries_of cs)) → HasNoted entries (next_place most before) before after → HasRead cs after
read_given cs most before after entries has are noted =
    let read = rows_read before in
    let place = next_place most before in
    let es = entries_of cs in
    let on : IsOn read (newest_of before) place = place_on read most (newest_of before) has.within in
    let counts : read + (place - read) ≡ place = omega (arith, on.0) in
    let first : take read es ++ entries ≡ take (rows_read after) es =
    ap (λ l. take read es ++ l) are ∙ take_on read (place - read) es ∙ ap (λ n. take n es) (counts ∙ sym noted.rows_are) in
    record {
      accepted = has.accepted;
      behind = omega (arith, has.behind, noted.behind_is, noted.newest_is);
      newest = omega (arith, has.newest, noted.newest_is);
      within = omega (arith, on.1, noted.rows_are, noted.newest_is);
      holds = subst (λ l. Holds l after) first (noted.holds (take read es) has.holds);
    }

-- ---- all rows

entries_fewer : (cs : List Command) → length (entries_of cs) ≤ length cs
entries_fewer cs = omega (arith, versions_few cs, ap length (versions_of_entries cs), length-map (entries_of cs) version_in)

pub whole_given : (cs : List Command) (reading : JournalReading) → HasRead cs reading → newest_of reading ≤ rows_read reading → commands_held reading ≡ map Some (drop (behind_of reading) (take (newest_of reading) cs))
whole_given cs reading has all =
    let b = behind_of reading in
    let n = newest_of reading in
    let m = rows_read reading in
    let first = take n cs in
    let later = drop n cs in
    let whole : first ++ later ≡ cs = take-append-drop n cs in
    let long : length first ≡ n = length-take-le n cs has.newest in
    let few : length (entries_of first) ≤ m = omega (arith, entries_fewer first, long, all) in
    let accepted : AreAccepted [] first = accepted_front [] first later (subst (AreAccepted []) (sym whole) has.accepted) in
    has.holds ∙ ap (λ ds. commands_behind b (n - b) (take m (entries_of ds))) (sym whole)
    ∙ held_stays b n m first later has.behind (omega (arith, long)) ∙ ap (commands_behind b (n - b)) (take_all (entries_of first) m few)
    ∙ subst (λ k. commands_behind b (k - b) (entries_of first) ≡ map Some (drop b first)) long (entries_give first accepted b (omega (arith, has.behind, long)))

-- ---- what is given

read_whole : (newest read : ℕ) → IsTrue (nat_le newest read) → newest ≤ read
read_whole newest read h = grind (arith, nat_tests)

pub given_of : (reading : JournalReading) (r : Result (Vec Command Global) RegisterFault) → IsTrue (is_whole reading) → GivesHeld (commands_held reading) r
    → IfOk r (λ journal. (cs : List Command) → HasRead cs reading → journal.items ≡ drop (behind_of reading) (take (newest_of reading) cs))
given_of reading (Ok found) whole held =
    let all = read_whole (newest_of reading) (rows_read reading) whole in
    λ cs has. some_same found.items (drop (behind_of reading) (take (newest_of reading) cs)) (held ∙ whole_given cs reading has all)
given_of reading (Err cause) whole held = tt

pub caused_of : (reading : JournalReading) (r : Result (Vec Command Global) RegisterFault) → IsTrue (is_whole reading) → GivesHeld (commands_held reading) r
    → IfErr r (λ cause. (cs : List Command) → HasRead cs reading → cause ≡ fault.Memory)
caused_of reading (Ok found) whole held = tt
caused_of reading (Err fault.Memory) whole held = λ cs has. refl
caused_of reading (Err fault.NotARegister) whole held =
    let all = read_whole (newest_of reading) (rows_read reading) whole in
    λ cs has. absurd (held (drop (behind_of reading) (take (newest_of reading) cs)) (sym (whole_given cs reading has all)))
caused_of reading (Err cause) whole held = absurd held
