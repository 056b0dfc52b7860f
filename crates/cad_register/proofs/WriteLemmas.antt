-- What is written for a command is what the command makes.
use Rattle.std.proofs.Common.{◌≡◌, ℕ, ◌+◌, ◌^◌, ℤ, pos, ◌-ℤ◌, ◌≤ℤ◌, Bool, true, false, true≢false, cond, ◌&&◌, List, [], ◌∷◌, ◌++◌, length, map, filter, find, Option, Some, None, is_none, refl, sym, ap, ap₂, ◌∙◌, subst, arith, int_eq, option_map, length-append, not, nat_le, ◌<◌}
use Rattle.std.specs.List.{AllByRecursion}
use Rattle.sqlite_value.specs.declared.value.Value.TheVariants.{Int}
use Rattle.sqlite_typed.specs.Columns.{or_null}
use Rattle.cad_tables.specs.VersionRow.{VersionRow}
use Rattle.sqlite.specs.State.{State}
use Rattle.sqlite_keyed.proofs.ListLemmas.{filter-map, filter-filter}
use Rattle.cad_day.specs.declared.day.Day.{Day}
use Rattle.cad_day.specs.Days.{number_of}
use Rattle.cad_tables.specs.declared.changes.Closing.{Closing}
use Rattle.cad_tables.specs.declared.changes.Change.{Change}
use Rattle.cad_tables.specs.declared.changes.Change.TheVariants as change
use Rattle.cad_tables.specs.Holding.{Holds}
use Rattle.cad_tables.specs.Changes.{is_open_of as is_open_line, closed_line, closed_if, changed, NamesOne, Fits}
use Rattle.sqlite.specs.Effect.{Database, IsDatabase}
use Rattle.cad_tables.specs.Steps.{Commits, IsWrittenTo}
use Rattle.cad_versions.specs.declared.object_id.ObjectId.{ObjectId}
use Rattle.cad_versions.specs.declared.body.Body.{Body}
use Rattle.cad_versions.specs.declared.command.Command.{Command}
use Rattle.cad_versions.specs.declared.command.Command.TheVariants.{Enter, Amend, Retire}
use Rattle.cad_versions.specs.Objects.{object_number}
use Rattle.cad_versions.specs.Command.{object_named}
use Rattle.cad_versions.specs.VersionedObject.{VersionedObject}
use Rattle.cad_day.specs.DayBefore.{day_before, number_of-day_before}
use Rattle.cad_versions.specs.Versions.{is_of, is_open_of, history, closed_on, begun, next_number, versions}
use Rattle.cad_versions.specs.declared.fault.RegisterFault.TheVariants as fault
use Rattle.cad_versions.specs.Refusals.{is_full, are_entered, refuse_if, refusal, AreAccepted}
use Rattle.cad_versions.specs.Histories.{EndsBefore, IsHistory}
use Rattle.cad_versions.specs.Entries.{Entry, version_in, entered_at, close_entry, entries_after, entries_of, ClosesInTime}
use Rattle.cad_versions.specs.lemmas.HistoryLemmas.{HasHistories, histories, amends, retires, find-filter, closed_is_not_open, le_fails, neither, unrefused}
use Rattle.cad_versions.specs.lemmas.EntryLemmas.{versions_of_entries}
use Rattle.cad_versions.specs.lemmas.AcceptedLemmas.{accepted_then, entries_then}
use Rattle.cad_register.specs.declared.writing.NewEntry.{NewEntry}
use Rattle.cad_register.specs.StoredVersions.{HoldsEntries}
use Rattle.cad_register.specs.Changing.{IsNew, IsChangeOf, line_written}
use Rattle.cad_register.specs.Stands.{StandsFor, IsNumbered}
use Rattle.cad_register.proofs.CountLemmas.{history_few}
use Rattle.cad_register.proofs.RowLemmas.{IsLineOf, AreLinesOf, object_same, lines_joined, lines_filtered, lines_changed, lone_line}
use Rattle.cad_versions.specs.lemmas.ClosingLemmas.{amends_in_time, retires_in_time}
use Rattle.std.proofs.lemmas.Bool.Decides.{nat_tests}
use Rattle.std.proofs.lemmas.Bool.{and_parts}

-- ---- the line that is closed

numbers_same : (o : Option ℤ) (p : Option Day) → or_null Int o ≡ or_null Int (option_map number_of p) → is_none o ≡ is_none p
numbers_same None None e = refl
numbers_same None (Some q) e = absurd cc
numbers_same (Some n) None e = absurd cc
numbers_same (Some n) (Some q) e = refl

open_same : (object : ObjectId) (n : ℕ) → n ≡ object_number object → (l : VersionRow) (e : Entry) → IsLineOf l e → is_open_line n l ≡ is_open_of object (version_in e)
open_same object n is l e h = ap₂ ◌&&◌ (ap₂ (λ a b. int_eq (pos a) (pos b)) (object_same l e h) is) (numbers_same l.last e.version.last h.last)

-- the line of a version that is closed is that of the version closed
closing_same : (object : ObjectId) (day : Day) (revision : ℕ) (c : Closing) → c.object ≡ object_number object → c.last ≡ number_of day → revision < 2 ^ 32
    → (l : VersionRow) (e : Entry) → ClosesInTime object day e → IsLineOf l e → IsLineOf (closed_if c revision l) (close_entry object day revision e)
closing_same object day revision c is last small l e timely h = go (is_open_line c.object l) (is_open_of object (version_in e)) (open_same object c.object is l e h) timely
  where
    go : (s t : Bool) → s ≡ t → (t ≡ true → number_of e.version.first ≤ℤ number_of day) → IsLineOf (cond s (closed_line c revision l) l) (cond t (record { version = closed_on day e.version; entered = e.entered; closed = Some revision }) e)
    go false false same late = h
    go true true same late = record {
      object = h.object;
      number = h.number;
      class = h.class;
      first = h.first;
      last = ap Int last;
      entered = h.entered;
      closed = (refl, λ k k_is. subst (λ n. n < 2 ^ 32) (some_same revision k k_is) small);
      parts = record { name = h.parts.name; code = h.parts.code; label = h.parts.label; area = h.parts.area; unit = h.parts.unit; party = h.parts.party; share = h.parts.share; required = h.parts.required; spot = h.parts.spot; shape = h.parts.shape };
      version = record { positive = h.version.positive; small = h.version.small; forward = λ d d_is. subst (λ n. number_of e.version.first ≤ℤ number_of n) (day_same day d d_is) (late refl) };
    }
      where
        some_same : (m n : ℕ) → Some m ≡ Some n → m ≡ n
        some_same m n e = cc

        day_same : (m n : Day) → Some m ≡ Some n → m ≡ n
        day_same m n e = cc
    go true false same late = absurd (true≢false same)
    go false true same late = absurd (true≢false (sym same))

closings_same : (object : ObjectId) (day : Day) (revision : ℕ) (c : Closing) → c.object ≡ object_number object → c.last ≡ number_of day → revision < 2 ^ 32
    → (ls : List VersionRow) (es : List Entry) → AllByRecursion (ClosesInTime object day) es → AreLinesOf ls es → AreLinesOf (map (closed_if c revision) ls) (map (close_entry object day revision) es)
closings_same object day revision c is last small = lines_changed (closed_if c revision) (close_entry object day revision) (ClosesInTime object day) (closing_same object day revision c is last small)

-- ---- there is one

one_in_history : (object : ObjectId) (n : ℕ) (v : VersionedObject) (xs : List VersionedObject) → IsHistory n xs → find (is_open_of object) xs ≡ Some v → filter (is_open_of object) xs ≡ v ∷ []
one_in_history object n v [] h f = absurd cc
one_in_history object n v (x ∷ []) h f = go (is_open_of object x) f
  where
    go : (t : Bool) → cond t (Some x) None ≡ Some v → cond t (x ∷ []) [] ≡ v ∷ []
    go true e = cc
    go false e = absurd cc
one_in_history object n v (x ∷ (w ∷ xs)) h f = go x.last refl (one_in_history object (n + 1) v (w ∷ xs) h.3)
  where
    go : (l : Option Day) → x.last ≡ l → (find (is_open_of object) (w ∷ xs) ≡ Some v → filter (is_open_of object) (w ∷ xs) ≡ v ∷ []) → filter (is_open_of object) (x ∷ (w ∷ xs)) ≡ v ∷ []
    go None e more = absurd (subst (λ l. EndsBefore l w) e h.2)
    go (Some day) e more =
        let shut = closed_is_not_open object x day e in
        ap (λ t. cond t (x ∷ filter (is_open_of object) (w ∷ xs)) (filter (is_open_of object) (w ∷ xs))) shut
        ∙ more (ap (λ t. cond t (Some x) (find (is_open_of object) (w ∷ xs))) (sym shut) ∙ f)

one_open : (object : ObjectId) (v : VersionedObject) (vs : List VersionedObject) → IsHistory 1 (history object vs) → find (is_open_of object) vs ≡ Some v → filter (is_open_of object) vs ≡ v ∷ []
one_open object v vs h f =
    sym (filter-filter (is_open_of object) (is_of object) (λ x e. (and_parts (is_of object x) (is_none x.last) e).0) vs)
    ∙ one_in_history object 1 v (history object vs) h (sym (find-filter object vs) ∙ f)

-- a list of one version is that of one entry
lone : (v : VersionedObject) (es : List Entry) → map version_in es ≡ v ∷ [] → (e : Entry) × (es ≡ e ∷ [])
lone v [] h = absurd cc
lone v (e ∷ []) h = (e, refl)
lone v (e ∷ (f ∷ es)) h = absurd cc

names_one : (object : ObjectId) (v : VersionedObject) (c : Closing) (cs : List Command) (lines : List VersionRow) → AreLinesOf lines (entries_of cs) → c.object ≡ object_number object → IsHistory 1 (history object (versions cs)) → find (is_open_of object) (versions cs) ≡ Some v → NamesOne c lines
names_one object v c cs lines rows is h f =
    let es = entries_of cs in
    let here : map version_in (filter (λ e. is_open_of object (version_in e)) es) ≡ v ∷ [] = sym (filter-map (is_open_of object) version_in es) ∙ ap (filter (is_open_of object)) (versions_of_entries cs) ∙ one_open object v (versions cs) h f in
    let one = lone v (filter (λ e. is_open_of object (version_in e)) es) here in
    lone_line (filter (is_open_line c.object) lines) one.0 (subst (AreLinesOf (filter (is_open_line c.object) lines)) one.1 (lines_filtered (is_open_line c.object) (λ e. is_open_of object (version_in e)) (open_same object c.object is) lines es rows))

-- ---- the change of a command

new_line : (v : VersionedObject) (revision : ℕ) (n : NewEntry) → IsNew v revision n → IsLineOf (line_written n) (entered_at revision v)
new_line v revision n h = h.2

before_is : (cs : List Command) (object : ObjectId) (first : Day) (body : Body) → refusal (versions cs) (Amend object first body) ≡ None → number_of first -ℤ pos 1 ≡ number_of (day_before first)
before_is cs object first body e = let a = amends object first body (versions cs) e in sym (number_of-day_before a.standing.first first (le_fails (number_of first) (number_of a.standing.first) a.timely))

next_same : (object : ObjectId) (cs : List Command) → next_number object (map version_in (entries_of cs)) ≡ length (history object (versions cs)) + 1
next_same object cs = ap (next_number object) (versions_of_entries cs)

-- the entries of accepted commands
module _ (cs : List Command) (all : AreAccepted [] cs) where
  kept_histories : HasHistories (map version_in (entries_of cs))
  kept_histories = subst HasHistories (sym (versions_of_entries cs)) (histories cs all)

  kept_allows : (c : Command) → refusal (versions cs) c ≡ None → refusal (map version_in (entries_of cs)) c ≡ None
  kept_allows c fine = ap (λ vs. refusal vs c) (versions_of_entries cs) ∙ fine

  module _ (lines : List VersionRow) (rows : AreLinesOf lines (entries_of cs)) (number revision : ℕ) (small : revision < 2 ^ 32) where
    made : (c : Command) (ch : Change NewEntry) → refusal (versions cs) c ≡ None → IsNumbered cs c number → IsChangeOf c number revision ch → AreLinesOf (changed line_written ch revision lines) (entries_after revision (entries_of cs) c)
    made (Enter object first body) (change.Enter entry) fine count h =
        lines_joined lines (line_written entry ∷ []) (entries_of cs) (entered_at revision (begun object 1 first body) ∷ []) rows (new_line _ revision entry h, tt)
    made (Amend object first body) (change.Amend c entry) fine count h =
        let es = entries_of cs in
        let n : number ≡ next_number object (map version_in es) = count ∙ sym (next_same object cs) in
        let timely = amends_in_time es object first body kept_histories (kept_allows (Amend object first body) fine) in
        lines_joined (map (closed_if c revision) lines) (line_written entry ∷ []) (map (close_entry object (day_before first) revision) es) (entered_at revision (begun object (next_number object (map version_in es)) first body) ∷ [])
        (closings_same object (day_before first) revision c h.0 (h.1 ∙ before_is cs object first body fine) small lines es timely rows)
        (subst (λ k. IsLineOf (line_written entry) (entered_at revision (begun object k first body))) n (new_line _ revision entry h.2), tt)
    made (Retire object last) (change.Retire c) fine count h =
        closings_same object last revision c h.0 h.1 small lines (entries_of cs) (retires_in_time (entries_of cs) object last kept_histories (kept_allows (Retire object last) fine)) rows
    made c ch fine count h = absurd h

    fits : (c : Command) (ch : Change NewEntry) → refusal (versions cs) c ≡ None → IsChangeOf c number revision ch → Fits ch lines
    fits (Enter object first body) (change.Enter entry) fine h = tt
    fits (Amend object first body) (change.Amend c entry) fine h = let a = amends object first body (versions cs) fine in names_one object a.standing c cs lines rows h.0 (histories cs all object) a.found
    fits (Retire object last) (change.Retire c) fine h = let a = retires object last (versions cs) fine in names_one object a.standing c cs lines rows h.0 (histories cs all object) a.found
    fits c ch fine h = absurd h

-- tables without lines are those of no commands
pub no_entries : (db : Database) → Holds 0 [] db → HoldsEntries 0 [] db
no_entries db h = record { lines = []; holds = h; rows = tt }

-- a change that is written is that of the new command
pub holds_then : (old : State) (db : Database) (cs : List Command) (c : Command) (number revision : ℕ) (ch : Change NewEntry) → StandsFor old cs → refusal (versions cs) c ≡ None → IsNumbered cs c number → revision ≡ length cs + 1
    → IsChangeOf c number revision ch → revision < 2 ^ 32 → IsWrittenTo line_written ch revision old db → HoldsEntries (length (cs ++ c ∷ [])) (entries_of (cs ++ c ∷ [])) db × IsDatabase db
holds_then old db cs c number revision ch stands fine count next h small written =
    let all = stands.accepted in
    let lines = stands.holds.lines in
    let rows = stands.holds.rows in
    let held = written (length cs) lines (fits cs all lines rows number revision small c ch fine h) stands.holds.holds in
    let long : length (cs ++ c ∷ []) ≡ revision = length-append cs (c ∷ []) ∙ sym next in
    let same : entries_after revision (entries_of cs) c ≡ entries_of (cs ++ c ∷ []) = ap (λ r. entries_after r (entries_of cs) c) next ∙ sym (entries_then cs c) in (
      record {
        lines = changed line_written ch revision lines;
        holds = subst (λ m. Holds m (changed line_written ch revision lines) db) (sym long) held.0;
        rows = subst (AreLinesOf (changed line_written ch revision lines)) same (made cs all lines rows number revision small c ch fine count h);
      },
      held.1,
    )

-- the tables stand for the commands with the new one, once its change is committed
pub stands_then : (old new : State) (cs : List Command) (c : Command) (number revision : ℕ) (ch : Change NewEntry) → StandsFor old cs → refusal (versions cs) c ≡ None → IsNumbered cs c number → revision ≡ length cs + 1 → IsChangeOf c number revision ch → revision < 2 ^ 32
    → Commits line_written ch revision old new → StandsFor new (cs ++ c ∷ [])
stands_then old new cs c number revision ch stands fine count next h small done =
    let held = holds_then old new.now cs c number revision ch stands fine count next h small done.written in
    record { accepted = accepted_then [] cs c stands.accepted fine; holds = held.0; sound = held.1; settled = done.committed; live = done.is_open }

not_at_most : (n : ℕ) → nat_le 2147483647 n ≡ false → n < 2147483647
not_at_most n e = grind (arith, nat_tests)

-- an amendment that is accepted finds room
pub numbered : (cs : List Command) (c : Command) (count number : ℕ) → refusal (versions cs) c ≡ None → count ≡ length (history (object_named c) (versions cs)) → (count < 2147483647 → number ≡ count + 1) → IsNumbered cs c number
numbered cs (Enter object first body) count number fine is next = tt
numbered cs (Amend object first body) count number fine is next =
    let vs = versions cs in
    let added = (neither _ _ fine).1 in
    let room = not_at_most (length vs) (unrefused (is_full vs) fault.Full (neither (refuse_if (not (are_entered vs body)) fault.UnknownReference) _ added).1) in
    next (omega (arith, history_few object vs, is, room)) ∙ ap (λ n. n + 1) is
numbered cs (Retire object last) count number fine is next = tt
