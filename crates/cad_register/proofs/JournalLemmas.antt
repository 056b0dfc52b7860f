-- The entries that commands make tell these commands.
use Rattle.std.proofs.Common.{◌≡◌, ℕ, ◌+◌, ◌-◌, ◌==◌, ◌≤◌, Bool, true, false, cond, List, [], ◌∷◌, ◌++◌, length, map, find, fold, take, drop, Option, Some, None, IfSome, is_none, option_map, refl, sym, ap, ap₂, ◌∙◌, subst, arith, zero-add, length-drop, take-append-drop, length-take-le}
use Rattle.std.specs.List.{AllByRecursion}
use Rattle.std.proofs.lemmas.Bool.{and_parts}
use Rattle.std.proofs.lemmas.Bool.Decides.{nat_tests}
use Rattle.std.proofs.lemmas.Int.{ints}
use Rattle.cad_day.specs.declared.day.Day.{Day}
use Rattle.cad_day.specs.DayBefore.{day_before}
use Rattle.cad_versions.specs.declared.object_id.ObjectId.{ObjectId}
use Rattle.cad_versions.specs.declared.command.Command.{Command}
use Rattle.cad_versions.specs.declared.command.Command.TheVariants.{Enter, Amend, Retire}
use Rattle.cad_versions.specs.Objects.{object_number}
use Rattle.cad_versions.specs.VersionedObject.{VersionedObject}
use Rattle.cad_versions.specs.Versions.{is_of, is_open_of, history, closed_on, begun, next_number, versions_after}
use Rattle.cad_versions.specs.Refusals.{refusal, AreAccepted}
use Rattle.cad_versions.specs.Entries.{Entry, version_in, entered_at, close_entry, entries_after, entries_from, entries_of}
use Rattle.cad_versions.specs.lemmas.EntryLemmas.{open_is_none, after_same, entries_append, versions_of_entries}
use Rattle.cad_versions.specs.lemmas.ListLemmas.{all_weaker, all_push}
use Rattle.cad_versions.specs.lemmas.HistoryLemmas.{amends, retires, find-filter}
use Rattle.cad_versions.specs.lemmas.SameLemmas.{same_object}
use Rattle.cad_register.specs.Journal.{beginning, ending, is_at, begun_at, ended_at, or_next, first_given, command_at, commands_behind}

-- ---- what the first of several gathers

pub or_none : (o : Option Command) → or_next o None ≡ o
or_none None = refl
or_none (Some c) = refl

pub or_again : (a b c : Option Command) → or_next a (or_next b c) ≡ or_next (or_next a b) c
or_again None b c = refl
or_again (Some x) b c = refl

pub first_push : (tell : Entry → Option Command) (es : List Entry) (e : Entry) → first_given tell (es ++ e ∷ []) ≡ or_next (first_given tell es) (tell e)
first_push tell [] e = or_none (tell e)
first_push tell (x ∷ es) e = ap (or_next (tell x)) (first_push tell es e) ∙ or_again (tell x) (first_given tell es) (tell e)

none_given : (tell : Entry → Option Command) (es : List Entry) → AllByRecursion (λ e. tell e ≡ None) es → first_given tell es ≡ None
none_given tell [] h = refl
none_given tell (e ∷ es) h = ap (λ o. or_next o (first_given tell es)) h.0 ∙ none_given tell es h.1

-- ---- revisions

pub same_revision : (n : ℕ) → (n == n) ≡ true
same_revision n = grind (arith, nat_tests)

other_revision : (m n : ℕ) → m ≤ n → (n + 1 == m) ≡ false
other_revision m n h = grind (arith, nat_tests)

pub early_revision : (m n : ℕ) → m ≤ n → (m == n + 1) ≡ false
early_revision m n h = grind (arith, nat_tests)

-- entered, and closed if it was, by now
pub record IsMade (n : ℕ) (e : Entry) : Type 0 where
  pub entered : e.entered ≤ n
  pub closed : IfSome e.closed (λ k. k ≤ n)

closed_by : (o : Option ℕ) (m n : ℕ) → m ≤ n → IfSome o (λ k. k ≤ m) → IfSome o (λ k. k ≤ n)
closed_by None m n h p = tt
closed_by (Some k) m n h p = omega arith

pub made_later : (m n : ℕ) → m ≤ n → (e : Entry) → IsMade m e → IsMade n e
made_later m n h e is = let low : e.entered ≤ m = is.entered in record { entered = omega arith; closed = closed_by e.closed m n h is.closed }

made_closed : (object : ObjectId) (day : Day) (n : ℕ) (e : Entry) → IsMade n e → IsMade (n + 1) (close_entry object day (n + 1) e)
made_closed object day n e is = go (is_open_of object e.version)
  where
    go : (t : Bool) → IsMade (n + 1) (cond t (record { version = closed_on day e.version; entered = e.entered; closed = Some (n + 1) }) e)
    go false = made_later n (n + 1) (omega arith) e is
    go true = let low : e.entered ≤ n = is.entered in record { entered = omega arith; closed = omega arith }

all_made_closed : (object : ObjectId) (day : Day) (n : ℕ) (es : List Entry) → AllByRecursion (IsMade n) es → AllByRecursion (IsMade (n + 1)) (map (close_entry object day (n + 1)) es)
all_made_closed object day n [] all = tt
all_made_closed object day n (e ∷ es) all = (made_closed object day n e all.0, all_made_closed object day n es all.1)

new_made : (n : ℕ) (v : VersionedObject) → IsMade n (entered_at n v)
new_made n v = record { entered = omega arith; closed = tt }

pub made_after : (n : ℕ) (es : List Entry) (c : Command) → AllByRecursion (IsMade n) es → AllByRecursion (IsMade (n + 1)) (entries_after (n + 1) es c)
made_after n es (Enter object first body) all = all_push (IsMade (n + 1)) es _ (all_weaker (IsMade n) (IsMade (n + 1)) (made_later n (n + 1) (omega arith)) es all) (new_made (n + 1) _)
made_after n es (Amend object first body) all = all_push (IsMade (n + 1)) _ _ (all_made_closed object (day_before first) n es all) (new_made (n + 1) _)
made_after n es (Retire object last) all = all_made_closed object last n es all

-- ---- what entries tell stays

none_ended : (t : Bool) (object : ObjectId) (last : Option Day) → last ≡ None → cond t (option_map (λ day. Retire object day) last) None ≡ None
none_ended true object None h = refl
none_ended true object (Some day) h = absurd cc
none_ended false object last h = refl

pub begun_same : (r : ℕ) (object : ObjectId) (day : Day) (n : ℕ) (e : Entry) → begun_at r (close_entry object day n e) ≡ begun_at r e
begun_same r object day n e = elim (is_open_of object e.version) as (λ t. begun_at r (cond t (record { version = closed_on day e.version; entered = e.entered; closed = Some n }) e) ≡ begun_at r e) [ true ↦ refl | false ↦ refl ]

pub ended_same : (r : ℕ) (object : ObjectId) (day : Day) (n : ℕ) → r ≤ n → (e : Entry) → ended_at r (close_entry object day (n + 1) e) ≡ ended_at r e
ended_same r object day n h e = go (is_open_of object e.version) refl
  where
    go : (t : Bool) → is_open_of object e.version ≡ t → ended_at r (cond t (record { version = closed_on day e.version; entered = e.entered; closed = Some (n + 1) }) e) ≡ ended_at r e
    go false is = refl
    go true is = ap (λ t. cond t (Some (Retire e.version.object day)) None) (other_revision r n h)
        ∙ sym (none_ended (is_at r e.closed) e.version.object e.version.last (open_is_none (is_of object e.version) e.version.last is))

begun_all_same : (r : ℕ) (object : ObjectId) (day : Day) (n : ℕ) (es : List Entry) → first_given (begun_at r) (map (close_entry object day n) es) ≡ first_given (begun_at r) es
begun_all_same r object day n [] = refl
begun_all_same r object day n (e ∷ es) = ap₂ or_next (begun_same r object day n e) (begun_all_same r object day n es)

ended_all_same : (r : ℕ) (object : ObjectId) (day : Day) (n : ℕ) → r ≤ n → (es : List Entry) → first_given (ended_at r) (map (close_entry object day (n + 1)) es) ≡ first_given (ended_at r) es
ended_all_same r object day n h [] = refl
ended_all_same r object day n h (e ∷ es) = ap₂ or_next (ended_same r object day n h e) (ended_all_same r object day n h es)

-- what was entered later gathers nothing of the revision
pub new_gives_none : (r n : ℕ) (v : VersionedObject) → r ≤ n → begun_at r (entered_at (n + 1) v) ≡ None
new_gives_none r n v h = ap (λ t. cond t (Some (beginning v)) None) (other_revision r n h)

pub pushed_same : (r n : ℕ) (v : VersionedObject) → r ≤ n → (es : List Entry) → command_at r (es ++ entered_at (n + 1) v ∷ []) ≡ command_at r es
pushed_same r n v h es =
    ap₂ or_next (first_push (begun_at r) es (entered_at (n + 1) v) ∙ ap (or_next (first_given (begun_at r) es)) (new_gives_none r n v h) ∙ or_none (first_given (begun_at r) es))
    (first_push (ended_at r) es (entered_at (n + 1) v) ∙ or_none (first_given (ended_at r) es))

pub closed_same : (r : ℕ) (object : ObjectId) (day : Day) (n : ℕ) → r ≤ n → (es : List Entry) → command_at r (map (close_entry object day (n + 1)) es) ≡ command_at r es
closed_same r object day n h es = ap₂ or_next (begun_all_same r object day (n + 1) es) (ended_all_same r object day n h es)

command_stays_then : (r n : ℕ) → r ≤ n → (es : List Entry) (c : Command) → command_at r (entries_after (n + 1) es c) ≡ command_at r es
command_stays_then r n h es (Enter object first body) = pushed_same r n _ h es
command_stays_then r n h es (Amend object first body) = pushed_same r n _ h _ ∙ closed_same r object (day_before first) n h es
command_stays_then r n h es (Retire object last) = closed_same r object last n h es

command_stays : (r n : ℕ) → r ≤ n → (es : List Entry) (cs : List Command) → command_at r (entries_from n es cs) ≡ command_at r es
command_stays r n h es [] = refl
command_stays r n h es (c ∷ cs) = command_stays r (n + 1) (omega arith) (entries_after (n + 1) es c) cs ∙ command_stays_then r n h es c

-- ---- the newest command is told

-- nothing was entered at a revision that is to come
none_begun : (n : ℕ) (es : List Entry) → AllByRecursion (IsMade n) es → first_given (begun_at (n + 1)) es ≡ None
none_begun n es all = none_given (begun_at (n + 1)) es (all_weaker (IsMade n) (λ e. begun_at (n + 1) e ≡ None) (λ e is. ap (λ t. cond t (Some (beginning e.version)) None) (early_revision e.entered n is.entered)) es all)

new_given : (n : ℕ) (v : VersionedObject) (es : List Entry) → first_given (begun_at (n + 1)) es ≡ None → command_at (n + 1) (es ++ entered_at (n + 1) v ∷ []) ≡ Some (beginning v)
new_given n v es none =
    ap (λ o. or_next o (first_given (ended_at (n + 1)) (es ++ entered_at (n + 1) v ∷ [])))
    (first_push (begun_at (n + 1)) es (entered_at (n + 1) v) ∙ ap (λ o. or_next o (begun_at (n + 1) (entered_at (n + 1) v))) none
    ∙ ap (λ t. cond t (Some (beginning v)) None) (same_revision (n + 1)))

-- a version behind others is not the first
not_first : (object : ObjectId) (vs : List VersionedObject) (found : VersionedObject) → find (is_open_of object) vs ≡ Some found → (next_number object vs == 1) ≡ false
not_first object vs found e = go (history object vs) (sym (find-filter object vs) ∙ e)
  where
    go : (xs : List VersionedObject) → find (is_open_of object) xs ≡ Some found → (length xs + 1 == 1) ≡ false
    go [] h = absurd cc
    go (x ∷ xs) h = grind (arith, nat_tests)

-- what is closed now gathers that its object is retired
pub same_as : (object : ObjectId) (v : VersionedObject) → is_open_of object v ≡ true → v.object ≡ object
same_as object v h = same_object v.object object (numbers (and_parts (is_of object v) (is_none v.last) h).0)
  where
    numbers : is_of object v ≡ true → object_number v.object ≡ object_number object
    numbers e = grind (arith, ints)

pub not_ended : (n : ℕ) (o : Option ℕ) → IfSome o (λ k. k ≤ n) → is_at (n + 1) o ≡ false
not_ended n None h = refl
not_ended n (Some k) h = early_revision k n h

end_given : (object : ObjectId) (last : Day) (n : ℕ) (es : List Entry) (found : VersionedObject) → AllByRecursion (IsMade n) es → find (is_open_of object) (map version_in es) ≡ Some found
    → first_given (ended_at (n + 1)) (map (close_entry object last (n + 1)) es) ≡ Some (Retire object last)
end_given object last n [] found all e = absurd cc
end_given object last n (x ∷ es) found all e = go (is_open_of object x.version) refl e (end_given object last n es found all.1)
  where
    go : (t : Bool) → is_open_of object x.version ≡ t → cond t (Some x.version) (find (is_open_of object) (map version_in es)) ≡ Some found
        → (find (is_open_of object) (map version_in es) ≡ Some found → first_given (ended_at (n + 1)) (map (close_entry object last (n + 1)) es) ≡ Some (Retire object last))
        → or_next (ended_at (n + 1) (cond t (record { version = closed_on last x.version; entered = x.entered; closed = Some (n + 1) }) x)) (first_given (ended_at (n + 1)) (map (close_entry object last (n + 1)) es)) ≡ Some (Retire object last)
    go true is h more = ap (λ t. or_next (cond t (Some (Retire x.version.object last)) None) (first_given (ended_at (n + 1)) (map (close_entry object last (n + 1)) es))) (same_revision (n + 1)) ∙ ap (λ o. Some (Retire o last)) (same_as object x.version is)
    go false is h more = ap (λ t. or_next (cond t (ending x.version) None) (first_given (ended_at (n + 1)) (map (close_entry object last (n + 1)) es))) (not_ended n x.closed all.0.closed) ∙ more h

newest_given : (n : ℕ) (es : List Entry) (c : Command) → AllByRecursion (IsMade n) es → refusal (map version_in es) c ≡ None → command_at (n + 1) (entries_after (n + 1) es c) ≡ Some c
newest_given n es (Enter object first body) all e = new_given n (begun object 1 first body) es (none_begun n es all)
newest_given n es (Amend object first body) all e =
    let vs = map version_in es in
    let v = begun object (next_number object vs) first body in
    let a = amends object first body vs e in
    let closed = map (close_entry object (day_before first) (n + 1)) es in
    new_given n v closed (begun_all_same (n + 1) object (day_before first) (n + 1) es ∙ none_begun n es all)
    ∙ ap (λ t. Some (cond t (Enter object first body) (Amend object first body))) (not_first object vs a.standing a.found)
newest_given n es (Retire object last) all e =
    let a = retires object last (map version_in es) e in
    ap (λ o. or_next o (first_given (ended_at (n + 1)) (map (close_entry object last (n + 1)) es))) (begun_all_same (n + 1) object last (n + 1) es ∙ none_begun n es all)
    ∙ end_given object last n es a.standing all a.found

-- ---- all commands are told

given_from : (n : ℕ) (es : List Entry) (cs : List Command) → AllByRecursion (IsMade n) es → AreAccepted (map version_in es) cs → commands_behind n (length cs) (entries_from n es cs) ≡ map Some cs
given_from n es [] all accepted = refl
given_from n es (c ∷ cs) all accepted =
    let next = entries_after (n + 1) es c in
    ap₂ ◌∷◌ (command_stays (n + 1) (n + 1) (omega arith) next cs ∙ newest_given n es c all accepted.0)
    (given_from (n + 1) next cs (made_after n es c all) (subst (λ vs. AreAccepted vs cs) (sym (after_same (n + 1) es c)) accepted.1))

made_from : (n : ℕ) (es : List Entry) (cs : List Command) → AllByRecursion (IsMade n) es → AllByRecursion (IsMade (n + length cs)) (entries_from n es cs)
made_from n es [] all = subst (λ m. AllByRecursion (IsMade m) es) (omega arith) all
made_from n es (c ∷ cs) all = subst (λ m. AllByRecursion (IsMade m) (entries_from (n + 1) (entries_after (n + 1) es c) cs)) (omega arith) (made_from (n + 1) _ cs (made_after n es c all))

pub all_made : (cs : List Command) → AllByRecursion (IsMade (length cs)) (entries_of cs)
all_made cs = subst (λ m. AllByRecursion (IsMade m) (entries_of cs)) (zero-add (length cs)) (made_from 0 [] cs tt)

-- what stands behind the first of the commands was accepted there
pub accepted_back : (vs : List VersionedObject) (xs ys : List Command) → AreAccepted vs (xs ++ ys) → AreAccepted (fold versions_after vs xs) ys
accepted_back vs [] ys all = all
accepted_back vs (x ∷ xs) ys all = accepted_back (versions_after vs x) xs ys all.1

given_behind : (xs ys : List Command) → AreAccepted [] (xs ++ ys) → commands_behind (length xs) (length ys) (entries_of (xs ++ ys)) ≡ map Some ys
given_behind xs ys accepted =
    let n = length xs in
    ap (commands_behind n (length ys)) (entries_append 0 [] xs ys ∙ ap (λ m. entries_from m (entries_of xs) ys) (zero-add n))
    ∙ given_from n (entries_of xs) ys (all_made xs) (subst (λ vs. AreAccepted vs ys) (sym (versions_of_entries xs)) (accepted_back [] xs ys accepted))

pub entries_give : (cs : List Command) → AreAccepted [] cs → (r : ℕ) → r ≤ length cs → commands_behind r (length cs - r) (entries_of cs) ≡ map Some (drop r cs)
entries_give cs accepted r h =
    let whole = take-append-drop r cs in
    subst (λ n. commands_behind r n (entries_of cs) ≡ map Some (drop r cs)) (length-drop r cs)
    (subst (λ ds. commands_behind r (length (drop r cs)) (entries_of ds) ≡ map Some (drop r cs)) whole
    (subst (λ m. commands_behind m (length (drop r cs)) (entries_of (take r cs ++ drop r cs)) ≡ map Some (drop r cs)) (length-take-le r cs h)
    (given_behind (take r cs) (drop r cs) (subst (AreAccepted []) (sym whole) accepted))))
