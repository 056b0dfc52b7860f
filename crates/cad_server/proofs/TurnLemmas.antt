-- The versions that commands made were entered one after the other, so no revision shows damage.
use Rattle.std.proofs.Common.{◌≡◌, ◌∙◌, ℕ, ◌+◌, ◌≤◌, ◌<◌, pos, ◌==◌, nat_lt, Bool, true, false, cond, List, [], ◌∷◌, ◌++◌, length, map, fold, Option, Some, None, option_map, Less, refl, sym, ap, subst, arith, append-nil}
use Rattle.std.specs.List.{AllByRecursion}
use Rattle.std.specs.List.Sorted.{IsStrictlySortedBy}
use Rattle.std.proofs.lemmas.Bool.{and_parts, eqb-true}
use Rattle.std.proofs.lemmas.Bool.Decides.{nat_tests}
use Rattle.std.proofs.lemmas.Int.{ints}
use Rattle.std.proofs.lemmas.List.{append_assoc}
use Rattle.cad_day.specs.declared.day.Day.{Day}
use Rattle.cad_day.specs.DayBefore.{day_before}
use Rattle.cad_versions.specs.declared.command.Command.{Command}
use Rattle.cad_versions.specs.declared.command.Command.TheVariants.{Enter, Amend, Retire}
use Rattle.cad_versions.specs.declared.fault.RegisterFault.{RegisterFault}
use Rattle.cad_versions.specs.declared.fault.RegisterFault.TheVariants.{Store}
use Rattle.cad_versions.specs.declared.object_id.ObjectId.{ObjectId}
use Rattle.cad_versions.specs.AsOf.{all_entries, entry_order}
use Rattle.cad_versions.specs.Entries.{Entry, version_in, entered_at, close_entry, entries_after, entries_of}
use Rattle.cad_versions.specs.Histories.{IsHistory}
use Rattle.cad_versions.specs.Identifiers.{identifier_cmp}
use Rattle.cad_versions.specs.Objects.{object_number}
use Rattle.cad_versions.specs.Refusals.{refusal, AreAccepted}
use Rattle.cad_versions.specs.VersionedObject.{VersionedObject}
use Rattle.cad_versions.specs.Versions.{is_of, is_open_of, history, closed_on, begun, next_number, versions_after}
use Rattle.cad_versions.specs.lemmas.AcceptedLemmas.{accepted_front, entries_then}
use Rattle.cad_versions.specs.lemmas.EntryLemmas.{IsDated, entries_dated, versions_of_entries}
use Rattle.cad_versions.specs.lemmas.HistoryLemmas.{HasHistories, histories, enters}
use Rattle.cad_versions.specs.lemmas.ListLemmas.{all_weaker, all_kept, all_mapped, all_unmapped, all_push}
use Rattle.cad_versions.specs.lemmas.SeenLemmas.{entries_total, entries_apart}
use Rattle.cad_versions.specs.lemmas.SortLemmas.{all_sorted, sort_rises}
use Rattle.cad_server.specs.Turns.{damage_of, is_early, turn_of, first_early, earlier_damage}

-- ---- two versions of one object

-- if both are of one object, the one with the lower number was not entered later
abbrev Agree : Entry → Entry → Type 0
Agree x y = object_number x.version.object ≡ object_number y.version.object → x.version.number < y.version.number → x.entered ≤ y.entered

abbrev AgreesWithAll : List Entry → Entry → Type 0
AgreesWithAll es y = AllByRecursion (λ x. Agree x y) es

abbrev AllAgree : List Entry → Type 0
AllAgree es = AllByRecursion (AgreesWithAll es) es

both : {X : Type 0} (P Q : X → Type 0) (xs : List X) → AllByRecursion P xs → AllByRecursion Q xs → AllByRecursion (λ x. P x × Q x) xs
both P Q [] p q = tt
both P Q (x ∷ xs) p q = ((p.0, q.0), both P Q xs p.1 q.1)

agree_itself : (y : Entry) → Agree y y
agree_itself y same less = absurd (omega (arith, less))

agree_pushed : (es : List Entry) (y : Entry) → AllAgree es → AllByRecursion (λ x. Agree x y × Agree y x) es → AllAgree (es ++ y ∷ [])
agree_pushed es y all new =
    all_push (AgreesWithAll (es ++ y ∷ [])) es y
    (all_weaker (λ z. AgreesWithAll es z × (Agree z y × Agree y z)) (AgreesWithAll (es ++ y ∷ [])) (λ z h. all_push (λ x. Agree x z) es y h.0 h.1.1) es
    (both (AgreesWithAll es) (λ x. Agree x y × Agree y x) es all new))
    (all_push (λ x. Agree x y) es y (all_weaker (λ x. Agree x y × Agree y x) (λ x. Agree x y) (λ x h. h.0) es new) (agree_itself y))

-- ---- a closing changes neither their numbers nor when they were entered

agree_closed : (object : ObjectId) (day : Day) (n : ℕ) (x y : Entry) → Agree x y → Agree (close_entry object day n x) (close_entry object day n y)
agree_closed object day n x y = go (is_open_of object x.version) (is_open_of object y.version)
  where
    close : Bool → Entry → Entry
    close t e = cond t (record { version = closed_on day e.version; entered = e.entered; closed = Some n }) e

    go : (s t : Bool) → Agree x y → Agree (close s x) (close t y)
    go true true h = h
    go true false h = h
    go false true h = h
    go false false h = h

agree_all_closed : (object : ObjectId) (day : Day) (n : ℕ) (es : List Entry) → AllAgree es → AllAgree (map (close_entry object day n) es)
agree_all_closed object day n es all =
    let close = close_entry object day n in
    all_mapped (AgreesWithAll (map close es)) close es
    (all_weaker (AgreesWithAll es) (λ y. AgreesWithAll (map close es) (close y))
    (λ y h. all_mapped (λ x. Agree x (close y)) close es (all_weaker (λ x. Agree x y) (λ x. Agree (close x) (close y)) (λ x. agree_closed object day n x y) es h)) es all)

-- ---- numbers go no further than there are versions

below_end : (n : ℕ) (xs : List VersionedObject) → IsHistory n xs → AllByRecursion (λ v. v.number < n + length xs) xs
below_end n [] h = tt
below_end n (v ∷ []) h = let e : v.number ≡ n = h.0 in (omega (arith, e), tt)
below_end n (v ∷ (w ∷ xs)) h =
    let e : v.number ≡ n = h.0 in
    (omega (arith, e), all_weaker (λ u. u.number < n + 1 + length (w ∷ xs)) (λ u. u.number < n + length (v ∷ (w ∷ xs))) (λ u k. omega (arith, k)) (w ∷ xs) (below_end (n + 1) (w ∷ xs) h.3))

numbered : (object : ObjectId) (vs : List VersionedObject) → HasHistories vs → AllByRecursion (λ v. is_of object v ≡ true → v.number < 1 + length (history object vs)) vs
numbered object vs all = all_kept (λ v. v.number < 1 + length (history object vs)) (is_of object) vs (below_end 1 (history object vs) (all object))

same_is_of : (object : ObjectId) (v : VersionedObject) → object_number v.object ≡ object_number object → is_of object v ≡ true
same_is_of object v e = grind (arith, ints)

entries_numbered : (object : ObjectId) (es : List Entry) → HasHistories (map version_in es)
    → AllByRecursion (λ (e : Entry). object_number e.version.object ≡ object_number object → e.version.number < next_number object (map version_in es)) es
entries_numbered object es all =
    all_weaker (λ (e : Entry). is_of object e.version ≡ true → e.version.number < 1 + length (history object (map version_in es)))
    (λ (e : Entry). object_number e.version.object ≡ object_number object → e.version.number < next_number object (map version_in es))
    (λ e h same. omega (arith, h (same_is_of object e.version same))) es
    (all_unmapped (λ v. is_of object v ≡ true → v.number < 1 + length (history object (map version_in es))) version_in es (numbered object (map version_in es) all))

-- ---- one more command

abbrev IsNumberedBelow : ObjectId → ℕ → Entry → Type 0
IsNumberedBelow object k e = object_number e.version.object ≡ object_number object → e.version.number < k

abbrev WasEnteredBy : ℕ → Entry → Type 0
WasEnteredBy m e = e.entered ≤ m

new_agrees : (m k : ℕ) (v : VersionedObject) (x : Entry) → v.number ≡ k → x.entered ≤ m → IsNumberedBelow v.object k x → Agree x (entered_at (m + 1) v) × Agree (entered_at (m + 1) v) x
new_agrees m k v x is early below = (λ same less. omega (arith, early), λ same less. absurd (omega (arith, is, below (sym same), less)))

entry_agrees : (m : ℕ) (es : List Entry) (k : ℕ) (v : VersionedObject) → v.number ≡ k → AllAgree es → AllByRecursion (WasEnteredBy m) es → AllByRecursion (IsNumberedBelow v.object k) es → AllAgree (es ++ entered_at (m + 1) v ∷ [])
entry_agrees m es k v is all early below =
    agree_pushed es (entered_at (m + 1) v) all
    (all_weaker (λ x. WasEnteredBy m x × IsNumberedBelow v.object k x) (λ x. Agree x (entered_at (m + 1) v) × Agree (entered_at (m + 1) v) x)
    (λ x h. new_agrees m k v x is h.0 h.1) es (both (WasEnteredBy m) (IsNumberedBelow v.object k) es early below))

closed_below : (object other : ObjectId) (day : Day) (n k : ℕ) (e : Entry) → IsNumberedBelow other k e → IsNumberedBelow other k (close_entry object day n e)
closed_below object other day n k e h = go (is_open_of object e.version)
  where
    go : (t : Bool) → IsNumberedBelow other k (cond t (record { version = closed_on day e.version; entered = e.entered; closed = Some n }) e)
    go true = h
    go false = h

closed_early : (object : ObjectId) (day : Day) (n m : ℕ) (e : Entry) → WasEnteredBy m e → WasEnteredBy m (close_entry object day n e)
closed_early object day n m e h = go (is_open_of object e.version)
  where
    go : (t : Bool) → WasEnteredBy m (cond t (record { version = closed_on day e.version; entered = e.entered; closed = Some n }) e)
    go true = h
    go false = h

agree_after : (m : ℕ) (es : List Entry) (c : Command) → HasHistories (map version_in es) → refusal (map version_in es) c ≡ None → AllByRecursion (WasEnteredBy m) es → AllAgree es → AllAgree (entries_after (m + 1) es c)
agree_after m es (Enter object first body) histories accepted early all =
    let none : next_number object (map version_in es) ≡ 1 = ap (λ vs. length vs + 1) (enters object first body (map version_in es) accepted) in
    entry_agrees m es 1 (begun object 1 first body) refl all early
    (subst (λ k. AllByRecursion (IsNumberedBelow object k) es) none (entries_numbered object es histories))
agree_after m es (Amend object first body) histories accepted early all =
    let day = day_before first in
    let k = next_number object (map version_in es) in
    let close = close_entry object day (m + 1) in
    entry_agrees m (map close es) k (begun object k first body) refl (agree_all_closed object day (m + 1) es all)
    (all_mapped (WasEnteredBy m) close es (all_weaker (WasEnteredBy m) (λ e. WasEnteredBy m (close e)) (closed_early object day (m + 1) m) es early))
    (all_mapped (IsNumberedBelow object k) close es (all_weaker (IsNumberedBelow object k) (λ e. IsNumberedBelow object k (close e)) (closed_below object object day (m + 1) k) es (entries_numbered object es histories)))
agree_after m es (Retire object last) histories accepted early all = agree_all_closed object last (m + 1) es all

-- ---- all commands

last_accepted : (vs : List VersionedObject) (cs : List Command) (c : Command) → AreAccepted vs (cs ++ c ∷ []) → refusal (fold versions_after vs cs) c ≡ None
last_accepted vs [] c all = all.0
last_accepted vs (d ∷ cs) c all = last_accepted (versions_after vs d) cs c all.1

agree_then : (cs : List Command) (c : Command) → AreAccepted [] (cs ++ c ∷ []) → AllAgree (entries_of cs) → AllAgree (entries_of (cs ++ c ∷ []))
agree_then cs c accepted all =
    let es = entries_of cs in
    let same = sym (versions_of_entries cs) in
    subst AllAgree (sym (entries_then cs c))
    (agree_after (length cs) es c (subst HasHistories same (histories cs (accepted_front [] cs (c ∷ []) accepted)))
    (subst (λ vs. refusal vs c ≡ None) same (last_accepted [] cs c accepted))
    (all_weaker (IsDated (length cs)) (WasEnteredBy (length cs)) (λ e d. d.entered) es (entries_dated cs)) all)

agree_from : (cs more : List Command) → AreAccepted [] (cs ++ more) → AllAgree (entries_of cs) → AllAgree (entries_of (cs ++ more))
agree_from cs [] accepted all = subst (λ ds. AllAgree (entries_of ds)) (sym (append-nil cs)) all
agree_from cs (c ∷ more) accepted all =
    let next : (cs ++ c ∷ []) ++ more ≡ cs ++ (c ∷ more) = append_assoc cs (c ∷ []) more in
    let given = subst (AreAccepted []) (sym next) accepted in
    subst (λ ds. AllAgree (entries_of ds)) next
    (agree_from (cs ++ c ∷ []) more given (agree_then cs c (accepted_front [] (cs ++ c ∷ []) more given) all))

agree : (cs : List Command) → AreAccepted [] cs → AllAgree (entries_of cs)
agree cs accepted = agree_from [] cs accepted tt

-- ---- in the order of identifiers

lower_number : (o m p n : ℕ) → o ≡ p → identifier_cmp (pos o, pos m) (pos p, pos n) ≡ Less → m < n
lower_number o m p n same less = grind (arith, ints)

none_later : (a b : ℕ) → nat_lt a b ≡ true → ¬ (b ≤ a)
none_later a b e h = grind (arith, nat_tests)

not_early : (x y : Entry) → entry_order x y ≡ Less → Agree x y → is_early (Some (turn_of x)) y ≡ false
not_early x y less agrees = go (is_early (Some (turn_of x)) y) refl
  where
    go : (b : Bool) → is_early (Some (turn_of x)) y ≡ b → b ≡ false
    go false e = refl
    go true e =
        let parts = and_parts (object_number x.version.object == object_number y.version.object) (nat_lt y.entered x.entered) e in
        let same = eqb-true (object_number x.version.object) (object_number y.version.object) parts.0 in
        absurd (none_later y.entered x.entered parts.1 (agrees same (lower_number (object_number x.version.object) x.version.number (object_number y.version.object) y.version.number same less)))

none_early : (x : Entry) (es : List Entry) → IsStrictlySortedBy entry_order (x ∷ es) → AllAgree (x ∷ es) → first_early (Some (turn_of x)) es ≡ None
unfolding IsStrictlySortedBy
none_early x [] up all = refl
none_early x (y ∷ es) up all =
    let later : AllAgree (y ∷ es) = all_weaker (AgreesWithAll (x ∷ (y ∷ es))) (AgreesWithAll (y ∷ es)) (λ z h. h.1) (y ∷ es) all.1 in
    ap (λ b. cond b (Some y) (first_early (Some (turn_of y)) es)) (not_early x y up.0.0 all.1.0.0) ∙ none_early y es up.1 later

none_early_in : (es : List Entry) → IsStrictlySortedBy entry_order es → AllAgree es → first_early None es ≡ None
none_early_in [] up all = refl
none_early_in (x ∷ es) up all = none_early x es up all

-- no version that commands made was entered before the one before it
pub none_earlier : (cs : List Command) → AreAccepted [] cs → earlier_damage (all_entries cs) ≡ None
none_earlier cs accepted =
    let es = entries_of cs in
    let sorted = all_entries cs in
    let all = all_sorted entry_order (AgreesWithAll sorted) es (all_weaker (AgreesWithAll es) (AgreesWithAll sorted) (λ y h. all_sorted entry_order (λ x. Agree x y) es h) es (agree cs accepted)) in
    ap (λ o. option_map damage_of o) (none_early_in sorted (sort_rises entry_order entries_total es (entries_apart cs accepted)) all)

-- the fault that names one is not the store's
pub not_earlier : (fault : RegisterFault) (es : List Entry) → fault ≡ Store → ¬ (earlier_damage es ≡ Some fault)
not_earlier fault es s e = go (first_early None es) e
  where
    go : (found : Option Entry) → ¬ (option_map damage_of found ≡ Some fault)
    go None f = absurd cc
    go (Some x) f = absurd cc
