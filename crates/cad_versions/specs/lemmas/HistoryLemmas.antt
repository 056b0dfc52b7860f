-- Each object's versions are a history, no matter which commands were accepted.
use Rattle.std.proofs.Common.{◌≡◌, ℕ, ◌+◌, ℤ, pos, ◌≤ℤ◌, ◌<ℤ◌, ◌-ℤ◌, Bool, true, false, cond, ◌&&◌, List, [], ◌∷◌, ◌++◌, length, map, filter, find, fold, Option, Some, None, refl, sym, ap, ap₂, ◌∙◌, subst, arith, int_le, int_lt, is_none, append-nil, int_eq, option_map, true≢false}
use Rattle.std.specs.List.{AllByRecursion}
use Rattle.std.proofs.lemmas.Int.{ints}
use Rattle.std.proofs.lemmas.List.Elements.{filter-append}
use Rattle.cad_versions.specs.lemmas.ListLemmas.{filter-map, filter_same, all_weaker, all_kept}
use Rattle.cad_day.specs.declared.day.Day.{Day}
use Rattle.cad_day.specs.Days.{number_of}
use Rattle.cad_versions.specs.declared.object_id.ObjectId.{ObjectId}
use Rattle.cad_versions.specs.declared.body.Body.{Body}
use Rattle.cad_versions.specs.declared.body.Class.{Class}
use Rattle.cad_versions.specs.declared.command.Command.{Command}
use Rattle.cad_versions.specs.declared.command.Command.TheVariants.{Enter, Amend, Retire}
use Rattle.cad_versions.specs.declared.fault.RegisterFault.{RegisterFault}
use Rattle.cad_versions.specs.Objects.{object_number}
use Rattle.cad_versions.specs.Class.{class_of}
use Rattle.cad_versions.specs.Command.{object_named}
use Rattle.cad_versions.specs.VersionedObject.{VersionedObject}
use Rattle.cad_day.specs.DayBefore.{day_before, number_of-day_before}
use Rattle.cad_versions.specs.Versions.{is_of, is_open_of, history, closed_on, closed_if_open, begun, next_number, versions_after, versions}
use Rattle.cad_versions.specs.Refusals.{class_at, open_since, refuse_if, refuses_closing, refuses_object, or_else, refusal, AreAccepted}
use Rattle.cad_versions.specs.Histories.{EndsBefore, IsHistory}
use Rattle.std.proofs.lemmas.Bool.{and_parts}

-- ---- objects

numbers_apart : (n : ℕ) (a b : ObjectId) → int_eq (pos (object_number b)) (pos (object_number a)) ≡ false → int_eq (pos n) (pos (object_number a)) ≡ true → int_eq (pos n) (pos (object_number b)) ≡ false
numbers_apart n a b e h = grind (arith, ints)

pub same_number : (a b : ObjectId) → int_eq (pos (object_number b)) (pos (object_number a)) ≡ true → object_number a ≡ object_number b
same_number a b e = grind (arith, ints)

-- ---- the versions of one object

pub history_same : (a b : ObjectId) → object_number a ≡ object_number b → (vs : List VersionedObject) → history a vs ≡ history b vs
history_same a b e vs = ap (λ n. filter (λ (v : VersionedObject). int_eq (pos (object_number v.object)) (pos n)) vs) e

closing_keeps : (object closing : ObjectId) (day : Day) (v : VersionedObject) → is_of object (closed_if_open closing day v) ≡ is_of object v
closing_keeps object closing day v = elim (is_open_of closing v) as (λ t. is_of object (cond t (closed_on day v) v) ≡ is_of object v) [ true ↦ refl | false ↦ refl ]

pub history-closed : (object closing : ObjectId) (day : Day) (vs : List VersionedObject) → history object (map (closed_if_open closing day) vs) ≡ map (closed_if_open closing day) (history object vs)
history-closed object closing day vs = filter-map _ _ vs ∙ ap (map (closed_if_open closing day)) (filter_same _ _ (closing_keeps object closing day) vs)

-- a closing leaves the versions of other objects unchanged
others_stay : (object closing : ObjectId) (day : Day) → int_eq (pos (object_number closing)) (pos (object_number object)) ≡ false → (vs : List VersionedObject) → map (closed_if_open closing day) (history object vs) ≡ history object vs
others_stay object closing day e [] = refl
others_stay object closing day e (v ∷ vs) = go (is_of object v) refl (others_stay object closing day e vs)
  where
    go : (t : Bool) → is_of object v ≡ t → map (closed_if_open closing day) (history object vs) ≡ history object vs → map (closed_if_open closing day) (cond t (v ∷ history object vs) (history object vs)) ≡ cond t (v ∷ history object vs) (history object vs)
    go false is more = more
    go true is more = let other : is_of closing v ≡ false = numbers_apart (object_number v.object) object closing e is in
        let stays : closed_if_open closing day v ≡ v = ap (λ t. cond (t && is_none v.last) (closed_on day v) v) other in
        ap₂ ◌∷◌ stays more

pub history-push : (object : ObjectId) (vs : List VersionedObject) (v : VersionedObject) (t : Bool) → is_of object v ≡ t → history object (vs ++ v ∷ []) ≡ history object vs ++ cond t (v ∷ []) []
history-push object vs v t e = filter-append _ vs (v ∷ []) ∙ ap (λ b. history object vs ++ cond b (v ∷ []) []) e

pub find-filter : (object : ObjectId) (vs : List VersionedObject) → find (is_open_of object) vs ≡ find (is_open_of object) (history object vs)
find-filter object [] = refl
find-filter object (v ∷ vs) = go (is_of object v) refl (find-filter object vs)
  where
    go : (t : Bool) → is_of object v ≡ t → find (is_open_of object) vs ≡ find (is_open_of object) (history object vs) → cond (is_of object v && is_none v.last) (Some v) (find (is_open_of object) vs) ≡ find (is_open_of object) (cond t (v ∷ history object vs) (history object vs))
    go false e more = ap (λ t. cond (t && is_none v.last) (Some v) (find (is_open_of object) vs)) e ∙ more
    go true e more = ap (cond (is_of object v && is_none v.last) (Some v)) more

none_found : (object : ObjectId) (vs : List VersionedObject) → find (is_of object) vs ≡ None → history object vs ≡ []
none_found object [] e = refl
none_found object (v ∷ vs) e = go (is_of object v) e (none_found object vs)
  where
    go : (t : Bool) → cond t (Some v) (find (is_of object) vs) ≡ None → (find (is_of object) vs ≡ None → history object vs ≡ []) → cond t (v ∷ history object vs) (history object vs) ≡ []
    go true e more = absurd cc
    go false e more = more e

-- ---- closing the open version of a history

pub closed_is_not_open : (object : ObjectId) (v : VersionedObject) (day : Day) → v.last ≡ Some day → is_open_of object v ≡ false
closed_is_not_open object v day e = ap (λ l. is_of object v && is_none l) e ∙ elim (is_of object v) as (λ t. (t && false) ≡ false) [ true ↦ refl | false ↦ refl ]

-- if a version follows one that is closed on this day, it begins on the next day
abbrev pub BeginsAfter : Day → List VersionedObject → Type 0
BeginsAfter day [] = Unit {0}
BeginsAfter day (v ∷ vs) = number_of day ≡ number_of v.first -ℤ pos 1

ends_same : (object : ObjectId) (day : Day) (l : Option Day) (w : VersionedObject) → EndsBefore l w → EndsBefore l (closed_if_open object day w)
ends_same object day None w h = absurd h
ends_same object day (Some last) w h = elim (is_open_of object w) as (λ t. number_of last ≡ number_of (cond t (closed_on day w) w).first -ℤ pos 1) [ true ↦ h | false ↦ h ]

joined : (n : ℕ) (v : VersionedObject) (tail : List VersionedObject) (day : Day) → v.number ≡ n → number_of v.first ≤ℤ number_of day → BeginsAfter day tail → IsHistory (n + 1) tail → IsHistory n (closed_on day v ∷ tail)
joined n v [] day e f later h = (e, f)
joined n v (w ∷ tail) day e f later h = (e, f, later, h)

pub closed_history : (n : ℕ) (object : ObjectId) (found : VersionedObject) (day : Day) (v : VersionedObject) (vs tail : List VersionedObject) → IsHistory n (v ∷ vs) → find (is_open_of object) (v ∷ vs) ≡ Some found
    → number_of found.first ≤ℤ number_of day → BeginsAfter day tail → IsHistory (n + length (v ∷ vs)) tail → IsHistory n (map (closed_if_open object day) (v ∷ vs) ++ tail)
closed_history n object found day v [] tail h f forward later rest = go (is_open_of object v) f
  where
    go : (t : Bool) → cond t (Some v) None ≡ Some found → IsHistory n (cond t (closed_on day v) v ∷ tail)
    go true e = let same : v ≡ found = cc in joined n v tail day h.0 (rw same forward) later rest
    go false e = absurd cc
closed_history n object found day v (w ∷ vs) tail h f forward later rest =
    go v.last refl (λ e. closed_history (n + 1) object found day w vs tail h.3 e forward later (subst (λ m. IsHistory m tail) (omega arith) rest))
  where
    go : (l : Option Day) → v.last ≡ l → (find (is_open_of object) (w ∷ vs) ≡ Some found → IsHistory (n + 1) (map (closed_if_open object day) (w ∷ vs) ++ tail)) → IsHistory n (map (closed_if_open object day) (v ∷ (w ∷ vs)) ++ tail)
    go None e next = absurd (subst (λ l. EndsBefore l w) e h.2)
    go (Some last) e next =
        let shut : is_open_of object v ≡ false = closed_is_not_open object v last e in
        let more = next (ap (λ t. cond t (Some v) (find (is_open_of object) (w ∷ vs))) (sym shut) ∙ f) in
        subst (λ t. IsHistory n (cond t (closed_on day v) v ∷ (map (closed_if_open object day) (w ∷ vs) ++ tail))) (sym shut)
        (h.0, h.1, ends_same object day v.last w h.2, more)

-- ---- why an accepted command may be accepted

pub unrefused : (t : Bool) (f : RegisterFault) → refuse_if t f ≡ None → t ≡ false
unrefused true f e = absurd cc
unrefused false f e = refl

pub neither : (one next : Option RegisterFault) → or_else one next ≡ None → (one ≡ None) × (next ≡ None)
neither None next e = (refl, e)
neither (Some f) next e = absurd cc

-- the open version is there, and begins in time
pub record Closes (object : ObjectId) (is_late : Day → Bool) (vs : List VersionedObject) : Type 0 where
  pub standing : VersionedObject
  pub found : find (is_open_of object) vs ≡ Some standing
  pub timely : is_late standing.first ≡ false

closes : (object : ObjectId) (is_late : Day → Bool) (vs : List VersionedObject) → refuses_closing is_late (open_since vs object) ≡ None → Closes object is_late vs
closes object is_late vs e = go (find (is_open_of object) vs) refl e
  where
    go : (o : Option VersionedObject) → find (is_open_of object) vs ≡ o → refuses_closing is_late (option_map (λ (v : VersionedObject). v.first) o) ≡ None → Closes object is_late vs
    go None is e = absurd cc
    go (Some v) is e = record { standing = v; found = is; timely = unrefused (is_late v.first) _ e }

pub amends : (object : ObjectId) (first : Day) (body : Body) (vs : List VersionedObject) → refusal vs (Amend object first body) ≡ None → Closes object (λ begun. int_le (number_of first) (number_of begun)) vs
amends object first body vs e = go (class_at vs object) (neither _ _ e).0
  where
    go : (o : Option Class) → refuses_object o (open_since vs object) (Amend object first body) ≡ None → Closes object (λ begun. int_le (number_of first) (number_of begun)) vs
    go None e = absurd cc
    go (Some class) e = closes object _ vs (neither _ _ e).1

pub retires : (object : ObjectId) (last : Day) (vs : List VersionedObject) → refusal vs (Retire object last) ≡ None → Closes object (λ begun. int_lt (number_of last) (number_of begun)) vs
retires object last vs e = go (class_at vs object) (neither _ _ e).0
  where
    go : (o : Option Class) → refuses_object o (open_since vs object) (Retire object last) ≡ None → Closes object (λ begun. int_lt (number_of last) (number_of begun)) vs
    go None e = absurd cc
    go (Some class) e = closes object _ vs e

pub enters : (object : ObjectId) (first : Day) (body : Body) (vs : List VersionedObject) → refusal vs (Enter object first body) ≡ None → history object vs ≡ []
enters object first body vs e = none_found object vs (go (find (is_of object) vs) (neither _ _ e).0)
  where
    go : (o : Option VersionedObject) → refuses_object (option_map (λ (v : VersionedObject). class_of v.body) o) (open_since vs object) (Enter object first body) ≡ None → o ≡ None
    go None h = refl
    go (Some v) h = absurd cc

-- ---- one more command

pub le_fails : (a b : ℤ) → int_le a b ≡ false → b <ℤ a
le_fails a b h = grind (arith, ints)

pub lt_fails : (a b : ℤ) → int_lt a b ≡ false → b ≤ℤ a
lt_fails a b h = grind (arith, ints)

pub under : (m n d : ℤ) → m <ℤ n → d ≡ n -ℤ pos 1 → m ≤ℤ d
under m n d h e = grind (arith, ints)

pub is_of_own : (object : ObjectId) (v : VersionedObject) → v.object ≡ object → is_of object v ≡ true
is_of_own object v e = let same : object_number v.object ≡ object_number object = ap object_number e in grind (arith, ints)

-- closing the open version of an object keeps its history, and what begins later may follow
pub history_closing : (object : ObjectId) (day : Day) (vs tail : List VersionedObject) (v : VersionedObject) → IsHistory 1 (history object vs) → find (is_open_of object) vs ≡ Some v
    → number_of v.first ≤ℤ number_of day → BeginsAfter day tail → IsHistory (1 + length (history object vs)) tail → IsHistory 1 (map (closed_if_open object day) (history object vs) ++ tail)
history_closing object day vs tail v h f forward later rest = go (history object vs) h (sym (find-filter object vs) ∙ f) rest
  where
    go : (xs : List VersionedObject) → IsHistory 1 xs → find (is_open_of object) xs ≡ Some v → IsHistory (1 + length xs) tail → IsHistory 1 (map (closed_if_open object day) xs ++ tail)
    go [] h f rest = absurd cc
    go (x ∷ xs) h f rest = closed_history 1 object v day x xs tail h f forward later rest

own : (vs : List VersionedObject) (c : Command) → refusal vs c ≡ None → IsHistory 1 (history (object_named c) vs) → IsHistory 1 (history (object_named c) (versions_after vs c))
own vs (Enter object first body) e h =
    let here = is_of_own object (begun object 1 first body) refl in
    subst (IsHistory 1) (sym (history-push object vs (begun object 1 first body) true here)) (rw (enters object first body vs e) (refl, tt))
own vs (Amend object first body) e h =
    let k = next_number object vs in
    let new = begun object k first body in
    let here = is_of_own object new refl in
    let a = amends object first body vs e in
    let v = a.standing in
    let day = day_before first in
    let less = le_fails (number_of first) (number_of v.first) a.timely in
    let before = number_of-day_before v.first first less in
    let forward = under (number_of v.first) (number_of first) (number_of day) less before in
    let number : k ≡ 1 + length (history object vs) = omega arith in
    subst (IsHistory 1) (sym (history-push object (map (closed_if_open object day) vs) new true here ∙ ap (λ xs. xs ++ new ∷ []) (history-closed object object day vs)))
    (history_closing object day vs (new ∷ []) v h a.found forward before (number, tt))
own vs (Retire object last) e h =
    let a = retires object last vs e in
    let v = a.standing in
    let forward = lt_fails (number_of last) (number_of v.first) a.timely in
    subst (IsHistory 1) (append-nil _ ∙ sym (history-closed object object last vs)) (history_closing object last vs [] v h a.found forward tt tt)

pub other_history : (vs : List VersionedObject) (c : Command) (object : ObjectId) → int_eq (pos (object_number (object_named c))) (pos (object_number object)) ≡ false → history object (versions_after vs c) ≡ history object vs
other_history vs (Enter o first body) object e = history-push object vs _ false e ∙ append-nil _
other_history vs (Amend o first body) object e = history-push object _ _ false e ∙ append-nil _ ∙ history-closed object o (day_before first) vs ∙ others_stay object o (day_before first) e vs
other_history vs (Retire o last) object e = history-closed object o last vs ∙ others_stay object o last e vs

abbrev pub HasHistories : List VersionedObject → Type 0
HasHistories vs = (object : ObjectId) → IsHistory 1 (history object vs)

pub histories_then : (vs : List VersionedObject) (c : Command) → refusal vs c ≡ None → HasHistories vs → HasHistories (versions_after vs c)
histories_then vs c e h object = go (int_eq (pos (object_number (object_named c))) (pos (object_number object))) refl
  where
    go : (t : Bool) → int_eq (pos (object_number (object_named c))) (pos (object_number object)) ≡ t → IsHistory 1 (history object (versions_after vs c))
    go true is = subst (IsHistory 1) (sym (history_same object (object_named c) (same_number object (object_named c) is) (versions_after vs c))) (own vs c e (h (object_named c)))
    go false is = subst (IsHistory 1) (sym (other_history vs c object is)) (h object)

pub histories_from : (vs : List VersionedObject) (cs : List Command) → AreAccepted vs cs → HasHistories vs → HasHistories (fold versions_after vs cs)
histories_from vs [] all h = h
histories_from vs (c ∷ cs) all h = histories_from (versions_after vs c) cs all.1 (histories_then vs c all.0 h)

pub histories : (cs : List Command) → AreAccepted [] cs → HasHistories (versions cs)
histories cs all = histories_from [] cs all (λ object. tt)

-- ---- the open version of an object

-- in a history only the last version may be open
only_last_open : (object : ObjectId) (found : VersionedObject) (n : ℕ) (vs : List VersionedObject) → IsHistory n vs → find (is_open_of object) vs ≡ Some found → AllByRecursion (λ v. is_open_of object v ≡ true → v ≡ found) vs
only_last_open object found n [] h f = tt
only_last_open object found n (v ∷ []) h f = (λ opened. some_same v found (ap (λ t. cond t (Some v) None) (sym opened) ∙ f), tt)
  where
    some_same : (a b : VersionedObject) → Some a ≡ Some b → a ≡ b
    some_same a b e = cc
only_last_open object found n (v ∷ (w ∷ vs)) h f = go v.last refl (only_last_open object found (n + 1) (w ∷ vs) h.3)
  where
    go : (l : Option Day) → v.last ≡ l → (find (is_open_of object) (w ∷ vs) ≡ Some found → AllByRecursion (λ u. is_open_of object u ≡ true → u ≡ found) (w ∷ vs)) → AllByRecursion (λ u. is_open_of object u ≡ true → u ≡ found) (v ∷ (w ∷ vs))
    go None e next = absurd (subst (λ l. EndsBefore l w) e h.2)
    go (Some last) e next =
        let shut : is_open_of object v ≡ false = closed_is_not_open object v last e in
        (λ opened. absurd (true≢false (sym opened ∙ shut)), next (ap (λ t. cond t (Some v) (find (is_open_of object) (w ∷ vs))) (sym shut) ∙ f))

-- at most one version of an object is open
pub only_open : (object : ObjectId) (found : VersionedObject) (vs : List VersionedObject) → IsHistory 1 (history object vs) → find (is_open_of object) vs ≡ Some found → AllByRecursion (λ v. is_open_of object v ≡ true → v ≡ found) vs
only_open object found vs h f =
    all_weaker (λ v. is_of object v ≡ true → is_open_of object v ≡ true → v ≡ found) (λ v. is_open_of object v ≡ true → v ≡ found) (λ v k opened. k (and_parts (is_of object v) (is_none v.last) opened).0 opened) vs
    (all_kept (λ v. is_open_of object v ≡ true → v ≡ found) (is_of object) vs (only_last_open object found 1 (history object vs) h (sym (find-filter object vs) ∙ f)))
