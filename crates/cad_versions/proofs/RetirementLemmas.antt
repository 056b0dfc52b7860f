-- An object's last version ends where a command retires the object, and nowhere else.
use Rattle.std.proofs.Common.{◌≡◌, ℕ, ◌+◌, pos, Bool, true, false, cond, List, [], ◌∷◌, ◌++◌, map, find, fold, Option, Some, None, refl, sym, ap, ap₂, ◌∙◌, subst, int_eq}
use Rattle.cad_day.specs.declared.day.Day.{Day}
use Rattle.cad_versions.specs.declared.object_id.ObjectId.{ObjectId}
use Rattle.cad_versions.specs.declared.command.Command.{Command}
use Rattle.cad_versions.specs.declared.command.Command.TheVariants.{Enter, Amend, Retire}
use Rattle.cad_versions.specs.Objects.{object_number}
use Rattle.cad_versions.specs.Command.{object_named}
use Rattle.cad_versions.specs.VersionedObject.{VersionedObject}
use Rattle.cad_day.specs.DayBefore.{day_before}
use Rattle.cad_versions.specs.Versions.{is_of, is_open_of, history, closed_on, closed_if_open, begun, next_number, versions_after, versions}
use Rattle.cad_versions.specs.Refusals.{refusal, AreAccepted}
use Rattle.cad_versions.specs.Histories.{EndsBefore, IsHistory, last_day, retired_on}
use Rattle.cad_versions.specs.lemmas.HistoryLemmas.{same_number, history_same, history-closed, history-push, find-filter, closed_is_not_open, amends, retires, enters, is_of_own, other_history, HasHistories, histories_then}
use Rattle.cad_versions.specs.lemmas.EntryLemmas.{open_is_none}

-- ---- the last of some versions

last_day-push : (vs : List VersionedObject) (v : VersionedObject) → last_day (vs ++ v ∷ []) ≡ v.last
last_day-push [] v = refl
last_day-push (w ∷ []) v = refl
last_day-push (w ∷ (u ∷ vs)) v = last_day-push (u ∷ vs) v

none_last : (t : Bool) (v found : VersionedObject) → cond t (Some v) None ≡ Some found → t ≡ true
none_last true v found e = refl
none_last false v found e = absurd cc

-- where a version is open, it is the last
open_last : (object : ObjectId) (n : ℕ) (vs : List VersionedObject) (found : VersionedObject) → IsHistory n vs → find (is_open_of object) vs ≡ Some found → last_day vs ≡ None
open_last object n [] found h f = absurd cc
open_last object n (v ∷ []) found h f = open_is_none (is_of object v) v.last (none_last (is_open_of object v) v found f)
open_last object n (v ∷ (w ∷ vs)) found h f = go v.last refl (open_last object (n + 1) (w ∷ vs) found h.3)
  where
    go : (l : Option Day) → v.last ≡ l → (find (is_open_of object) (w ∷ vs) ≡ Some found → last_day (w ∷ vs) ≡ None) → last_day (w ∷ vs) ≡ None
    go None e more = absurd (subst (λ l. EndsBefore l w) e h.2)
    go (Some day) e more = more (ap (λ t. cond t (Some v) (find (is_open_of object) (w ∷ vs))) (sym (closed_is_not_open object v day e)) ∙ f)

-- closed, it ends on the day
closed_last : (object : ObjectId) (day : Day) (n : ℕ) (vs : List VersionedObject) (found : VersionedObject) → IsHistory n vs → find (is_open_of object) vs ≡ Some found → last_day (map (closed_if_open object day) vs) ≡ Some day
closed_last object day n [] found h f = absurd cc
closed_last object day n (v ∷ []) found h f = ap (λ t. (cond t (closed_on day v) v).last) (none_last (is_open_of object v) v found f)
closed_last object day n (v ∷ (w ∷ vs)) found h f = go v.last refl (closed_last object day (n + 1) (w ∷ vs) found h.3)
  where
    go : (l : Option Day) → v.last ≡ l → (find (is_open_of object) (w ∷ vs) ≡ Some found → last_day (map (closed_if_open object day) (w ∷ vs)) ≡ Some day) → last_day (map (closed_if_open object day) (w ∷ vs)) ≡ Some day
    go None e more = absurd (subst (λ l. EndsBefore l w) e h.2)
    go (Some last) e more = more (ap (λ t. cond t (Some v) (find (is_open_of object) (w ∷ vs))) (sym (closed_is_not_open object v last e)) ∙ f)

-- ---- one command more

-- the first of two days that is there
abbrev first_of : Option Day → Option Day → Option Day
first_of None next = next
first_of (Some day) next = Some day

first_alone : (o : Option Day) → first_of o None ≡ o
first_alone None = refl
first_alone (Some day) = refl

-- what a command leaves of the end, and what it says of it itself
own_end : (vs : List VersionedObject) (c : Command) (cs : List Command) → refusal vs c ≡ None → IsHistory 1 (history (object_named c) vs)
    → first_of (last_day (history (object_named c) (versions_after vs c))) (retired_on (object_named c) cs) ≡ first_of (last_day (history (object_named c) vs)) (retired_on (object_named c) (c ∷ cs))
own_end vs (Enter object first body) cs e h =
    let new = begun object 1 first body in
    let after_is : history object (vs ++ new ∷ []) ≡ history object vs ++ new ∷ [] = history-push object vs new true (is_of_own object new refl) in
    ap (λ xs. first_of (last_day xs) (retired_on object cs)) (after_is ∙ ap (λ xs. xs ++ new ∷ []) (enters object first body vs e))
    ∙ sym (ap (λ xs. first_of (last_day xs) (retired_on object cs)) (enters object first body vs e))
own_end vs (Amend object first body) cs e h =
    let new = begun object (next_number object vs) first body in
    let closed = map (closed_if_open object (day_before first)) vs in
    let a = amends object first body vs e in
    let ends = open_last object 1 (history object vs) a.standing h (sym (find-filter object vs) ∙ a.found) in
    ap (λ o. first_of o (retired_on object cs)) (ap last_day (history-push object closed new true (is_of_own object new refl)) ∙ last_day-push (history object closed) new ∙ sym ends)
own_end vs (Retire object last) cs e h =
    let r = retires object last vs e in
    let found = sym (find-filter object vs) ∙ r.found in
    let same : int_eq (pos (object_number object)) (pos (object_number object)) ≡ true = is_of_own object (begun object 1 last r.standing.body) refl in
    ap (λ o. first_of o (retired_on object cs)) (ap last_day (history-closed object object last vs) ∙ closed_last object last 1 (history object vs) r.standing h found)
    ∙ sym (ap (λ o. first_of o (retired_on object (Retire object last ∷ cs))) (open_last object 1 (history object vs) r.standing h found) ∙ ap (λ t. cond t (Some last) (retired_on object cs)) same)

-- a command retires no other object
retires_own : (c : Command) (cs : List Command) (object : ObjectId) → int_eq (pos (object_number (object_named c))) (pos (object_number object)) ≡ false → retired_on object (c ∷ cs) ≡ retired_on object cs
retires_own (Enter o first body) cs object e = refl
retires_own (Amend o first body) cs object e = refl
retires_own (Retire o last) cs object e = ap (λ t. cond t (Some last) (retired_on object cs)) e

retired_same : (a b : ObjectId) → object_number a ≡ object_number b → (cs : List Command) → retired_on a cs ≡ retired_on b cs
retired_same a b e [] = refl
retired_same a b e (Enter o first body ∷ cs) = retired_same a b e cs
retired_same a b e (Amend o first body ∷ cs) = retired_same a b e cs
retired_same a b e (Retire o last ∷ cs) = ap (λ n. cond (int_eq (pos (object_number o)) (pos n)) (Some last) (retired_on a cs)) e ∙ ap (cond (int_eq (pos (object_number o)) (pos (object_number b))) (Some last)) (retired_same a b e cs)

end_then : (vs : List VersionedObject) (c : Command) (cs : List Command) (object : ObjectId) → refusal vs c ≡ None → HasHistories vs
    → first_of (last_day (history object (versions_after vs c))) (retired_on object cs) ≡ first_of (last_day (history object vs)) (retired_on object (c ∷ cs))
end_then vs c cs object e h = go (int_eq (pos (object_number (object_named c))) (pos (object_number object))) refl
  where
    go : (t : Bool) → int_eq (pos (object_number (object_named c))) (pos (object_number object)) ≡ t → first_of (last_day (history object (versions_after vs c))) (retired_on object cs) ≡ first_of (last_day (history object vs)) (retired_on object (c ∷ cs))
    go true is =
        let same = same_number object (object_named c) is in
        let its = λ (xs : List VersionedObject) (o : Option Day). first_of (last_day xs) o in
        ap₂ its (history_same object (object_named c) same (versions_after vs c)) (retired_same object (object_named c) same cs) ∙ own_end vs c cs e (h (object_named c))
        ∙ sym (ap₂ its (history_same object (object_named c) same vs) (retired_same object (object_named c) same (c ∷ cs)))
    go false is = ap₂ (λ xs o. first_of (last_day xs) o) (other_history vs c object is) (sym (retires_own c cs object is))

ends_from : (vs : List VersionedObject) (cs : List Command) (object : ObjectId) → AreAccepted vs cs → HasHistories vs → last_day (history object (fold versions_after vs cs)) ≡ first_of (last_day (history object vs)) (retired_on object cs)
ends_from vs [] object all h = sym (first_alone (last_day (history object vs)))
ends_from vs (c ∷ cs) object all h = ends_from (versions_after vs c) cs object all.1 (histories_then vs c all.0 h) ∙ end_then vs c cs object all.0 h

pub ends_when_retired : (cs : List Command) → AreAccepted [] cs → (object : ObjectId) → last_day (history object (versions cs)) ≡ retired_on object cs
ends_when_retired cs all object = ends_from [] cs object all (λ o. tt)
