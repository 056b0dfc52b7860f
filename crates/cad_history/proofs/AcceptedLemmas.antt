-- What accepted commands make is a listing, and there are not too many of them.
use Rattle.std.proofs.Common.{◌≡◌, ℕ, zero, suc, ◌+◌, ◌≤◌, ◌≤ℤ◌, Bool, true, false, cond, ◌&&◌, List, [], ◌∷◌, ◌++◌, length, length-append, map, find, fold, take, Option, Some, None, is_none, refl, sym, ap, subst, arith, true≢false}
use Rattle.std.specs.List.{AllByRecursion}
use Rattle.std.specs.Option.{ForSome}
use Rattle.std.proofs.lemmas.List.{length-map}
use Rattle.std.proofs.lemmas.List.Elements.{All-from_recursion}
use Rattle.std.specs.Cmp.{second_so}
use Rattle.cad_day.specs.declared.day.Day.{Day}
use Rattle.cad_day.specs.Days.{number_of}
use Rattle.cad_versions.specs.declared.object_id.ObjectId.{ObjectId}
use Rattle.cad_versions.specs.declared.command.Command.{Command}
use Rattle.cad_versions.specs.declared.command.Command.TheVariants.{Enter, Amend, Retire}
use Rattle.cad_versions.specs.AsOf.{as_of}
use Rattle.cad_versions.specs.lemmas.ClosingLemmas.{entries_few}
use Rattle.cad_day.specs.DayBefore.{day_before}
use Rattle.cad_versions.specs.Entries.{version_in, entries_of}
use Rattle.cad_versions.specs.lemmas.EntryLemmas.{versions_of_entries}
use Rattle.cad_versions.specs.Histories.{IsForward, IsHistory}
use Rattle.cad_versions.specs.lemmas.HistoryLemmas.{HasHistories, histories, is_of_own, retires}
use Rattle.cad_versions.specs.Identifiers.{by_identifier}
use Rattle.cad_versions.specs.lemmas.ListLemmas.{all_weaker, filter_fewer}
use Rattle.cad_versions.specs.lemmas.OrderLemmas.{identifiers_apart, versions_total}
use Rattle.cad_versions.specs.Refusals.{refusal, most_versions, AreAccepted}
use Rattle.cad_versions.specs.VersionedObject.{VersionedObject, IsVersion}
use Rattle.cad_versions.specs.Versions.{is_of, is_open_of, history, closed_on, closed_if_open, begun, next_number, versions_after, versions}
use Rattle.cad_history.specs.Accepted.{AcceptedAreListed, AcceptedAreFew}
use Rattle.cad_versions.specs.lemmas.SortLemmas.{all_sorted, length-sort_by, sort_rises}

-- ---- the first commands of accepted ones are accepted

fewer : (n : ℕ) (vs : List VersionedObject) (cs : List Command) → AreAccepted vs cs → AreAccepted vs (take n cs)
fewer zero vs cs all = tt
fewer (suc n) vs [] all = tt
fewer (suc n) vs (c ∷ cs) all = (all.0, fewer n (versions_after vs c) cs all.1)

few_versions : (cs : List Command) → AreAccepted [] cs → length (versions cs) ≤ most_versions
few_versions cs all =
    let n : length (map version_in (entries_of cs)) ≡ length (versions cs) = ap length (versions_of_entries cs) in
    omega (arith, entries_few cs all, n, length-map (entries_of cs) version_in)

-- ---- each is a version

-- a version with a number up to this one
pub record IsNumbered (most : ℕ) (v : VersionedObject) : Type 0 where
  pub positive : 1 ≤ v.number
  pub small : v.number ≤ most
  pub forward : ForSome v.last (λ last. number_of v.first ≤ℤ number_of last)

forward_is : (v : VersionedObject) (last : Option Day) → IsForward v last → ForSome last (λ day. number_of v.first ≤ℤ number_of day)
forward_is v None h = λ day e. absurd cc
forward_is v (Some last) h = λ day e. let same : last ≡ day = cc in subst (λ (d : Day). number_of v.first ≤ℤ number_of d) same h

in_history : (most n : ℕ) (vs : List VersionedObject) → 1 ≤ n → n + length vs ≤ most + 1 → IsHistory n vs → AllByRecursion (IsNumbered most) vs
in_history most n [] some few h = tt
in_history most n (v ∷ []) some few h =
    let e : v.number ≡ n = h.0 in
    (record { positive = omega arith; small = omega (arith, few); forward = forward_is v v.last h.1 }, tt)
in_history most n (v ∷ (w ∷ vs)) some few h =
    let e : v.number ≡ n = h.0 in
    (record { positive = omega arith; small = omega (arith, few); forward = forward_is v v.last h.1 }, in_history most (n + 1) (w ∷ vs) (omega arith) (omega (arith, few)) h.3)

-- what holds of the versions of each object holds of all
of_each : (P : VersionedObject → Type 0) (vs : List VersionedObject) → ((object : ObjectId) → AllByRecursion P (history object vs)) → AllByRecursion P vs
of_each P [] all = tt
of_each P (v ∷ vs) all =
    let own = subst (λ t. AllByRecursion P (cond t (v ∷ history v.object vs) (history v.object vs))) (is_of_own v.object v refl) (all v.object) in
    (own.0, of_each P vs (λ object. rest object (is_of object v) (all object)))
  where
    rest : (object : ObjectId) (t : Bool) → AllByRecursion P (cond t (v ∷ history object vs) (history object vs)) → AllByRecursion P (history object vs)
    rest object true h = h.1
    rest object false h = h

all_numbered : (most : ℕ) (vs : List VersionedObject) → length vs ≤ most → HasHistories vs → AllByRecursion (IsNumbered most) vs
all_numbered most vs few all =
    of_each (IsNumbered most) vs (λ object. in_history most 1 (history object vs) (omega arith) (omega (arith, few, filter_fewer (is_of object) vs)) (all object))

-- ---- a listing

pub listed : AcceptedAreListed
listed cs all revision =
    let before = fewer revision [] cs all in
    let vs = versions (take revision cs) in
    let h = histories (take revision cs) before in
    let few = few_versions (take revision cs) before in
    let numbered = all_weaker (IsNumbered most_versions) IsVersion (λ v is. record { positive = is.positive; small = is.small; forward = is.forward }) vs (all_numbered most_versions vs few h) in
    record {
      ascending = sort_rises by_identifier versions_total vs (identifiers_apart vs h);
      few = omega (arith, few, length-sort_by by_identifier vs);
      each = All-from_recursion IsVersion (as_of revision cs) (all_sorted by_identifier IsVersion vs numbered);
    }

-- ---- how many commands there can be

-- how many versions have ended
abbrev ended : Option Day → ℕ
ended None = 0
ended (Some day) = 1

abbrev endings : List VersionedObject → ℕ
endings [] = 0
endings (v ∷ vs) = ended v.last + endings vs

endings_few : (vs : List VersionedObject) → endings vs ≤ length vs
endings_few [] = omega arith
endings_few (v ∷ vs) = omega (arith, one v.last, endings_few vs)
  where
    one : (last : Option Day) → ended last ≤ 1
    one None = omega arith
    one (Some day) = omega arith

endings_push : (vs : List VersionedObject) (v : VersionedObject) → endings vs ≤ endings (vs ++ v ∷ [])
endings_push [] v = omega arith
endings_push (w ∷ vs) v = omega (arith, endings_push vs v)

-- a closing ends no fewer
kept_ended : (object : ObjectId) (day : Day) (v : VersionedObject) → ended v.last ≤ ended (closed_if_open object day v).last
kept_ended object day v = elim (is_open_of object v) as (λ t. ended v.last ≤ ended (cond t (closed_on day v) v).last) [ true ↦ one v.last | false ↦ omega arith ]
  where
    one : (last : Option Day) → ended last ≤ ended (Some day)
    one None = omega arith
    one (Some other) = omega arith

endings_stay : (object : ObjectId) (day : Day) (vs : List VersionedObject) → endings vs ≤ endings (map (closed_if_open object day) vs)
endings_stay object day [] = omega arith
endings_stay object day (v ∷ vs) = omega (arith, kept_ended object day v, endings_stay object day vs)

-- and one more, where an open version is found
ends_open : (object : ObjectId) (day : Day) (v : VersionedObject) → is_open_of object v ≡ true → ended v.last + 1 ≤ ended (closed_if_open object day v).last
ends_open object day v is = subst (λ t. ended v.last + 1 ≤ ended (cond t (closed_on day v) v).last) (sym is) (one v.last is)
  where
    one : (last : Option Day) → (is_of object v && is_none last) ≡ true → ended last + 1 ≤ ended (Some day)
    one None h = omega arith
    one (Some other) h = absurd (true≢false (sym (second_so (is_of object v) false h)))

endings_rise : (object : ObjectId) (day : Day) (vs : List VersionedObject) (found : VersionedObject) → find (is_open_of object) vs ≡ Some found → endings vs + 1 ≤ endings (map (closed_if_open object day) vs)
endings_rise object day [] found h = absurd cc
endings_rise object day (v ∷ vs) found h = go (is_open_of object v) refl h (endings_rise object day vs found)
  where
    go : (t : Bool) → is_open_of object v ≡ t → cond t (Some v) (find (is_open_of object) vs) ≡ Some found → (find (is_open_of object) vs ≡ Some found → endings vs + 1 ≤ endings (map (closed_if_open object day) vs))
        → ended v.last + endings vs + 1 ≤ ended (closed_if_open object day v).last + endings (map (closed_if_open object day) vs)
    go true is h more = omega (arith, ends_open object day v is, endings_stay object day vs)
    go false is h more = omega (arith, kept_ended object day v, more h)

-- each command adds a version or ends one
one_command : (vs : List VersionedObject) (c : Command) → refusal vs c ≡ None → length vs + endings vs + 1 ≤ length (versions_after vs c) + endings (versions_after vs c)
one_command vs (Enter object first body) e =
    omega (arith, length-append vs (begun object 1 first body ∷ []), endings_push vs (begun object 1 first body))
one_command vs (Amend object first body) e =
    let closed = map (closed_if_open object (day_before first)) vs in
    let new = begun object (next_number object vs) first body in
    omega (arith, length-append closed (new ∷ []), length-map vs (closed_if_open object (day_before first)), endings_push closed new, endings_stay object (day_before first) vs)
one_command vs (Retire object last) e =
    let a = retires object last vs e in
    omega (arith, length-map vs (closed_if_open object last), endings_rise object last vs a.standing a.found)

commands_from : (vs : List VersionedObject) (cs : List Command) → AreAccepted vs cs → length vs + endings vs + length cs ≤ length (fold versions_after vs cs) + endings (fold versions_after vs cs)
commands_from vs [] all = omega arith
commands_from vs (c ∷ cs) all = omega (arith, one_command vs c all.0, commands_from (versions_after vs c) cs all.1)

pub few_commands : AcceptedAreFew
few_commands cs all = omega (arith, commands_from [] cs all, endings_few (versions cs), few_versions cs all)
