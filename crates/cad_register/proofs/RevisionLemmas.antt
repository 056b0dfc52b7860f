-- The revisions of the entries that commands make.
use Rattle.std.proofs.Common.{◌≡◌, ℕ, ◌+◌, ◌≤◌, true, false, cond, List, [], ◌∷◌, length, map, Option, Some, None, refl, sym, subst, arith, zero-add}
use Rattle.std.specs.List.{AllByRecursion}
use Rattle.sqlite_keyed.proofs.ListLemmas.{all-append}
use Rattle.cad_day.specs.declared.day.Day.{Day}
use Rattle.cad_versions.specs.declared.object_id.ObjectId.{ObjectId}
use Rattle.cad_versions.specs.declared.command.Command.{Command}
use Rattle.cad_versions.specs.declared.command.Command.TheVariants.{Enter, Amend, Retire}
use Rattle.cad_day.specs.DayBefore.{day_before}
use Rattle.cad_versions.specs.VersionedObject.{VersionedObject}
use Rattle.cad_versions.specs.Versions.{is_open_of, closed_on, begun, next_number}
use Rattle.cad_versions.specs.Entries.{Entry, version_in, entered_at, close_entry, entries_after, entries_from, entries_of}
use Rattle.cad_versions.specs.lemmas.ListLemmas.{all_weaker, all_mapped}
use Rattle.cad_register.specs.Damage.{IsClosedBy, HasRevisions}

closed_later : (m n entered : ℕ) → m ≤ n → (last : Option Day) (closed : Option ℕ) → IsClosedBy m entered last closed → IsClosedBy n entered last closed
closed_later m n entered h None None is = tt
closed_later m n entered h None (Some closed) is = absurd is
closed_later m n entered h (Some last) None is = absurd is
closed_later m n entered h (Some last) (Some closed) is = (is.0, omega (arith, is.1))

later : (m n : ℕ) → m ≤ n → (e : Entry) → HasRevisions m e → HasRevisions n e
later m n h e is = record { entered = (is.entered.0, omega (arith, is.entered.1)); closed = closed_later m n e.entered h e.version.last e.closed is.closed }

closed_now : (object : ObjectId) (day : Day) (m n : ℕ) → m ≤ n → (e : Entry) → HasRevisions m e → HasRevisions n (close_entry object day n e)
closed_now object day m n h e is =
    elim (is_open_of object e.version) as (λ t. HasRevisions n (cond t (record { version = closed_on day e.version; entered = e.entered; closed = Some n }) e))
    [ true ↦ record { entered = (is.entered.0, omega (arith, is.entered.1)); closed = (omega (arith, is.entered.1), omega arith) } | false ↦ later m n h e is ]

all_closed : (object : ObjectId) (day : Day) (m n : ℕ) → m ≤ n → (es : List Entry) → AllByRecursion (HasRevisions m) es → AllByRecursion (HasRevisions n) (map (close_entry object day n) es)
all_closed object day m n h es all =
    all_mapped (HasRevisions n) (close_entry object day n) es (all_weaker (HasRevisions m) (λ e. HasRevisions n (close_entry object day n e)) (λ e is. closed_now object day m n h e is) es all)

made : (n : ℕ) (v : VersionedObject) → v.last ≡ None → HasRevisions (n + 1) (entered_at (n + 1) v)
made n v e = record { entered = (omega arith, omega arith); closed = subst (λ last. IsClosedBy (n + 1) (n + 1) last None) (sym e) tt }

after_one : (n : ℕ) (es : List Entry) (c : Command) → AllByRecursion (HasRevisions n) es → AllByRecursion (HasRevisions (n + 1)) (entries_after (n + 1) es c)
after_one n es (Enter object first body) all = all-append (HasRevisions (n + 1)) es (entered_at (n + 1) (begun object 1 first body) ∷ []) (all_weaker (HasRevisions n) (HasRevisions (n + 1)) (later n (n + 1) (omega arith)) es all) (made n _ refl, tt)
after_one n es (Amend object first body) all = all-append (HasRevisions (n + 1)) (map (close_entry object (day_before first) (n + 1)) es) (entered_at (n + 1) (begun object (next_number object (map version_in es)) first body) ∷ []) (all_closed object (day_before first) n (n + 1) (omega arith) es all) (made n _ refl, tt)
after_one n es (Retire object last) all = all_closed object last n (n + 1) (omega arith) es all

revisions_from : (n : ℕ) (es : List Entry) (cs : List Command) → AllByRecursion (HasRevisions n) es → AllByRecursion (HasRevisions (n + length cs)) (entries_from n es cs)
revisions_from n es [] all = subst (λ m. AllByRecursion (HasRevisions m) es) (omega arith) all
revisions_from n es (c ∷ cs) all = subst (λ m. AllByRecursion (HasRevisions m) (entries_from (n + 1) (entries_after (n + 1) es c) cs)) (omega arith) (revisions_from (n + 1) _ cs (after_one n es c all))

-- each was entered and closed by one of the commands
pub revisions : (cs : List Command) → AllByRecursion (HasRevisions (length cs)) (entries_of cs)
revisions cs = subst (λ m. AllByRecursion (HasRevisions m) (entries_of cs)) (zero-add (length cs)) (revisions_from 0 [] cs tt)
