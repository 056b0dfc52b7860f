-- The entries that a revision sees are the fold of that many commands.
use Rattle.std.proofs.Common.{◌≡◌, ℕ, ◌+◌, ◌≤◌, ◌<◌, pos, Bool, true, false, cond, List, [], ◌∷◌, ◌++◌, length, map, fold, take, drop, Option, Some, None, refl, sym, ap, ap₂, ◌∙◌, subst, arith, int_le, nat_le, zero-add, ◌&&◌, is_none, true≢false, IfSome, IfNone, append-nil}
use Rattle.std.specs.List.{AllByRecursion}
use Rattle.std.proofs.lemmas.Int.{ints}
use Rattle.std.proofs.lemmas.List.{map-append, length-take-le, take-append-drop}
use Rattle.std.proofs.lemmas.Bool.Decides.{nat_tests}
use Rattle.std.proofs.lemmas.List.Elements.{filter-append}
use Rattle.cad_versions.specs.lemmas.ListLemmas.{map-map, map_same, filter-map, filter_same}
use Rattle.cad_day.specs.declared.day.Day.{Day}
use Rattle.cad_versions.specs.declared.object_id.ObjectId.{ObjectId}
use Rattle.cad_versions.specs.declared.command.Command.{Command}
use Rattle.cad_versions.specs.declared.command.Command.TheVariants.{Enter, Amend, Retire}
use Rattle.cad_versions.specs.VersionedObject.{VersionedObject}
use Rattle.cad_day.specs.DayBefore.{day_before}
use Rattle.cad_versions.specs.Versions.{is_open_of, closed_on, closed_if_open, begun, next_number, versions_after, versions}
use Rattle.cad_versions.specs.Sorting.{sort_by}
use Rattle.cad_versions.specs.lemmas.ListLemmas.{sort_by-map}
use Rattle.cad_versions.specs.AsOf.{as_of, entries_listed, versions_at}
use Rattle.cad_versions.specs.Identifiers.{by_identifier}
use Rattle.cad_versions.specs.Entries.{Entry, version_in, entered_at, close_entry, entries_after, entries_from, entries_of, entries_at, is_closed_by, seen_at}

-- ---- the versions of the entries

closed_same : (object : ObjectId) (day : Day) (n : ℕ) (l : Entry) → version_in (close_entry object day n l) ≡ closed_if_open object day (version_in l)
closed_same object day n l = elim (is_open_of object l.version) as (λ b. version_in (cond b (record { version = closed_on day l.version; entered = l.entered; closed = Some n }) l) ≡ cond b (closed_on day l.version) l.version) [ true ↦ refl | false ↦ refl ]

closed_all : (object : ObjectId) (day : Day) (n : ℕ) (ls : List Entry) → map version_in (map (close_entry object day n) ls) ≡ map (closed_if_open object day) (map version_in ls)
closed_all object day n ls = map-map version_in _ ls ∙ map_same _ _ (closed_same object day n) ls ∙ sym (map-map (closed_if_open object day) version_in ls)

pub after_same : (n : ℕ) (ls : List Entry) (c : Command) → map version_in (entries_after n ls c) ≡ versions_after (map version_in ls) c
after_same n ls (Enter object first body) = map-append version_in ls _
after_same n ls (Amend object first body) = map-append version_in _ _ ∙ ap (λ l. l ++ begun object (next_number object (map version_in ls)) first body ∷ []) (closed_all object (day_before first) n ls)
after_same n ls (Retire object last) = closed_all object last n ls

from_same : (n : ℕ) (ls : List Entry) (cs : List Command) → map version_in (entries_from n ls cs) ≡ fold versions_after (map version_in ls) cs
from_same n ls [] = refl
from_same n ls (c ∷ cs) = from_same (n + 1) _ cs ∙ ap (λ vs. fold versions_after vs cs) (after_same (n + 1) ls c)

pub versions_of_entries : (cs : List Command) → map version_in (entries_of cs) ≡ versions cs
versions_of_entries cs = from_same 0 [] cs

-- ---- what a revision sees of them

late_le : (n r : ℕ) → r < n → int_le (pos n) (pos r) ≡ false
late_le n r h = grind (arith, ints)

late_nat : (n r : ℕ) → r < n → nat_le n r ≡ false
late_nat n r h = grind (arith, nat_tests)

pub open_is_none : (b : Bool) (o : Option Day) → (b && is_none o) ≡ true → o ≡ None
open_is_none true None h = refl
open_is_none true (Some d) h = absurd (true≢false (sym h))
open_is_none false o h = absurd (true≢false (sym h))

none_either : (b : Bool) (o : Option Day) → o ≡ None → cond b o None ≡ None
none_either true o h = h
none_either false o h = refl

abbrev with_last : VersionedObject → Option Day → VersionedObject
with_last v o = record { object = v.object; number = v.number; first = v.first; last = o; body = v.body }

-- a closing of a later revision is not seen
pub closing_unseen : (object : ObjectId) (day : Day) (n r : ℕ) → r < n → (l : Entry) → seen_at r (close_entry object day n l) ≡ seen_at r l
closing_unseen object day n r h l = go (is_open_of object l.version) refl
  where
    go : (t : Bool) → is_open_of object l.version ≡ t → seen_at r (cond t (record { version = closed_on day l.version; entered = l.entered; closed = Some n }) l) ≡ seen_at r l
    go false e = refl
    go true e = ap (with_last l.version) (ap (λ b. cond b (Some day) None) (late_nat n r h) ∙ sym (none_either (is_closed_by r l.closed) l.version.last (open_is_none _ l.version.last e)))

closing_stays : (object : ObjectId) (day : Day) (n r : ℕ) (ls : List Entry) → entries_at r (map (close_entry object day n) ls) ≡ map (close_entry object day n) (entries_at r ls)
closing_stays object day n r ls = filter-map _ _ ls ∙ ap (map (close_entry object day n)) (filter_same _ _ (λ l. elim (is_open_of object l.version) as (λ t. int_le (pos (cond t (record { version = closed_on day l.version; entered = l.entered; closed = Some n }) l).entered) (pos r) ≡ int_le (pos l.entered) (pos r)) [ true ↦ refl | false ↦ refl ]) ls)

close_unseen : (object : ObjectId) (day : Day) (n r : ℕ) → r < n → (ls : List Entry) → versions_at r (map (close_entry object day n) ls) ≡ versions_at r ls
close_unseen object day n r h ls = ap (map (seen_at r)) (closing_stays object day n r ls) ∙ map-map (seen_at r) _ (entries_at r ls) ∙ map_same _ _ (closing_unseen object day n r h) (entries_at r ls)

new_unseen : (n r : ℕ) (v : VersionedObject) → r < n → (ls : List Entry) → versions_at r (ls ++ entered_at n v ∷ []) ≡ versions_at r ls
new_unseen n r v h ls = ap (map (seen_at r)) (filter-append _ ls _ ∙ rw (late_le n r h) (append-nil _))

later_unseen : (n r : ℕ) → r < n → (ls : List Entry) (c : Command) → versions_at r (entries_after n ls c) ≡ versions_at r ls
later_unseen n r h ls (Enter object first body) = new_unseen n r _ h ls
later_unseen n r h ls (Amend object first body) = new_unseen n r _ h _ ∙ close_unseen object (day_before first) n r h ls
later_unseen n r h ls (Retire object last) = close_unseen object last n r h ls

all_later_unseen : (n r : ℕ) → r ≤ n → (ls : List Entry) (cs : List Command) → versions_at r (entries_from n ls cs) ≡ versions_at r ls
all_later_unseen n r h ls [] = refl
all_later_unseen n r h ls (c ∷ cs) = all_later_unseen (n + 1) r (omega arith) _ cs ∙ later_unseen (n + 1) r (omega arith) ls c

-- ---- what is seen now is all

-- an entry was entered and closed by now, and is open if it is not closed
pub record IsDated (n : ℕ) (l : Entry) : Type 0 where
  pub entered : l.entered ≤ n
  pub closed : IfNone l.closed (l.version.last ≡ None)
  pub before : IfSome l.closed (λ k. k ≤ n)

if_some_le : (o : Option ℕ) (m n : ℕ) → m ≤ n → IfSome o (λ k. k ≤ m) → IfSome o (λ k. k ≤ n)
if_some_le None m n h p = tt
if_some_le (Some k) m n h p = omega arith

pub dated_later : (m n : ℕ) → m ≤ n → (l : Entry) → IsDated m l → IsDated n l
dated_later m n h l d = let e : l.entered ≤ m = d.entered in record { entered = omega arith; closed = d.closed; before = if_some_le l.closed m n h d.before }

pub dated_closed : (object : ObjectId) (day : Day) (m n : ℕ) → m ≤ n → (l : Entry) → IsDated m l → IsDated n (close_entry object day n l)
dated_closed object day m n h l d = go (is_open_of object l.version)
  where
    go : (t : Bool) → IsDated n (cond t (record { version = closed_on day l.version; entered = l.entered; closed = Some n }) l)
    go false = dated_later m n h l d
    go true = let e : l.entered ≤ m = d.entered in record { entered = omega arith; closed = tt; before = omega arith }

all_closed : (object : ObjectId) (day : Day) (m n : ℕ) → m ≤ n → (ls : List Entry) → AllByRecursion (IsDated m) ls → AllByRecursion (IsDated n) (map (close_entry object day n) ls)
all_closed object day m n h [] all = tt
all_closed object day m n h (l ∷ ls) all = (dated_closed object day m n h l all.0, all_closed object day m n h ls all.1)

all_push : (P : Entry → Type 0) (ls : List Entry) (l : Entry) → AllByRecursion P ls → P l → AllByRecursion P (ls ++ l ∷ [])
all_push P [] l all p = (p, tt)
all_push P (x ∷ ls) l all p = (all.0, all_push P ls l all.1 p)

all_weak : (P Q : Entry → Type 0) → ((l : Entry) → P l → Q l) → (ls : List Entry) → AllByRecursion P ls → AllByRecursion Q ls
all_weak P Q f [] all = tt
all_weak P Q f (l ∷ ls) all = (f l all.0, all_weak P Q f ls all.1)

made_dated : (n : ℕ) (v : VersionedObject) → v.last ≡ None → IsDated n (entered_at n v)
made_dated n v e = record { entered = omega arith; closed = e; before = tt }

dated_after : (n : ℕ) (ls : List Entry) (c : Command) → AllByRecursion (IsDated n) ls → AllByRecursion (IsDated (n + 1)) (entries_after (n + 1) ls c)
dated_after n ls (Enter object first body) all = all_push (IsDated (n + 1)) ls _ (all_weak (IsDated n) (IsDated (n + 1)) (dated_later n (n + 1) (omega arith)) ls all) (made_dated (n + 1) _ refl)
dated_after n ls (Amend object first body) all = all_push (IsDated (n + 1)) _ _ (all_closed object (day_before first) n (n + 1) (omega arith) ls all) (made_dated (n + 1) _ refl)
dated_after n ls (Retire object last) all = all_closed object last n (n + 1) (omega arith) ls all

dated_from : (n : ℕ) (ls : List Entry) (cs : List Command) → AllByRecursion (IsDated n) ls → AllByRecursion (IsDated (n + length cs)) (entries_from n ls cs)
dated_from n ls [] all = subst (λ m. AllByRecursion (IsDated m) ls) (omega arith) all
dated_from n ls (c ∷ cs) all = subst (λ m. AllByRecursion (IsDated m) (entries_from (n + 1) (entries_after (n + 1) ls c) cs)) (omega arith) (dated_from (n + 1) _ cs (dated_after n ls c all))

pub seen_whole : (n : ℕ) (l : Entry) → IsDated n l → seen_at n l ≡ version_in l
seen_whole n l d = go l.closed refl d.closed d.before
  where
    go : (o : Option ℕ) → l.closed ≡ o → IfNone o (l.version.last ≡ None) → IfSome o (λ k. k ≤ n) → (with_last l.version) (cond (is_closed_by n o) l.version.last None) ≡ (with_last l.version) l.version.last
    go None e none before = ap (with_last l.version) (sym none)
    go (Some k) e none before = let low : nat_le k n ≡ true = grind (arith, nat_tests) in ap (λ b. (with_last l.version) (cond b l.version.last None)) low

all_seen : (n : ℕ) (ls : List Entry) → AllByRecursion (IsDated n) ls → versions_at n ls ≡ map version_in ls
all_seen n [] all = refl
all_seen n (l ∷ ls) all =
    let e : l.entered ≤ n = all.0.entered in
    let low : int_le (pos l.entered) (pos n) ≡ true = grind (arith, ints) in
    rw low (ap₂ ◌∷◌ (seen_whole n l all.0) (all_seen n ls all.1))

pub entries_dated : (cs : List Command) → AllByRecursion (IsDated (length cs)) (entries_of cs)
entries_dated cs = subst (λ m. AllByRecursion (IsDated m) (entries_of cs)) (zero-add (length cs)) (dated_from 0 [] cs tt)

-- so all are seen by then
pub all_by : (n : ℕ) (ls : List Entry) → AllByRecursion (IsDated n) ls → entries_at n ls ≡ ls
all_by n [] all = refl
all_by n (l ∷ ls) all =
    let e : l.entered ≤ n = all.0.entered in
    let low : int_le (pos l.entered) (pos n) ≡ true = grind (arith, ints) in
    rw low (ap (λ m. l ∷ m) (all_by n ls all.1))

pub entries_append : (n : ℕ) (ls : List Entry) (cs ds : List Command) → entries_from n ls (cs ++ ds) ≡ entries_from (n + length cs) (entries_from n ls cs) ds
entries_append n ls [] ds = ap (λ m. entries_from m ls ds) (omega arith)
entries_append n ls (c ∷ cs) ds = entries_append (n + 1) _ cs ds ∙ ap (λ m. entries_from m (entries_from (n + 1) (entries_after (n + 1) ls c) cs) ds) (omega arith)

-- A revision sees the fold of its commands, no matter which commands came later.
pub revision_is_fold : (cs ds : List Command) → versions_at (length cs) (entries_of (cs ++ ds)) ≡ versions cs
revision_is_fold cs ds =
    let n = length cs in
    ap (versions_at n) (entries_append 0 [] cs ds ∙ ap (λ m. entries_from m (entries_of cs) ds) (zero-add n)) ∙ all_later_unseen n n (omega arith) (entries_of cs) ds
    ∙ all_seen n (entries_of cs) (entries_dated cs) ∙ versions_of_entries cs

-- what a revision sees, in the order of identifiers
pub seen_in_order : (r : ℕ) (cs : List Command) → r ≤ length cs → sort_by by_identifier (versions_at r (entries_of cs)) ≡ as_of r cs
seen_in_order r cs h =
    let n : length (take r cs) ≡ r = length-take-le r cs h in
    ap (sort_by by_identifier)
    (subst (λ ds. map (seen_at r) (entries_at r (entries_of ds)) ≡ versions (take r cs)) (take-append-drop r cs)
    (subst (λ m. map (seen_at m) (entries_at m (entries_of (take r cs ++ drop r cs))) ≡ versions (take r cs)) n (revision_is_fold (take r cs) (drop r cs))))

pub listing_is : (r : ℕ) (cs : List Command) → r ≤ length cs → map (seen_at r) (entries_listed r (entries_of cs)) ≡ as_of r cs
listing_is r cs h = sym (sort_by-map by_identifier (seen_at r) (entries_at r (entries_of cs))) ∙ seen_in_order r cs h
