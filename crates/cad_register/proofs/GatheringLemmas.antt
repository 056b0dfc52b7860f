-- What one entry more changes of what is told.
use Rattle.std.proofs.Common.{◌≡◌, ◌≢◌, ℕ, zero, suc, ◌+◌, ◌==◌, ◌<◌, Bool, true, false, cond, List, [], ◌∷◌, ◌++◌, length, get_or, set, map, Option, Some, None, option_map, is_none, refl, sym, ap, ap₂, ◌∙◌, arith}
use Rattle.std.proofs.lemmas.Bool.Decides.{nat_tests}
use Rattle.cad_day.specs.declared.day.Day.{Day}
use Rattle.cad_versions.specs.declared.object_id.ObjectId.{ObjectId}
use Rattle.cad_versions.specs.declared.command.Command.{Command}
use Rattle.cad_versions.specs.declared.command.Command.TheVariants.{Enter, Amend, Retire}
use Rattle.cad_versions.specs.VersionedObject.{VersionedObject}
use Rattle.cad_versions.specs.Entries.{Entry}
use Rattle.cad_register.specs.Journal.{beginning, ending, is_at, begun_at, ended_at, or_next, first_given, command_at, commands_behind}
use Rattle.cad_register.proofs.JournalLemmas.{first_push, or_none, or_again}
use Rattle.cad_register.specs.inner.Gathering.{changed, retired, begun_over, takes_beginning, ended_in}

-- ---- tests of revisions

same_test : (m n : ℕ) → (m == n) ≡ (n == m)
same_test m n = grind (arith, nat_tests)

here_test : (n : ℕ) → (n + 1 == n + 1 + zero) ≡ true
here_test n = grind (arith, nat_tests)

later_test : (m n : ℕ) → n < m → (m == n) ≡ false
later_test m n h = grind (arith, nat_tests)

before_test : (n k : ℕ) → (n + 1 == n + 1 + suc k) ≡ false
before_test n k = grind (arith, nat_tests)

other_test : (m n : ℕ) → m ≢ n → (m == n) ≡ false
other_test m n h = grind (arith, nat_tests)

-- ---- what may stand where

abbrev IsBegun : Option Command → Type 0
IsBegun None = Unit {0}
IsBegun (Some (Enter object first body)) = Unit {0}
IsBegun (Some (Amend object first body)) = Unit {0}
IsBegun (Some (Retire object last)) = ⊥

abbrev IsEnded : Option Command → Type 0
IsEnded None = Unit {0}
IsEnded (Some (Enter object first body)) = ⊥
IsEnded (Some (Amend object first body)) = ⊥
IsEnded (Some (Retire object last)) = Unit {0}

next_begun : (a b : Option Command) → IsBegun a → IsBegun b → IsBegun (or_next a b)
next_begun None b p q = q
next_begun (Some c) b p q = p

next_ended : (a b : Option Command) → IsEnded a → IsEnded b → IsEnded (or_next a b)
next_ended None b p q = q
next_ended (Some c) b p q = p

begins : (v : VersionedObject) → IsBegun (Some (beginning v))
begins v = elim (v.number == 1) as (λ t. IsBegun (Some (cond t (Enter v.object v.first v.body) (Amend v.object v.first v.body)))) [ true ↦ tt | false ↦ tt ]

one_begun : (r : ℕ) (e : Entry) → IsBegun (begun_at r e)
one_begun r e = elim (e.entered == r) as (λ t. IsBegun (cond t (Some (beginning e.version)) None)) [ true ↦ begins e.version | false ↦ tt ]

ends : (object : ObjectId) (last : Option Day) → IsEnded (option_map (λ day. Retire object day) last)
ends object None = tt
ends object (Some day) = tt

one_ended : (r : ℕ) (e : Entry) → IsEnded (ended_at r e)
one_ended r e = elim (is_at r e.closed) as (λ t. IsEnded (cond t (ending e.version) None)) [ true ↦ ends e.version.object e.version.last | false ↦ tt ]

all_begun : (r : ℕ) (es : List Entry) → IsBegun (first_given (begun_at r) es)
all_begun r [] = tt
all_begun r (e ∷ es) = next_begun (begun_at r e) (first_given (begun_at r) es) (one_begun r e) (all_begun r es)

all_ended : (r : ℕ) (es : List Entry) → IsEnded (first_given (ended_at r) es)
all_ended r [] = tt
all_ended r (e ∷ es) = next_ended (ended_at r e) (first_given (ended_at r) es) (one_ended r e) (all_ended r es)

-- ---- one revision

begun_behind : (c : Command) (b e : Option Command) → IsBegun b → IsEnded e → begun_over c (or_next b e) ≡ or_next (or_next b (Some c)) e
begun_behind c None None p q = refl
begun_behind c None (Some (Enter object first body)) p q = absurd q
begun_behind c None (Some (Amend object first body)) p q = absurd q
begun_behind c None (Some (Retire object last)) p q = refl
begun_behind c (Some (Enter object first body)) e p q = refl
begun_behind c (Some (Amend object first body)) e p q = refl
begun_behind c (Some (Retire object last)) e p q = absurd p

-- what is told of the revision where one entry more ended, and began
abbrev ended_too : ℕ → Entry → Option Command → Option Command
ended_too r e o = or_next o (ended_at r e)

abbrev begun_too : ℕ → Entry → Option Command → Option Command
begun_too r e o = cond (e.entered == r) (begun_over (beginning e.version) o) o

one_more : (r : ℕ) (es : List Entry) (e : Entry) → command_at r (es ++ e ∷ []) ≡ begun_too r e (ended_too r e (command_at r es))
one_more r es e =
    let b = first_given (begun_at r) es in
    let d = first_given (ended_at r) es in
    let x = ended_at r e in
    ap₂ or_next (first_push (begun_at r) es e) (first_push (ended_at r) es e) ∙ sym (ap (begun_too r e) (sym (or_again b d x)) ∙ go (e.entered == r))
  where
    go : (t : Bool) → cond t (begun_over (beginning e.version) (or_next (first_given (begun_at r) es) (or_next (first_given (ended_at r) es) (ended_at r e)))) (or_next (first_given (begun_at r) es) (or_next (first_given (ended_at r) es) (ended_at r e)))
        ≡ or_next (or_next (first_given (begun_at r) es) (cond t (Some (beginning e.version)) None)) (or_next (first_given (ended_at r) es) (ended_at r e))
    go true = begun_behind (beginning e.version) (first_given (begun_at r) es) (or_next (first_given (ended_at r) es) (ended_at r e)) (all_begun r es) (next_ended (first_given (ended_at r) es) (ended_at r e) (all_ended r es) (one_ended r e))
    go false = ap (λ o. or_next o (or_next (first_given (ended_at r) es) (ended_at r e))) (sym (or_none (first_given (begun_at r) es)))

-- ---- all revisions

pub begun_in : (behind count : ℕ) (es : List Entry) (e : Entry) → commands_behind behind count (es ++ e ∷ []) ≡ changed behind e.entered (begun_over (beginning e.version)) (ended_in behind e (commands_behind behind count es))
begun_in behind zero es e = refl
begun_in behind (suc count) es e = ap₂ ◌∷◌ (one_more (behind + 1) es e ∙ turned) (begun_in (behind + 1) count es e)
  where
    turned : begun_too (behind + 1) e (ended_too (behind + 1) e (command_at (behind + 1) es)) ≡ cond (behind + 1 == e.entered) (begun_over (beginning e.version) (ended_too (behind + 1) e (command_at (behind + 1) es))) (ended_too (behind + 1) e (command_at (behind + 1) es))
    turned = ap (λ t. cond t (begun_over (beginning e.version) (ended_too (behind + 1) e (command_at (behind + 1) es))) (ended_too (behind + 1) e (command_at (behind + 1) es))) (same_test e.entered (behind + 1))

-- an entry that was not closed, or has no last day, changes nothing there
none_in : (behind : ℕ) (e : Entry) → ((r : ℕ) → ended_at r e ≡ None) → (os : List (Option Command)) → ended_in behind e os ≡ os
none_in behind e none [] = refl
none_in behind e none (o ∷ os) = ap₂ ◌∷◌ (ap (or_next o) (none (behind + 1)) ∙ or_none o) (none_in (behind + 1) e none os)

-- one that was closed on a day gathers the retirement at that revision
pub closed_in : (behind : ℕ) (v : VersionedObject) (entered closed : ℕ) (day : Day) → v.last ≡ Some day → (os : List (Option Command))
    → ended_in behind (record { version = v; entered = entered; closed = Some closed }) os ≡ changed behind closed (retired (Retire v.object day)) os
closed_in behind v entered closed day is [] = refl
closed_in behind v entered closed day is (o ∷ os) = ap₂ ◌∷◌ here (closed_in (behind + 1) v entered closed day is os)
  where
    turn : (t : Bool) → or_next o (cond t (Some (Retire v.object day)) None) ≡ cond t (or_next o (Some (Retire v.object day))) o
    turn true = refl
    turn false = or_none o

    here : or_next o (cond (closed == behind + 1) (ending v) None) ≡ cond (behind + 1 == closed) (or_next o (Some (Retire v.object day))) o
    here = ap (λ last. or_next o (cond (closed == behind + 1) (option_map (λ d. Retire v.object d) last) None)) is ∙ turn (closed == behind + 1) ∙ ap (λ t. cond t (or_next o (Some (Retire v.object day))) o) (same_test closed (behind + 1))

-- ---- one change in its place

pub changed_at : (behind at : ℕ) (change : Option Command → Option Command) (os : List (Option Command)) (d x : Option Command) → at < length os → x ≡ change (get_or os at d) → set os at x ≡ changed behind (behind + 1 + at) change os
changed_at behind at change [] d x low is = absurd (omega (arith, low))
changed_at behind zero change (o ∷ os) d x low is = ap₂ ◌∷◌ (is ∙ here) (sym (later (behind + 1) os (omega arith)))
  where
    here : change o ≡ cond (behind + 1 == behind + 1 + zero) (change o) o
    here = ap (λ t. cond t (change o) o) (sym (here_test behind))

    later : (b : ℕ) (ps : List (Option Command)) → behind + 1 + zero < b + 1 → changed b (behind + 1 + zero) change ps ≡ ps
    later b [] h = refl
    later b (p ∷ ps) h = ap₂ ◌∷◌ (ap (λ t. cond t (change p) p) (later_test (b + 1) (behind + 1 + zero) h)) (later (b + 1) ps (omega arith))
changed_at behind (suc at) change (o ∷ os) d x low is =
    ap₂ ◌∷◌ here (changed_at (behind + 1) at change os d x (omega (arith, low)) is ∙ ap (λ r. changed (behind + 1) r change os) revision)
  where
    revision : behind + 1 + 1 + at ≡ behind + 1 + suc at
    revision = omega arith

    here : o ≡ cond (behind + 1 == behind + 1 + suc at) (change o) o
    here = ap (λ t. cond t (change o) o) (sym (before_test behind at))

pub changed_nowhere : (behind revision : ℕ) (change : Option Command → Option Command) (os : List (Option Command)) → ((i : ℕ) → i < length os → behind + 1 + i ≢ revision) → changed behind revision change os ≡ os
changed_nowhere behind revision change [] none = refl
changed_nowhere behind revision change (o ∷ os) none = ap₂ ◌∷◌ (ap (λ t. cond t (change o) o) apart) (changed_nowhere (behind + 1) revision change os (λ i low same. none (suc i) (omega (arith, low)) (omega (arith, same))))
  where
    other : behind + 1 ≢ revision
    other same = none zero (omega arith) (omega (arith, same))

    apart : (behind + 1 == revision) ≡ false
    apart = other_test (behind + 1) revision other

set_same : (os : List (Option Command)) (at : ℕ) (d : Option Command) → at < length os → set os at (get_or os at d) ≡ os
set_same [] at d low = absurd (omega (arith, low))
set_same (o ∷ os) zero d low = refl
set_same (o ∷ os) (suc at) d low = ap (λ l. o ∷ l) (set_same os at d (omega (arith, low)))

pub changed_same : (behind at : ℕ) (change : Option Command → Option Command) (os : List (Option Command)) (d : Option Command) → at < length os → change (get_or os at d) ≡ get_or os at d → changed behind (behind + 1 + at) change os ≡ os
changed_same behind at change os d low is = sym (changed_at behind at change os d (get_or os at d) low (sym is)) ∙ set_same os at d low

-- ---- an entry that ends nothing

pub open_in : (behind : ℕ) (v : VersionedObject) (entered : ℕ) (os : List (Option Command)) → ended_in behind (record { version = v; entered = entered; closed = None }) os ≡ os
open_in behind v entered os = none_in behind (record { version = v; entered = entered; closed = None }) (λ r. refl) os

pub undated_in : (behind : ℕ) (v : VersionedObject) (entered closed : ℕ) → v.last ≡ None → (os : List (Option Command)) → ended_in behind (record { version = v; entered = entered; closed = Some closed }) os ≡ os
undated_in behind v entered closed is os = none_in behind (record { version = v; entered = entered; closed = Some closed }) none os
  where
    none : (r : ℕ) → cond (closed == r) (ending v) None ≡ None
    none r = ap (λ last. cond (closed == r) (option_map (λ d. Retire v.object d) last) None) is ∙ elim (closed == r) as (λ t. cond {A = Option Command} t None None ≡ None) [ true ↦ refl | false ↦ refl ]

-- ---- all that is told

pub some_same : (xs ys : List Command) → map Some xs ≡ map Some ys → xs ≡ ys
some_same [] [] e = refl
some_same [] (y ∷ ys) e = absurd cc
some_same (x ∷ xs) [] e = absurd cc
some_same (x ∷ xs) (y ∷ ys) e = let heads : x ≡ y = cc in let tails : map Some xs ≡ map Some ys = cc in ap₂ ◌∷◌ heads (some_same xs ys tails)

-- ---- what is put where

pub begun_free : (c : Command) (o : Option Command) → takes_beginning o ≡ true → begun_over c o ≡ Some c
begun_free c None h = refl
begun_free c (Some (Retire object last)) h = refl
begun_free c (Some (Enter object first body)) h = absurd cc
begun_free c (Some (Amend object first body)) h = absurd cc

pub begun_taken : (c : Command) (o : Option Command) → takes_beginning o ≡ false → begun_over c o ≡ o
begun_taken c None h = absurd cc
begun_taken c (Some (Retire object last)) h = absurd cc
begun_taken c (Some (Enter object first body)) h = refl
begun_taken c (Some (Amend object first body)) h = refl

pub retired_free : (c : Command) (o : Option Command) → is_none o ≡ true → retired c o ≡ Some c
retired_free c None h = refl
retired_free c (Some x) h = absurd cc

pub retired_taken : (c : Command) (o : Option Command) → is_none o ≡ false → retired c o ≡ o
retired_taken c None h = absurd cc
retired_taken c (Some x) h = refl
