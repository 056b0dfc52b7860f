-- What holds of all members holds of those that are chosen by their names.
use Rattle.std.proofs.Common.{◌≡◌, ℕ, ◌≤◌, List, [], ◌∷◌, map, Bool, true, false, ◌||◌, if◌then◌else◌, Bor, IsUtf8, bytes_eq, refl, ap, ◌∙◌, arith}
use Rattle.std.specs.List.{list_any}
use Rattle.std.proofs.lemmas.Bool.{or_from, or_parts}
use Rattle.serde_json.specs.Data.{Data, Members, no_members, member, put, members_depth}
use Rattle.serde_json.specs.Written.{has_float, members_have_float}
use Rattle.cad_commands.specs.Writing.{is_among, chosen}
use Rattle.cad_commands.specs.inner.Written.{put_chosen}
use Rattle.cad_commands.proofs.LengthLemmas.{members_weight}
use Rattle.cad_commands.proofs.TextLemmas.{IsPlain, HasPlain, puts}

-- ---- that they are written as a JSON text

if_plain : (b : Bool) (k : List ℕ) (d : Data) (ms : Members) → IsUtf8 k → IsPlain d → HasPlain ms → HasPlain (if b then member k d ms else ms)
if_plain true k d ms named plain h = (named, plain, h)
if_plain false k d ms named plain h = h

pub chosen_plain : (names : List (List ℕ)) (ms : Members) → HasPlain ms → HasPlain (chosen names ms)
chosen_plain names no_members h = tt
chosen_plain names (member k d ms) h = if_plain (is_among names k) k d (chosen names ms) h.0 h.1 (chosen_plain names ms h.2)

if_depth : (b : Bool) (k : List ℕ) (d : Data) (ms all : Members) → members_depth ms ≤ members_depth all → members_depth (if b then member k d ms else ms) ≤ members_depth (member k d all)
if_depth true k d ms all h = omega (arith, h)
if_depth false k d ms all h = omega (arith, h)

pub chosen_depth : (names : List (List ℕ)) (ms : Members) → members_depth (chosen names ms) ≤ members_depth ms
chosen_depth names no_members = omega arith
chosen_depth names (member k d ms) = if_depth (is_among names k) k d (chosen names ms) ms (chosen_depth names ms)

if_weight : (b : Bool) (k : List ℕ) (d : Data) (ms all : Members) → members_weight ms ≤ members_weight all → members_weight (if b then member k d ms else ms) ≤ members_weight (member k d all)
if_weight true k d ms all h = omega (arith, h)
if_weight false k d ms all h = omega (arith, h)

pub chosen_weight : (names : List (List ℕ)) (ms : Members) → members_weight (chosen names ms) ≤ members_weight ms
chosen_weight names no_members = omega arith
chosen_weight names (member k d ms) = if_weight (is_among names k) k d (chosen names ms) ms (chosen_weight names ms)

if_no_float : (b : Bool) (k : List ℕ) (d : Data) (ms : Members) → has_float d ≡ false → members_have_float ms ≡ false → members_have_float (if b then member k d ms else ms) ≡ false
if_no_float true k d ms none h = or_from (has_float d) (members_have_float ms) none h
if_no_float false k d ms none h = h

pub chosen_no_float : (names : List (List ℕ)) (ms : Members) → members_have_float ms ≡ false → members_have_float (chosen names ms) ≡ false
chosen_no_float names no_members h = refl
chosen_no_float names (member k d ms) h =
    let parts = or_parts (has_float d) (members_have_float ms) h in
    if_no_float (is_among names k) k d (chosen names ms) parts.0 (chosen_no_float names ms parts.1)

-- ---- that they are put one after the other

-- a search among borrowed names
pub among_borrowed : (names : List (Bor (List ℕ))) (name : List ℕ) → list_any (λ other. bytes_eq other.now name) names ≡ is_among (map (λ name. name.now) names) name
among_borrowed [] name = refl
among_borrowed (other ∷ names) name = ap (λ b. bytes_eq other.now name || b) (among_borrowed names name)

-- the members, put one after the other among those that were found, if they are chosen
abbrev pub puts_chosen : List (List ℕ) → Members → Members → Members
puts_chosen names no_members found = found
puts_chosen names (member k d ms) found = puts_chosen names ms (put_chosen names k d found)

if_put : (b : Bool) (k : List ℕ) (d : Data) (ms found : Members) → puts (if b then member k d ms else ms) found ≡ puts ms (if b then put k d found else found)
if_put true k d ms found = refl
if_put false k d ms found = refl

pub chosen_puts : (names : List (List ℕ)) (ms found : Members) → puts (chosen names ms) found ≡ puts_chosen names ms found
chosen_puts names no_members found = refl
chosen_puts names (member k d ms) found =
    if_put (is_among names k) k d (chosen names ms) found ∙ chosen_puts names ms (put_chosen names k d found)

-- one more member, by what is known of the names, of the value and of the members before
pub one_more : (ns names : List (List ℕ)) (k : List ℕ) (v d : Data) (before found after : Members) → ns ≡ names → before ≡ found → v ≡ d → after ≡ put_chosen ns k v before → after ≡ put_chosen names k d found
one_more ns names k v d before found after same old value put = rw (← same, ← old, ← value) put
