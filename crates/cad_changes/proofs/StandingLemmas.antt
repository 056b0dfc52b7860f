-- The object of a command may be called otherwise from a day on: no version that stood before holds that day.
use Rattle.std.proofs.Common.{◌≡◌, ℕ, ◌+◌, ℤ, pos, ◌≤ℤ◌, ◌<ℤ◌, ◌-ℤ◌, Bool, true, false, cond, ◌&&◌, List, [], ◌∷◌, map, find, Option, Some, None, is_none, option_and_then, refl, sym, ap, ◌∙◌, subst, arith, int_le, int_lt, int_eq, true≢false}
use Rattle.std.specs.List.{AllByRecursion}
use Rattle.std.proofs.lemmas.Int.{ints}
use Rattle.std.proofs.Math.Bool.{and-false}
use Rattle.cad_day.specs.declared.day.Day.{Day}
use Rattle.cad_day.specs.Days.{number_of}
use Rattle.cad_versions.specs.declared.command.Command.{Command}
use Rattle.cad_versions.specs.declared.command.Command.TheVariants.{Enter, Amend, Retire}
use Rattle.cad_versions.specs.declared.object_id.ObjectId.{ObjectId}
use Rattle.cad_versions.specs.BodyParts.{name_in}
use Rattle.cad_versions.specs.Command.{object_named}
use Rattle.cad_day.specs.DayBefore.{day_before, number_of-day_before}
use Rattle.cad_versions.specs.Histories.{IsForward, EndsBefore, IsHistory}
use Rattle.cad_versions.specs.lemmas.HistoryLemmas.{HasHistories, closed_is_not_open, find-filter, amends, retires, enters, le_fails, lt_fails}
use Rattle.cad_versions.specs.Identifiers.{by_identifier}
use Rattle.cad_versions.specs.lemmas.ListLemmas.{all_weaker, all_kept, all_mapped, find_filter}
use Rattle.cad_versions.specs.Objects.{object_number}
use Rattle.cad_versions.specs.Refusals.{refusal}
use Rattle.cad_versions.specs.VersionedObject.{VersionedObject}
use Rattle.cad_versions.specs.Versions.{is_of, is_open_of, history, closed_on, closed_if_open, begun, next_number}
use Rattle.cad_feature.specs.Flatten.{joined_name, or_null, as_text}
use Rattle.cad_feature.specs.Lifespans.{is_up_to, holds_on}
use Rattle.cad_feature.specs.Values.{Datum}
use Rattle.cad_changes.specs.Changes.{left_by, next, renames_on, is_object}
use Rattle.cad_changes.specs.Touching.{name_after}
use Rattle.cad_changes.proofs.FeatureLemmas.{holds, turned}
use Rattle.cad_changes.proofs.TestLemmas.{none_found, found_put, none_kept}
use Rattle.cad_changes.proofs.VersionLemmas.{left_keeps}

-- ---- days

ends_sooner : (last first other : ℤ) → last ≡ first -ℤ pos 1 → first ≤ℤ other → last <ℤ other
ends_sooner last first other e h = grind (arith, ints)

starts_sooner : (begin last first other : ℤ) → begin ≤ℤ last → last ≡ first -ℤ pos 1 → first ≤ℤ other → begin ≤ℤ other
starts_sooner begin last first other b e h = grind (arith, ints)

starts_itself : (m : ℤ) → m ≤ℤ m
starts_itself m = grind (arith, ints)

before_is_under : (first day before : ℤ) → before ≡ first -ℤ pos 1 → int_le first day ≡ true → before <ℤ day
before_is_under first day before e h = grind (arith, ints)

under_through : (begin first day : ℤ) → begin <ℤ first → int_le first day ≡ true → begin ≤ℤ day
under_through begin first day b h = grind (arith, ints)

upto_through : (begin last day : ℤ) → begin ≤ℤ last → int_lt last day ≡ true → begin ≤ℤ day
upto_through begin last day b h = grind (arith, ints)

sooner_through : (last begin day : ℤ) → last <ℤ begin → begin ≤ℤ day → last <ℤ day
sooner_through last begin day l b = grind (arith, ints)

not_up_to : (last day : ℤ) → last <ℤ day → int_le day last ≡ false
not_up_to last day h = grind (arith, ints)

-- ---- a history with an open version

-- its last day, where it has one, is before the other one's first day
abbrev pub EndsUnder : VersionedObject → VersionedObject → Type 0
EndsUnder v w = (last : Day) → w.last ≡ Some last → number_of last <ℤ number_of v.first

same_version : (a b : VersionedObject) → Some a ≡ Some b → a ≡ b
same_version a b e = cc

same_last : (w : VersionedObject) (a b : Day) → w.last ≡ Some a → w.last ≡ Some b → a ≡ b
same_last w a b e f = cc

open_has_none : (object : ObjectId) (w : VersionedObject) (last : Day) → is_open_of object w ≡ true → w.last ≡ Some last → ⊥
open_has_none object w last opened e = absurd (true≢false (sym opened ∙ closed_is_not_open object w last e))

closed_under : (object : ObjectId) (v : VersionedObject) (n : ℕ) (x : VersionedObject) (xs : List VersionedObject) → IsHistory n (x ∷ xs) → find (is_open_of object) (x ∷ xs) ≡ Some v
    → (number_of x.first ≤ℤ number_of v.first) × AllByRecursion (EndsUnder v) (x ∷ xs)
closed_under object v n x [] h f = go (is_open_of object x) refl f
  where
    go : (b : Bool) → is_open_of object x ≡ b → cond b (Some x) None ≡ Some v → (number_of x.first ≤ℤ number_of v.first) × AllByRecursion (EndsUnder v) (x ∷ [])
    go true e f =
        (subst (λ (u : VersionedObject). number_of x.first ≤ℤ number_of u.first) (same_version x v f) (starts_itself (number_of x.first)), ((λ last k. absurd (open_has_none object x last e k)), tt))
    go false e f = absurd cc
closed_under object v n x (w ∷ xs) h f = go x.last refl (closed_under object v (n + 1) w xs h.3)
  where
    go : (l : Option Day) → x.last ≡ l → (find (is_open_of object) (w ∷ xs) ≡ Some v → (number_of w.first ≤ℤ number_of v.first) × AllByRecursion (EndsUnder v) (w ∷ xs))
        → (number_of x.first ≤ℤ number_of v.first) × AllByRecursion (EndsUnder v) (x ∷ (w ∷ xs))
    go None e more = absurd (subst (λ l. EndsBefore l w) e h.2)
    go (Some last) e more =
        let shut : is_open_of object x ≡ false = closed_is_not_open object x last e in
        let rest = more (ap (λ t. cond t (Some x) (find (is_open_of object) (w ∷ xs))) (sym shut) ∙ f) in
        let forward : number_of x.first ≤ℤ number_of last = subst (IsForward x) e h.1 in
        let before : number_of last ≡ number_of w.first -ℤ pos 1 = subst (λ l. EndsBefore l w) e h.2 in (
          starts_sooner (number_of x.first) (number_of last) (number_of w.first) (number_of v.first) forward before rest.0,
          ((λ other k. subst (λ (d : Day). number_of d <ℤ number_of v.first) (same_last x last other e k) (ends_sooner (number_of last) (number_of w.first) (number_of v.first) before rest.0)), rest.1),
        )

all_under : (object : ObjectId) (v : VersionedObject) (vs : List VersionedObject) → HasHistories vs → find (is_open_of object) vs ≡ Some v → AllByRecursion (λ w. is_of object w ≡ true → EndsUnder v w) vs
all_under object v vs all f = all_kept (EndsUnder v) (is_of object) vs (go (history object vs) (all object) (sym (find-filter object vs) ∙ f))
  where
    go : (xs : List VersionedObject) → IsHistory 1 xs → find (is_open_of object) xs ≡ Some v → AllByRecursion (EndsUnder v) xs
    go [] h f = tt
    go (x ∷ xs) h f = (closed_under object v 1 x xs h f).1

-- ---- a version that is over

ended : (day : Day) (w : VersionedObject) (last : Day) → w.last ≡ Some last → number_of last <ℤ number_of day → holds_on day w ≡ false
ended day w last e less =
    ap (λ (l : Option Day). int_le (number_of w.first) (number_of day) && is_up_to l day) e
    ∙ ap (λ (b : Bool). int_le (number_of w.first) (number_of day) && b) (not_up_to (number_of last) (number_of day) less) ∙ and-false (int_le (number_of w.first) (number_of day))

over : (object : ObjectId) (v : VersionedObject) (closing day : Day) (w : VersionedObject) → number_of closing <ℤ number_of day → number_of v.first ≤ℤ number_of day → is_of object w ≡ true → EndsUnder v w
    → holds_on day (closed_if_open object closing w) ≡ false
over object v closing day w less begun_by own under = go (is_open_of object w) refl w.last refl
  where
    go : (b : Bool) → is_open_of object w ≡ b → (l : Option Day) → w.last ≡ l → holds_on day (cond b (closed_on closing w) w) ≡ false
    go true e l k = ended day (closed_on closing w) closing refl less
    go false e None k = absurd (true≢false (sym (ap (λ b. b && is_none w.last) own ∙ ap is_none k) ∙ e))
    go false e (Some last) k = ended day w last k (sooner_through (number_of last) (number_of v.first) (number_of day) (under last k) begun_by)

-- the command leaves none of its object's versions to hold a day on which it may be called otherwise
abbrev pub IsOver : Command → VersionedObject → Type 0
IsOver c w = (day : Day) → is_of (object_named c) w ≡ true → renames_on c day ≡ true → holds_on day (left_by c w) ≡ false

pub all_over : (c : Command) (vs : List VersionedObject) → refusal vs c ≡ None → HasHistories vs → AllByRecursion (IsOver c) vs
all_over (Enter object first body) vs e all =
    all_weaker (λ w. is_of object w ≡ true → ⊥) (IsOver (Enter object first body)) (λ w none day own late. absurd (none own)) vs (none_kept (is_of object) vs (enters object first body vs e))
all_over (Amend object first body) vs e all =
    let a = amends object first body vs e in
    let v = a.standing in
    let less = le_fails (number_of first) (number_of v.first) a.timely in
    let before = number_of-day_before v.first first less in
    all_weaker (λ w. is_of object w ≡ true → EndsUnder v w) (IsOver (Amend object first body))
    (λ w under day own late. over object v (day_before first) day w (before_is_under (number_of first) (number_of day) (number_of (day_before first)) before late) (under_through (number_of v.first) (number_of first) (number_of day) less late) own (under own))
    vs (all_under object v vs all a.found)
all_over (Retire object last) vs e all =
    let a = retires object last vs e in
    let v = a.standing in
    let begun_by = lt_fails (number_of last) (number_of v.first) a.timely in
    let ended_by : (day : Day) → renames_on (Retire object last) day ≡ true → number_of last <ℤ number_of day = λ day late. grind (arith, ints) in
    all_weaker (λ w. is_of object w ≡ true → EndsUnder v w) (IsOver (Retire object last))
    (λ w under day own late. over object v last day w (ended_by day late) (upto_through (number_of v.first) (number_of last) (number_of day) begun_by late) own (under own))
    vs (all_under object v vs all a.found)

-- ---- what the object is called from then on

own_too : (n : ℕ) (a b : ObjectId) → int_eq (pos (object_number a)) (pos (object_number b)) ≡ true → int_eq (pos n) (pos (object_number a)) ≡ true → int_eq (pos n) (pos (object_number b)) ≡ true
own_too n a b same h = grind (arith, ints)

module _ (c : Command) (vs : List VersionedObject) (all : AllByRecursion (IsOver c) vs) (day : Day) (late : renames_on c day ≡ true) (object : ObjectId) (same : is_object (object_named c) (Some object) ≡ true) where
  is_over : (w : VersionedObject) → IsOver c w → holds object day (left_by c w) ≡ false
  is_over w done = go (is_of object w) refl
    where
      own : is_of object (left_by c w) ≡ is_of object w
      own = left_keeps (is_of object) (λ day v. refl) c w

      go : (b : Bool) → is_of object w ≡ b → holds object day (left_by c w) ≡ false
      go true e = ap (λ b. b && holds_on day (left_by c w)) (own ∙ e) ∙ done day (own_too (object_number w.object) object (object_named c) same e) late
      go false e = ap (λ b. b && holds_on day (left_by c w)) (own ∙ e)

  all_left : AllByRecursion (λ w. holds object day w ≡ false) (map (left_by c) vs)
  all_left = all_mapped (λ w. holds object day w ≡ false) (left_by c) vs (all_weaker (IsOver c) (λ w. holds object day (left_by c w) ≡ false) is_over vs all)

abbrev named_in : Option VersionedObject → Datum
named_in o = or_null as_text (option_and_then (λ v. name_in v.body) o)

pub renamed : (c : Command) (vs : List VersionedObject) → AllByRecursion (IsOver c) vs → (day : Day) → renames_on c day ≡ true → (object : ObjectId) → is_object (object_named c) (Some object) ≡ true
    → or_null as_text (joined_name (next vs c) day (Some object)) ≡ name_after c
renamed (Enter o first body) vs all day late object same =
    let c = Enter o first body in
    let n = begun o 1 first body in
    ap named_in (find_filter (holds_on day) (is_of object) (next vs c) ∙ found_put by_identifier (holds object day) n (map (left_by c) vs) (all_left c vs all day late object same))
    ∙ ap (λ b. named_in (cond (b && (int_le (number_of first) (number_of day) && true)) (Some n) None)) (turned object o same)
    ∙ ap (λ b. named_in (cond (b && true) (Some n) None)) late
renamed (Amend o first body) vs all day late object same =
    let c = Amend o first body in
    let n = begun o (next_number o vs) first body in
    ap named_in (find_filter (holds_on day) (is_of object) (next vs c) ∙ found_put by_identifier (holds object day) n (map (left_by c) vs) (all_left c vs all day late object same))
    ∙ ap (λ b. named_in (cond (b && (int_le (number_of first) (number_of day) && true)) (Some n) None)) (turned object o same)
    ∙ ap (λ b. named_in (cond (b && true) (Some n) None)) late
renamed (Retire o last) vs all day late object same =
    let c = Retire o last in
    ap named_in (find_filter (holds_on day) (is_of object) (next vs c) ∙ none_found (holds object day) (map (left_by c) vs) (all_left c vs all day late object same))
