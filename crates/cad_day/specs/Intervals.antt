-- The days between two ends, and when these are in the wrong order (ISO 8601-1:2019, 3.1.1.6: time interval; own profile: whole days, open
-- ends).
use Rattle.std.specs.Prelude.{◌≡◌, ℤ, int_lt, Bool, true, false, Option, Some, None, option_map, MatchOption, refl}
use Rattle.std.proofs.Common.{arith, ap, subst, sym, true≢false}
use Rattle.std.proofs.lemmas.Int.{ints}
use Rattle.cad_day.specs.declared.day.Day.{Day}
use Rattle.cad_day.specs.declared.interval.Interval.{Interval}
use Rattle.cad_day.specs.Days.{number_of, IsTurned}

-- both ends are days, by their numbers, and the last lies before the first
abbrev pub are_turned : Option ℤ → Option ℤ → Bool
are_turned None to = false
are_turned (Some first) None = false
are_turned (Some first) (Some last) = int_lt last first

abbrev pub is_turned : Option Day → Option Day → Bool
is_turned from to = are_turned (option_map number_of from) (option_map number_of to)

pub not_turned : (from to : Option Day) → is_turned from to ≡ false → ¬ IsTurned from to
not_turned None to e h = h
not_turned (Some first) None e h = h
not_turned (Some first) (Some last) e h = grind (arith, ints)

abbrev pub where_turned : (from to : Option Day) (turned : Bool) → is_turned from to ≡ turned → Option Interval
where_turned from to true e = None
where_turned from to false e = Some (record { from = from; to = to; in_order = not_turned from to e })

-- the interval with these ends; None if they are in the wrong order
unfoldable pub interval_of : Option Day → Option Day → Option Interval
interval_of from to = where_turned from to (is_turned from to) refl

-- the interval of one day
abbrev pub day_interval : Day → Option Interval
day_interval d = interval_of (Some d) (Some d)

-- ---- laws

abbrev pub IsIntervalOf : Option Day → Option Day → Option Interval → Type 0
IsIntervalOf from to None = IsTurned from to
IsIntervalOf from to (Some days) = (days.from ≡ from) × (days.to ≡ to)

-- from one end to another there is an interval with these ends, or they are in the wrong order
abbrev pub IntervalsHaveTheirEnds : Type 0
IntervalsHaveTheirEnds = (from to : Option Day) → IsIntervalOf from to (interval_of from to)

-- ---- lemmas

turned_prop : (from to : Option Day) → IsProp (¬ IsTurned from to)
turned_prop from to = hlevel

-- two intervals of the same ends are one value
pub same_interval : (a b : Interval) → a.from ≡ b.from → a.to ≡ b.to → a ≡ b
same_interval a b e f =
    subst (λ (from : Option Day). (h : ¬ IsTurned from b.to) → a ≡ record { from = from; to = b.to; in_order = h }) e
    (λ h. subst (λ (to : Option Day). (k : ¬ IsTurned a.from to) → a ≡ record { from = a.from; to = to; in_order = k }) f
    (λ k. ap (λ (l : ¬ IsTurned a.from a.to). record { from = a.from; to = a.to; in_order = l }) (turned_prop a.from a.to a.in_order k)) h) b.in_order

pub turned_says : (from to : Option Day) → is_turned from to ≡ true → IsTurned from to
turned_says None to e = absurd (true≢false (sym e))
turned_says (Some first) None e = absurd (true≢false (sym e))
turned_says (Some first) (Some last) e = grind (arith, ints)

answered : (from to : Option Day) (b : Bool) (e : is_turned from to ≡ b) (r : Option Interval) → MatchOption r (IsTurned from to) (λ days. (days.from ≡ from) × (days.to ≡ to)) → r ≡ where_turned from to b e
answered from to true e None h = refl
answered from to true e (Some days) h = absurd (days.in_order (rw (h.0, h.1) (turned_says from to e)))
answered from to false e None h = absurd (not_turned from to e h)
answered from to false e (Some days) h = ap (λ (d : Interval). Some d) (same_interval days (record { from = from; to = to; in_order = not_turned from to e }) h.0 h.1)

-- a result with these ends, or None if they are in the wrong order, is the interval
pub is_interval_of : (from to : Option Day) (r : Option Interval) → MatchOption r (IsTurned from to) (λ days. (days.from ≡ from) × (days.to ≡ to)) → r ≡ interval_of from to
unfolding interval_of
is_interval_of from to = answered from to (is_turned from to) refl

ends_where : (from to : Option Day) (b : Bool) (e : is_turned from to ≡ b) → IsIntervalOf from to (where_turned from to b e)
ends_where from to true e = turned_says from to e
ends_where from to false e = (refl, refl)

pub has_its_ends : (from to : Option Day) → IsIntervalOf from to (interval_of from to)
unfolding interval_of
has_its_ends from to = ends_where from to (is_turned from to) refl
