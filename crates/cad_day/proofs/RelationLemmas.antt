-- What holds of relations between intervals.
use Rattle.std.proofs.Common.{◌≡◌, ◌⊎◌, inl, inr, refl, ap, ℤ, pos, neg_ℤ, Bool, true, false, ◌||◌, not, Option, Some, None, IsTrue, arith, int_lt, ◌≤ℤ◌}
use Rattle.std.proofs.lemmas.Int.{ints}
use Rattle.cad_day.specs.declared.day.Day.{Day}
use Rattle.cad_day.specs.declared.end.End.{End}
use Rattle.cad_day.specs.declared.end.End.TheVariants.{BeforeAll, On, AfterAll}
use Rattle.cad_day.specs.declared.interval.Interval.{Interval}
use Rattle.cad_day.specs.declared.relation.Relation.{Relation}
use Rattle.cad_day.specs.declared.relation.Relation.TheVariants.{After, Before, Disjoint, Intersects, Equals, Contains, During, Meets, MetBy, Starts, StartedBy, Finishes, FinishedBy, Overlaps, OverlappedBy}
use Rattle.cad_day.specs.DayNumbers.{IsDayNumber}
use Rattle.cad_day.specs.Days.{number_of, IsTurned}
use Rattle.cad_day.specs.Relations.{from_end, to_end, first_end, last_end, is_before, is_same, holds, mirror, IsFrom, IsUpTo, ShareDay}

or_swapped : (p q : Bool) → (p || q) ≡ (q || p)
or_swapped true true = refl
or_swapped true false = refl
or_swapped false true = refl
or_swapped false false = refl

same_swapped : (d e : End) → is_same d e ≡ is_same e d
same_swapped BeforeAll BeforeAll = refl
same_swapped BeforeAll (On e) = refl
same_swapped BeforeAll AfterAll = refl
same_swapped (On d) BeforeAll = refl
same_swapped (On d) (On e) = grind (arith, ints)
same_swapped (On d) AfterAll = refl
same_swapped AfterAll BeforeAll = refl
same_swapped AfterAll (On e) = refl
same_swapped AfterAll AfterAll = refl

pub mirrored : (relation : Relation) (a b : Interval) → holds (mirror relation) a b ≡ holds relation b a
mirrored After a b = refl
mirrored Before a b = refl
mirrored Disjoint a b = or_swapped (is_before (last_end b) (first_end a)) (is_before (last_end a) (first_end b))
mirrored Intersects a b = ap not (or_swapped (is_before (last_end b) (first_end a)) (is_before (last_end a) (first_end b)))
mirrored Equals a b = rw (same_swapped (first_end a) (first_end b), same_swapped (last_end a) (last_end b))
mirrored Contains a b = refl
mirrored During a b = refl
mirrored Meets a b = same_swapped (first_end a) (last_end b)
mirrored MetBy a b = same_swapped (last_end a) (first_end b)
mirrored Starts a b = rw (same_swapped (first_end a) (first_end b))
mirrored StartedBy a b = rw (same_swapped (first_end a) (first_end b))
mirrored Finishes a b = rw (same_swapped (last_end a) (last_end b))
mirrored FinishedBy a b = rw (same_swapped (last_end a) (last_end b))
mirrored Overlaps a b = refl
mirrored OverlappedBy a b = refl

-- ---- the days of an interval by its first and last day, the first and last of all where it is open

first_number : Option Day → ℤ
first_number None = neg_ℤ (pos 719528)
first_number (Some day) = number_of day

last_number : Option Day → ℤ
last_number None = pos 2932896
last_number (Some day) = number_of day

before_by_number : (to from : Option Day) → is_before (to_end to) (from_end from) ≡ int_lt (last_number to) (first_number from)
unfolding first_number last_number
before_by_number None None = refl
before_by_number None (Some d) = let r = d.in_range in grind (arith, ints)
before_by_number (Some d) None = let r = d.in_range in grind (arith, ints)
before_by_number (Some d) (Some e) = refl

ends_in_order : (from to : Option Day) → ¬ IsTurned from to → int_lt (last_number to) (first_number from) ≡ false
unfolding first_number last_number
ends_in_order None None h = refl
ends_in_order None (Some e) h = let r = e.in_range in grind (arith, ints)
ends_in_order (Some d) None h = let r = d.in_range in grind (arith, ints)
ends_in_order (Some d) (Some e) h = grind (arith, ints)

first_is_day : (from : Option Day) → IsDayNumber (first_number from)
unfolding first_number
first_is_day None = (omega (arith, ints), omega (arith, ints))
first_is_day (Some d) = d.in_range

from_by_number : (from : Option Day) (n : ℤ) → first_number from ≤ℤ n → IsFrom from n
unfolding first_number
from_by_number None n h = tt
from_by_number (Some d) n h = h

up_to_by_number : (to : Option Day) (n : ℤ) → n ≤ℤ last_number to → IsUpTo to n
unfolding last_number
up_to_by_number None n h = tt
up_to_by_number (Some d) n h = h

number_by_from : (from : Option Day) (n : ℤ) → IsDayNumber n → IsFrom from n → first_number from ≤ℤ n
unfolding first_number
number_by_from None n day h = day.0
number_by_from (Some d) n day h = h

number_by_up_to : (to : Option Day) (n : ℤ) → IsDayNumber n → IsUpTo to n → n ≤ℤ last_number to
unfolding last_number
number_by_up_to None n day h = day.1
number_by_up_to (Some d) n day h = h

middle_where : (a b c d : ℤ) (later : Bool) → int_lt a b ≡ later → int_lt c a ≡ false → int_lt d b ≡ false → not (int_lt d a || int_lt c b) ≡ true →
    (n : ℤ) × (a ≤ℤ n) × (b ≤ℤ n) × (n ≤ℤ c) × (n ≤ℤ d) × ((n ≡ a) ⊎ (n ≡ b))
middle_where a b c d true later h k e =
    (b, grind (arith, ints), grind (arith, ints), grind (arith, ints), grind (arith, ints), inr refl)
middle_where a b c d false later h k e =
    (a, grind (arith, ints), grind (arith, ints), grind (arith, ints), grind (arith, ints), inl refl)

-- the later of two first days lies in both
middle : (a b c d : ℤ) → int_lt c a ≡ false → int_lt d b ≡ false → not (int_lt d a || int_lt c b) ≡ true →
    (n : ℤ) × (a ≤ℤ n) × (b ≤ℤ n) × (n ≤ℤ c) × (n ≤ℤ d) × ((n ≡ a) ⊎ (n ≡ b))
middle a b c d h k e = middle_where a b c d (int_lt a b) refl h k e

one_of : (n a b : ℤ) → IsDayNumber a → IsDayNumber b → (n ≡ a) ⊎ (n ≡ b) → IsDayNumber n
one_of n a b h k (inl e) = rw e h
one_of n a b h k (inr e) = rw e k

apart : (a b c d n : ℤ) → a ≤ℤ n → b ≤ℤ n → n ≤ℤ c → n ≤ℤ d → not (int_lt d a || int_lt c b) ≡ true
apart a b c d n h i j k = grind (arith, ints)

pub share_where_intersecting : (a b : Interval) → IsTrue (holds Intersects a b) → ShareDay a b
share_where_intersecting a b h =
    let apart_by_number = rw (before_by_number b.to a.from, before_by_number a.to b.from) at h in
    let m = middle (first_number a.from) (first_number b.from) (last_number a.to) (last_number b.to)
    (ends_in_order a.from a.to a.in_order) (ends_in_order b.from b.to b.in_order) apart_by_number in
    let day = one_of m.0 _ _ (first_is_day a.from) (first_is_day b.from) m.5 in
    (m.0, (day, from_by_number a.from m.0 m.1, up_to_by_number a.to m.0 m.3), (day, from_by_number b.from m.0 m.2, up_to_by_number b.to m.0 m.4))

pub intersect_where_sharing : (a b : Interval) → ShareDay a b → IsTrue (holds Intersects a b)
intersect_where_sharing a b h =
    let in_a = h.1 in
    let in_b = h.2 in
    rw (before_by_number b.to a.from, before_by_number a.to b.from)
    (apart _ _ _ _ h.0 (number_by_from a.from h.0 in_a.0 in_a.1) (number_by_from b.from h.0 in_b.0 in_b.1)
    (number_by_up_to a.to h.0 in_a.0 in_a.2) (number_by_up_to b.to h.0 in_b.0 in_b.2))
