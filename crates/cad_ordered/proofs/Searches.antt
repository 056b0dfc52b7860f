-- A search by halves among values in their order.
use Rattle.std.proofs.Common.{◌≡◌, ◌∙◌, ℕ, ◌+◌, ◌<◌, ◌≤◌, Bool, true, false, List, length, get_or, sym, refl, arith, Some}
use Rattle.std.specs.declared.cmp.Ordering.{Ordering}
use Rattle.std.specs.declared.cmp.Ordering.TheVariants.{Less, Equal, Greater}
use Rattle.std.specs.Ordering.{is_le}
use Rattle.std.specs.Cmp.{IsTotalOrder}
use Rattle.std.proofs.lemmas.Cmp.{nat_list_cmp_total, int_cmp_total, alike_right}
use Rattle.std.proofs.lemmas.Bool.{false≢true}
use Rattle.cad_day.specs.Days.{number_of}
use Rattle.cad_feature.specs.Values.{Datum, null, a_text, a_whole, a_day}
use Rattle.cad_range.specs.Ranges.{compared}
use Rattle.cad_ordered.specs.Columns.{AtMost, IsAscending, is_before}

module _ {K : Type 0} {R : K → K → Ordering} (o : IsTotalOrder R) where
  leads_by : (x y z : K) (r s : Ordering) (upto : Bool) → R x y ≡ r → R y z ≡ s → is_le r ≡ true → is_before upto (Some s) ≡ true → is_before upto (Some (R x z)) ≡ true
  leads_by x y z Less Less upto p q h k = rw (o.trans x y z p q) k
  leads_by x y z Less Equal true p q h k = let e : R x z ≡ Less = sym (alike_right o y z x q) ∙ p in rw e refl
  leads_by x y z Less Equal false p q h k = absurd (false≢true k)
  leads_by x y z Less Greater true p q h k = absurd (false≢true k)
  leads_by x y z Less Greater false p q h k = absurd (false≢true k)
  leads_by x y z Equal s upto p q h k = rw (o.congr x y z p ∙ q) k
  leads_by x y z Greater s upto p q h k = absurd (false≢true h)

  leads : (x y z : K) (upto : Bool) → is_le (R x y) ≡ true → is_before upto (Some (R y z)) ≡ true → is_before upto (Some (R x z)) ≡ true
  leads x y z upto h k = leads_by x y z (R x y) (R y z) upto refl refl h k

-- what is at most something that comes before s comes before s
pub before_down : (upto : Bool) (x y s : Datum) → AtMost x y → is_before upto (compared y s) ≡ true → is_before upto (compared x s) ≡ true
before_down upto (a_text x) (a_text y) (a_text s) h k = leads nat_list_cmp_total x y s upto h k
before_down upto (a_whole x) (a_whole y) (a_whole s) h k = leads int_cmp_total x y s upto h k
before_down upto (a_day x) (a_day y) (a_day s) h k = leads int_cmp_total (number_of x) (number_of y) (number_of s) upto h k
before_down upto (a_text x) (a_text y) s h k = absurd (false≢true k)
before_down upto (a_whole x) (a_whole y) s h k = absurd (false≢true k)
before_down upto (a_day x) (a_day y) s h k = absurd (false≢true k)
before_down upto x y s h k = absurd (false≢true h)

-- the place lies from low to high
pub record IsSought (upto : Bool) (ds : List Datum) (s : Datum) (low high : ℕ) : Type 0 where
  pub ordered : low ≤ high
  pub within : high ≤ length ds
  pub before : (i : ℕ) → i < low → is_before upto (compared (get_or ds i null) s) ≡ true
  pub after : (i : ℕ) → high ≤ i → i < length ds → is_before upto (compared (get_or ds i null) s) ≡ false

pub sought_up : (upto : Bool) (ds : List Datum) (s : Datum) (low high m : ℕ) → IsAscending ds → low ≤ m → m < high → is_before upto (compared (get_or ds m null) s) ≡ true → IsSought upto ds s low high → IsSought upto ds s (m + 1) high
sought_up upto ds s low high m up a b h g = record {
  ordered = omega arith;
  within = g.within;
  before = λ i k. before_down upto (get_or ds i null) (get_or ds m null) s (up i m (omega arith) (omega (arith, g.within))) h;
  after = g.after;
}

not_before : (b c : Bool) → (c ≡ true → b ≡ true) → b ≡ false → c ≡ false
not_before b c f h = grind arith

pub sought_down : (upto : Bool) (ds : List Datum) (s : Datum) (low high m : ℕ) → IsAscending ds → low ≤ m → m < high → is_before upto (compared (get_or ds m null) s) ≡ false → IsSought upto ds s low high → IsSought upto ds s low m
sought_down upto ds s low high m up a b h g = record {
  ordered = a;
  within = omega (arith, g.within);
  before = g.before;
  after = λ i k l. not_before (is_before upto (compared (get_or ds m null) s)) (is_before upto (compared (get_or ds i null) s)) (before_down upto (get_or ds m null) (get_or ds i null) s (up m i k l)) h;
}
