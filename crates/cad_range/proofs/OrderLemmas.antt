-- The order of a value against two scalars, by the order of these.
use Rattle.std.proofs.Common.{◌≡◌, ◌∙◌, sym, ap, refl, ℕ, List, Bool, true, false, not, ◌&&◌, ◌||◌, Option, Some, None, arith}
use Rattle.std.specs.Prelude.{ℤ}
use Rattle.std.proofs.Math.Bool.{or_comm}
use Rattle.std.proofs.lemmas.Cmp.{int_cmp_total, nat_list_cmp_total}
use Rattle.std.specs.Cmp.{IsTotalOrder, alike_right}
use Rattle.std.specs.Ordering.{int_cmp, is_lt, is_gt, is_le, is_ge, ordering_reverse}
use Rattle.std.specs.declared.cmp.Ordering.{Ordering}
use Rattle.std.specs.declared.cmp.Ordering.TheVariants.{Less, Equal, Greater}
use Rattle.cad_day.specs.Days.{number_of}
use Rattle.cad_day.specs.declared.day.Day.{Day}
use Rattle.cad_feature.specs.Limits.{limit_of, scalar_datum}
use Rattle.cad_feature.specs.Values.{Datum, null, a_text, a_whole, a_flag, a_day, a_span, a_spot, an_area}
use Rattle.cad_feature.specs.declared.range.Edge.{Edge}
use Rattle.cad_feature.specs.declared.range.Scalar.{Scalar}
use Rattle.cad_feature.specs.declared.range.Scalar.TheVariants as scalar
use Rattle.cad_range.specs.Ranges.{chosen_of, compared, has_order, holds_of, is_above, is_under, lies_between, picked}
use Rattle.cql_text.specs.Order.{text_cmp}
use Rattle.std.specs.Prelude.{chars, string_bytes}
use Rattle.std.proofs.lemmas.Bool.{or_right, or_left}

-- orders of one value against two, where the first is ordered so against the second
abbrev pub Fits : Ordering → Ordering → Ordering → Type 0
Fits p q Less = (is_gt p || is_lt q) ≡ true
Fits p q Equal = p ≡ q
Fits p q Greater = (is_lt p || is_gt q) ≡ true

module _ {K : Type 0} {R : K → K → Ordering} (o : IsTotalOrder R) where
  less_fits : (a b v : K) (q : Ordering) → R v b ≡ q → R a b ≡ Less → (is_gt (R v a) || is_lt (R v b)) ≡ true
  less_fits a b v Less e h = or_right (is_gt (R v a)) (is_lt (R v b)) (ap is_lt e)
  less_fits a b v Equal e h = or_left (is_gt (R v a)) (is_lt (R v b)) (ap is_gt (o.congr v b a e ∙ o.antisymm b a ∙ ap ordering_reverse h))
  less_fits a b v Greater e h = or_left (is_gt (R v a)) (is_lt (R v b)) (ap is_gt (o.antisymm v a ∙ ap ordering_reverse (o.trans a b v h (o.antisymm b v ∙ ap ordering_reverse e))))

  pub total_fits : (a b v : K) (r : Ordering) → R a b ≡ r → Fits (R v a) (R v b) r
  total_fits a b v Less h = less_fits a b v (R v b) refl h
  total_fits a b v Equal h = alike_right o a b v h
  total_fits a b v Greater h = or_comm (is_lt (R v a)) (is_gt (R v b)) ∙ less_fits b a v (R v a) refl (o.antisymm b a ∙ ap ordering_reverse h)

some_is : (r s : Ordering) → Some r ≡ Some s → r ≡ s
some_is r s h = cc

-- a claim on the tests of two orders holds wherever these fit
abbrev Claims : (f g : Ordering → Bool) (P : Bool → Bool → Type 0) → Ordering → Type 0
Claims f g P r = (p q : Ordering) → Fits p q r → P (f p) (g q)

module _ (f g : Ordering → Bool) (P : Bool → Bool → Type 0) (none : P false false) (r : Ordering) (some : Claims f g P r) where
  of_texts : (s t : List ℕ) → text_cmp s t ≡ r → (d : Datum) → P (holds_of f (compared d (a_text s))) (holds_of g (compared d (a_text t)))
  of_texts s t h (a_text v) = some (text_cmp v s) (text_cmp v t) (total_fits nat_list_cmp_total s t v r h)
  of_texts s t h null = none
  of_texts s t h (a_whole n) = none
  of_texts s t h (a_flag b) = none
  of_texts s t h (a_day day) = none
  of_texts s t h (a_span days) = none
  of_texts s t h (a_spot p) = none
  of_texts s t h (an_area ring) = none

  of_wholes : (m n : ℤ) → int_cmp m n ≡ r → (d : Datum) → P (holds_of f (compared d (a_whole m))) (holds_of g (compared d (a_whole n)))
  of_wholes m n h (a_whole v) = some (int_cmp v m) (int_cmp v n) (total_fits int_cmp_total m n v r h)
  of_wholes m n h null = none
  of_wholes m n h (a_text t) = none
  of_wholes m n h (a_flag b) = none
  of_wholes m n h (a_day day) = none
  of_wholes m n h (a_span days) = none
  of_wholes m n h (a_spot p) = none
  of_wholes m n h (an_area ring) = none

  of_days : (m n : Day) → int_cmp (number_of m) (number_of n) ≡ r → (d : Datum) → P (holds_of f (compared d (a_day m))) (holds_of g (compared d (a_day n)))
  of_days m n h (a_day v) = some (int_cmp (number_of v) (number_of m)) (int_cmp (number_of v) (number_of n)) (total_fits int_cmp_total (number_of m) (number_of n) (number_of v) r h)
  of_days m n h null = none
  of_days m n h (a_text t) = none
  of_days m n h (a_whole n') = none
  of_days m n h (a_flag b) = none
  of_days m n h (a_span days) = none
  of_days m n h (a_spot p) = none
  of_days m n h (an_area ring) = none

-- what holds of the tests of every two orders that fit holds of the tests of a value
pub judged : (f g : Ordering → Bool) (P : Bool → Bool → Type 0) (a b : Scalar) (r : Ordering) → compared (scalar_datum a) (scalar_datum b) ≡ Some r → P false false → ((p q : Ordering) → Fits p q r → P (f p) (g q)) →
    (d : Datum) → P (holds_of f (compared d (scalar_datum a))) (holds_of g (compared d (scalar_datum b)))
judged f g P (scalar.Text s) (scalar.Text t) r h none some = of_texts f g P none r some (chars (string_bytes s)) (chars (string_bytes t)) (some_is _ _ h)
judged f g P (scalar.Whole m) (scalar.Whole n) r h none some = of_wholes f g P none r some m n (some_is _ _ h)
judged f g P (scalar.Day m) (scalar.Day n) r h none some = of_days f g P none r some m n (some_is _ _ h)
judged f g P (scalar.Text s) (scalar.Whole n) r h none some = absurd cc
judged f g P (scalar.Text s) (scalar.Day n) r h none some = absurd cc
judged f g P (scalar.Whole m) (scalar.Text t) r h none some = absurd cc
judged f g P (scalar.Whole m) (scalar.Day n) r h none some = absurd cc
judged f g P (scalar.Day m) (scalar.Text t) r h none some = absurd cc
judged f g P (scalar.Day m) (scalar.Whole n) r h none some = absurd cc

-- ---- of two lower ends

pub above_without_with : (r p q : Ordering) → Fits p q r → picked (Some (is_lt r)) (is_gt p) (not (is_lt q)) ≡ (is_gt p && not (is_lt q))
above_without_with Less Less Less h = refl
above_without_with Less Less Equal h = absurd cc
above_without_with Less Less Greater h = absurd cc
above_without_with Less Equal Less h = refl
above_without_with Less Equal Equal h = absurd cc
above_without_with Less Equal Greater h = absurd cc
above_without_with Less Greater Less h = refl
above_without_with Less Greater Equal h = refl
above_without_with Less Greater Greater h = refl
above_without_with Equal Less Less h = refl
above_without_with Equal Less Equal h = absurd cc
above_without_with Equal Less Greater h = absurd cc
above_without_with Equal Equal Less h = absurd cc
above_without_with Equal Equal Equal h = refl
above_without_with Equal Equal Greater h = absurd cc
above_without_with Equal Greater Less h = absurd cc
above_without_with Equal Greater Equal h = absurd cc
above_without_with Equal Greater Greater h = refl
above_without_with Greater Less Less h = refl
above_without_with Greater Less Equal h = refl
above_without_with Greater Less Greater h = refl
above_without_with Greater Equal Less h = absurd cc
above_without_with Greater Equal Equal h = absurd cc
above_without_with Greater Equal Greater h = refl
above_without_with Greater Greater Less h = absurd cc
above_without_with Greater Greater Equal h = absurd cc
above_without_with Greater Greater Greater h = refl

pub above_with_with : (r p q : Ordering) → Fits p q r → picked (Some (is_le r)) (not (is_lt p)) (not (is_lt q)) ≡ (not (is_lt p) && not (is_lt q))
above_with_with Less Less Less h = refl
above_with_with Less Less Equal h = absurd cc
above_with_with Less Less Greater h = absurd cc
above_with_with Less Equal Less h = refl
above_with_with Less Equal Equal h = absurd cc
above_with_with Less Equal Greater h = absurd cc
above_with_with Less Greater Less h = refl
above_with_with Less Greater Equal h = refl
above_with_with Less Greater Greater h = refl
above_with_with Equal Less Less h = refl
above_with_with Equal Less Equal h = absurd cc
above_with_with Equal Less Greater h = absurd cc
above_with_with Equal Equal Less h = absurd cc
above_with_with Equal Equal Equal h = refl
above_with_with Equal Equal Greater h = absurd cc
above_with_with Equal Greater Less h = absurd cc
above_with_with Equal Greater Equal h = absurd cc
above_with_with Equal Greater Greater h = refl
above_with_with Greater Less Less h = refl
above_with_with Greater Less Equal h = refl
above_with_with Greater Less Greater h = refl
above_with_with Greater Equal Less h = absurd cc
above_with_with Greater Equal Equal h = absurd cc
above_with_with Greater Equal Greater h = refl
above_with_with Greater Greater Less h = absurd cc
above_with_with Greater Greater Equal h = absurd cc
above_with_with Greater Greater Greater h = refl

pub above_with_without : (r p q : Ordering) → Fits p q r → picked (Some (is_le r)) (not (is_lt p)) (is_gt q) ≡ (not (is_lt p) && is_gt q)
above_with_without Less Less Less h = refl
above_with_without Less Less Equal h = absurd cc
above_with_without Less Less Greater h = absurd cc
above_with_without Less Equal Less h = refl
above_with_without Less Equal Equal h = absurd cc
above_with_without Less Equal Greater h = absurd cc
above_with_without Less Greater Less h = refl
above_with_without Less Greater Equal h = refl
above_with_without Less Greater Greater h = refl
above_with_without Equal Less Less h = refl
above_with_without Equal Less Equal h = absurd cc
above_with_without Equal Less Greater h = absurd cc
above_with_without Equal Equal Less h = absurd cc
above_with_without Equal Equal Equal h = refl
above_with_without Equal Equal Greater h = absurd cc
above_with_without Equal Greater Less h = absurd cc
above_with_without Equal Greater Equal h = absurd cc
above_with_without Equal Greater Greater h = refl
above_with_without Greater Less Less h = refl
above_with_without Greater Less Equal h = refl
above_with_without Greater Less Greater h = refl
above_with_without Greater Equal Less h = absurd cc
above_with_without Greater Equal Equal h = absurd cc
above_with_without Greater Equal Greater h = refl
above_with_without Greater Greater Less h = absurd cc
above_with_without Greater Greater Equal h = absurd cc
above_with_without Greater Greater Greater h = refl

pub above_without_without : (r p q : Ordering) → Fits p q r → picked (Some (is_le r)) (is_gt p) (is_gt q) ≡ (is_gt p && is_gt q)
above_without_without Less Less Less h = refl
above_without_without Less Less Equal h = absurd cc
above_without_without Less Less Greater h = absurd cc
above_without_without Less Equal Less h = refl
above_without_without Less Equal Equal h = absurd cc
above_without_without Less Equal Greater h = absurd cc
above_without_without Less Greater Less h = refl
above_without_without Less Greater Equal h = refl
above_without_without Less Greater Greater h = refl
above_without_without Equal Less Less h = refl
above_without_without Equal Less Equal h = absurd cc
above_without_without Equal Less Greater h = absurd cc
above_without_without Equal Equal Less h = absurd cc
above_without_without Equal Equal Equal h = refl
above_without_without Equal Equal Greater h = absurd cc
above_without_without Equal Greater Less h = absurd cc
above_without_without Equal Greater Equal h = absurd cc
above_without_without Equal Greater Greater h = refl
above_without_without Greater Less Less h = refl
above_without_without Greater Less Equal h = refl
above_without_without Greater Less Greater h = refl
above_without_without Greater Equal Less h = absurd cc
above_without_without Greater Equal Equal h = absurd cc
above_without_without Greater Equal Greater h = refl
above_without_without Greater Greater Less h = absurd cc
above_without_without Greater Greater Equal h = absurd cc
above_without_without Greater Greater Greater h = refl

-- ---- of two upper ends

pub under_without_with : (r p q : Ordering) → Fits p q r → picked (Some (is_gt r)) (is_lt p) (not (is_gt q)) ≡ (is_lt p && not (is_gt q))
under_without_with Less Less Less h = refl
under_without_with Less Less Equal h = absurd cc
under_without_with Less Less Greater h = absurd cc
under_without_with Less Equal Less h = refl
under_without_with Less Equal Equal h = absurd cc
under_without_with Less Equal Greater h = absurd cc
under_without_with Less Greater Less h = refl
under_without_with Less Greater Equal h = refl
under_without_with Less Greater Greater h = refl
under_without_with Equal Less Less h = refl
under_without_with Equal Less Equal h = absurd cc
under_without_with Equal Less Greater h = absurd cc
under_without_with Equal Equal Less h = absurd cc
under_without_with Equal Equal Equal h = refl
under_without_with Equal Equal Greater h = absurd cc
under_without_with Equal Greater Less h = absurd cc
under_without_with Equal Greater Equal h = absurd cc
under_without_with Equal Greater Greater h = refl
under_without_with Greater Less Less h = refl
under_without_with Greater Less Equal h = refl
under_without_with Greater Less Greater h = refl
under_without_with Greater Equal Less h = absurd cc
under_without_with Greater Equal Equal h = absurd cc
under_without_with Greater Equal Greater h = refl
under_without_with Greater Greater Less h = absurd cc
under_without_with Greater Greater Equal h = absurd cc
under_without_with Greater Greater Greater h = refl

pub under_with_with : (r p q : Ordering) → Fits p q r → picked (Some (is_ge r)) (not (is_gt p)) (not (is_gt q)) ≡ (not (is_gt p) && not (is_gt q))
under_with_with Less Less Less h = refl
under_with_with Less Less Equal h = absurd cc
under_with_with Less Less Greater h = absurd cc
under_with_with Less Equal Less h = refl
under_with_with Less Equal Equal h = absurd cc
under_with_with Less Equal Greater h = absurd cc
under_with_with Less Greater Less h = refl
under_with_with Less Greater Equal h = refl
under_with_with Less Greater Greater h = refl
under_with_with Equal Less Less h = refl
under_with_with Equal Less Equal h = absurd cc
under_with_with Equal Less Greater h = absurd cc
under_with_with Equal Equal Less h = absurd cc
under_with_with Equal Equal Equal h = refl
under_with_with Equal Equal Greater h = absurd cc
under_with_with Equal Greater Less h = absurd cc
under_with_with Equal Greater Equal h = absurd cc
under_with_with Equal Greater Greater h = refl
under_with_with Greater Less Less h = refl
under_with_with Greater Less Equal h = refl
under_with_with Greater Less Greater h = refl
under_with_with Greater Equal Less h = absurd cc
under_with_with Greater Equal Equal h = absurd cc
under_with_with Greater Equal Greater h = refl
under_with_with Greater Greater Less h = absurd cc
under_with_with Greater Greater Equal h = absurd cc
under_with_with Greater Greater Greater h = refl

pub under_with_without : (r p q : Ordering) → Fits p q r → picked (Some (is_ge r)) (not (is_gt p)) (is_lt q) ≡ (not (is_gt p) && is_lt q)
under_with_without Less Less Less h = refl
under_with_without Less Less Equal h = absurd cc
under_with_without Less Less Greater h = absurd cc
under_with_without Less Equal Less h = refl
under_with_without Less Equal Equal h = absurd cc
under_with_without Less Equal Greater h = absurd cc
under_with_without Less Greater Less h = refl
under_with_without Less Greater Equal h = refl
under_with_without Less Greater Greater h = refl
under_with_without Equal Less Less h = refl
under_with_without Equal Less Equal h = absurd cc
under_with_without Equal Less Greater h = absurd cc
under_with_without Equal Equal Less h = absurd cc
under_with_without Equal Equal Equal h = refl
under_with_without Equal Equal Greater h = absurd cc
under_with_without Equal Greater Less h = absurd cc
under_with_without Equal Greater Equal h = absurd cc
under_with_without Equal Greater Greater h = refl
under_with_without Greater Less Less h = refl
under_with_without Greater Less Equal h = refl
under_with_without Greater Less Greater h = refl
under_with_without Greater Equal Less h = absurd cc
under_with_without Greater Equal Equal h = absurd cc
under_with_without Greater Equal Greater h = refl
under_with_without Greater Greater Less h = absurd cc
under_with_without Greater Greater Equal h = absurd cc
under_with_without Greater Greater Greater h = refl

pub under_without_without : (r p q : Ordering) → Fits p q r → picked (Some (is_ge r)) (is_lt p) (is_lt q) ≡ (is_lt p && is_lt q)
under_without_without Less Less Less h = refl
under_without_without Less Less Equal h = absurd cc
under_without_without Less Less Greater h = absurd cc
under_without_without Less Equal Less h = refl
under_without_without Less Equal Equal h = absurd cc
under_without_without Less Equal Greater h = absurd cc
under_without_without Less Greater Less h = refl
under_without_without Less Greater Equal h = refl
under_without_without Less Greater Greater h = refl
under_without_without Equal Less Less h = refl
under_without_without Equal Less Equal h = absurd cc
under_without_without Equal Less Greater h = absurd cc
under_without_without Equal Equal Less h = absurd cc
under_without_without Equal Equal Equal h = refl
under_without_without Equal Equal Greater h = absurd cc
under_without_without Equal Greater Less h = absurd cc
under_without_without Equal Greater Equal h = absurd cc
under_without_without Equal Greater Greater h = refl
under_without_without Greater Less Less h = refl
under_without_without Greater Less Equal h = refl
under_without_without Greater Less Greater h = refl
under_without_without Greater Equal Less h = absurd cc
under_without_without Greater Equal Equal h = absurd cc
under_without_without Greater Equal Greater h = refl
under_without_without Greater Greater Less h = absurd cc
under_without_without Greater Greater Equal h = absurd cc
under_without_without Greater Greater Greater h = refl

-- ---- of a lower end and an upper one

pub turned_with_with : (r p q : Ordering) → is_gt r ≡ true → Fits p q r → (not (is_lt p) && not (is_gt q)) ≡ false
turned_with_with Less p q k h = absurd cc
turned_with_with Equal p q k h = absurd cc
turned_with_with Greater Less Less k h = refl
turned_with_with Greater Less Equal k h = refl
turned_with_with Greater Less Greater k h = refl
turned_with_with Greater Equal Less k h = absurd cc
turned_with_with Greater Equal Equal k h = absurd cc
turned_with_with Greater Equal Greater k h = refl
turned_with_with Greater Greater Less k h = absurd cc
turned_with_with Greater Greater Equal k h = absurd cc
turned_with_with Greater Greater Greater k h = refl

pub turned_with_without : (r p q : Ordering) → is_ge r ≡ true → Fits p q r → (not (is_lt p) && is_lt q) ≡ false
turned_with_without Less p q k h = absurd cc
turned_with_without Equal Less Less k h = refl
turned_with_without Equal Less Equal k h = absurd cc
turned_with_without Equal Less Greater k h = absurd cc
turned_with_without Equal Equal Less k h = absurd cc
turned_with_without Equal Equal Equal k h = refl
turned_with_without Equal Equal Greater k h = absurd cc
turned_with_without Equal Greater Less k h = absurd cc
turned_with_without Equal Greater Equal k h = absurd cc
turned_with_without Equal Greater Greater k h = refl
turned_with_without Greater Less Less k h = refl
turned_with_without Greater Less Equal k h = refl
turned_with_without Greater Less Greater k h = refl
turned_with_without Greater Equal Less k h = absurd cc
turned_with_without Greater Equal Equal k h = absurd cc
turned_with_without Greater Equal Greater k h = refl
turned_with_without Greater Greater Less k h = absurd cc
turned_with_without Greater Greater Equal k h = absurd cc
turned_with_without Greater Greater Greater k h = refl

pub turned_without_with : (r p q : Ordering) → is_ge r ≡ true → Fits p q r → (is_gt p && not (is_gt q)) ≡ false
turned_without_with Less p q k h = absurd cc
turned_without_with Equal Less Less k h = refl
turned_without_with Equal Less Equal k h = absurd cc
turned_without_with Equal Less Greater k h = absurd cc
turned_without_with Equal Equal Less k h = absurd cc
turned_without_with Equal Equal Equal k h = refl
turned_without_with Equal Equal Greater k h = absurd cc
turned_without_with Equal Greater Less k h = absurd cc
turned_without_with Equal Greater Equal k h = absurd cc
turned_without_with Equal Greater Greater k h = refl
turned_without_with Greater Less Less k h = refl
turned_without_with Greater Less Equal k h = refl
turned_without_with Greater Less Greater k h = refl
turned_without_with Greater Equal Less k h = absurd cc
turned_without_with Greater Equal Equal k h = absurd cc
turned_without_with Greater Equal Greater k h = refl
turned_without_with Greater Greater Less k h = absurd cc
turned_without_with Greater Greater Equal k h = absurd cc
turned_without_with Greater Greater Greater k h = refl

pub turned_without_without : (r p q : Ordering) → is_ge r ≡ true → Fits p q r → (is_gt p && is_lt q) ≡ false
turned_without_without Less p q k h = absurd cc
turned_without_without Equal Less Less k h = refl
turned_without_without Equal Less Equal k h = absurd cc
turned_without_without Equal Less Greater k h = absurd cc
turned_without_without Equal Equal Less k h = absurd cc
turned_without_without Equal Equal Equal k h = refl
turned_without_without Equal Equal Greater k h = absurd cc
turned_without_without Equal Greater Less k h = absurd cc
turned_without_without Equal Greater Equal k h = absurd cc
turned_without_without Equal Greater Greater k h = refl
turned_without_without Greater Less Less k h = refl
turned_without_without Greater Less Equal k h = refl
turned_without_without Greater Less Greater k h = refl
turned_without_without Greater Equal Less k h = absurd cc
turned_without_without Greater Equal Equal k h = absurd cc
turned_without_without Greater Equal Greater k h = refl
turned_without_without Greater Greater Less k h = absurd cc
turned_without_without Greater Greater Equal k h = absurd cc
turned_without_without Greater Greater Greater k h = refl

-- ---- at values

pub none_picked : (b : Bool) → picked (Some b) false false ≡ false
none_picked true = refl
none_picked false = refl

turned_at : (sel f g : Ordering → Bool) (a b : Scalar) (o : Option Ordering) → compared (scalar_datum a) (scalar_datum b) ≡ o → holds_of sel o ≡ true → ((r p q : Ordering) → sel r ≡ true → Fits p q r → (f p && g q) ≡ false) →
    (d : Datum) → (holds_of f (compared d (scalar_datum a)) && holds_of g (compared d (scalar_datum b))) ≡ false
turned_at sel f g a b None h k claim d = absurd cc
turned_at sel f g a b (Some r) h k claim d = judged f g (λ s t. (s && t) ≡ false) a b r h refl (λ p q. claim r p q k) d

and_none : (h : Bool) (a b : Bool) → (a && b) ≡ false → (h && (a && b)) ≡ false
and_none true a b e = e
and_none false a b e = refl

-- ends that are turned round have nothing between them
pub turned : (sel f g : Ordering → Bool) (a b : Scalar) {t : Bool} (h : Bool) → t ≡ holds_of sel (compared (scalar_datum a) (scalar_datum b)) → t ≡ true → ((r p q : Ordering) → sel r ≡ true → Fits p q r → (f p && g q) ≡ false) →
    (d : Datum) → (h && (holds_of f (compared d (scalar_datum a)) && holds_of g (compared d (scalar_datum b)))) ≡ false
turned sel f g a b h e k claim d = and_none h (holds_of f (compared d (scalar_datum a))) (holds_of g (compared d (scalar_datum b))) (turned_at sel f g a b _ refl (sym e ∙ k) claim d)

-- ---- of two ranges

and_swap : (h a b c d : Bool) → ((h && (a && b)) && (h && (c && d))) ≡ (h && ((a && c) && (b && d)))
and_swap h a b c d = grind arith

above_chosen : (s : Bool) (first second : Edge) (d : Datum) → is_above (limit_of (chosen_of s first second)) d ≡ picked (Some s) (is_above (limit_of first) d) (is_above (limit_of second) d)
above_chosen true first second d = refl
above_chosen false first second d = refl

under_chosen : (s : Bool) (first second : Edge) (d : Datum) → is_under (limit_of (chosen_of s first second)) d ≡ picked (Some s) (is_under (limit_of first) d) (is_under (limit_of second) d)
under_chosen true first second d = refl
under_chosen false first second d = refl

pub joins : (low high : Bool) (a b c d : Edge) → ((v : Datum) → picked (Some low) (is_above (limit_of a) v) (is_above (limit_of c) v) ≡ (is_above (limit_of a) v && is_above (limit_of c) v)) → ((v : Datum) → picked (Some high) (is_under (limit_of b) v) (is_under (limit_of d) v) ≡ (is_under (limit_of b) v && is_under (limit_of d) v)) →
    (v : Datum) → lies_between (limit_of (chosen_of low a c)) (limit_of (chosen_of high b d)) v ≡ (lies_between (limit_of a) (limit_of b) v && lies_between (limit_of c) (limit_of d) v)
joins low high a b c d above under v =
    rw (above_chosen low a c v, under_chosen high b d v, above v, under v) (sym (and_swap (has_order v) (is_above (limit_of a) v) (is_under (limit_of b) v) (is_above (limit_of c) v) (is_under (limit_of d) v)))

nothing_above : (h a b c d : Bool) → (a && c) ≡ false → ((h && (a && b)) && (h && (c && d))) ≡ false
nothing_above h a b c d e = grind arith

nothing_under : (h a b c d : Bool) → (b && d) ≡ false → ((h && (a && b)) && (h && (c && d))) ≡ false
nothing_under h a b c d e = grind arith

-- no value is above two lower ends of different kinds, or under two upper ones
pub none_above : (a b c d : Edge) (v : Datum) → false ≡ (is_above (limit_of a) v && is_above (limit_of c) v) → false ≡ (lies_between (limit_of a) (limit_of b) v && lies_between (limit_of c) (limit_of d) v)
none_above a b c d v e = sym (nothing_above (has_order v) (is_above (limit_of a) v) (is_under (limit_of b) v) (is_above (limit_of c) v) (is_under (limit_of d) v) (sym e))

pub none_under : (a b c d : Edge) (v : Datum) → false ≡ (is_under (limit_of b) v && is_under (limit_of d) v) → false ≡ (lies_between (limit_of a) (limit_of b) v && lies_between (limit_of c) (limit_of d) v)
none_under a b c d v e = sym (nothing_under (has_order v) (is_above (limit_of a) v) (is_under (limit_of b) v) (is_above (limit_of c) v) (is_under (limit_of d) v) (sym e))
