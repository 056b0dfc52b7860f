-- Values between two edges have the ranks between two.
use Rattle.std.proofs.Common.{◌≡◌, ◌∙◌, ℕ, zero, suc, ◌<◌, ◌≤◌, Bool, true, false, max, List, [], ◌∷◌, length, map, get_or, ap, sym, refl, arith, inl, inr, Option, Some, None, chars}
use Rattle.std.specs.Prelude.{◌&&◌, not, nat_le, nat_lt, is_some, string_bytes}
use Rattle.std.specs.declared.cmp.Ordering.{Ordering}
use Rattle.std.specs.declared.cmp.Ordering.TheVariants.{Less, Equal, Greater}
use Rattle.std.specs.Ordering.{is_gt, is_lt}
use Rattle.std.proofs.lemmas.Bool.Decides.{nat_tests}
use Rattle.std.proofs.lemmas.Bool.{false≢true}
use Rattle.std.proofs.lemmas.List.{length-map, get_or-map}
use Rattle.std.proofs.Math.ListN.{get_or-eq_default}
use Rattle.cad_feature.specs.Values.{Datum, null, a_text, a_whole, a_day}
use Rattle.cad_positions.specs.Between.{below}
use Rattle.cad_positions.specs.Rankings.{is_between, positions_between}
use Rattle.cad_range.specs.Ranges.{compared, has_order, holds_of, lies_between}
use Rattle.cad_feature.specs.Limits.{scalar_datum, limit_of}
use Rattle.cad_ordered.specs.Edges.{scalar_kind}
use Rattle.cad_ordered.specs.Ranged.{range_positions}
use Rattle.cad_ordered.specs.Columns.{data_of, kind_of, is_before, IsSplit, by_rank, IsLowRank, IsHighRank}
use Rattle.cad_feature.specs.declared.range.Edge.{Edge}
use Rattle.cad_feature.specs.declared.range.Scalar.{Scalar}
use Rattle.cad_feature.specs.declared.range.Scalar.TheVariants as scalar
use Rattle.cad_ordered.specs.declared.keys.Keys.{Keys}
use Rattle.cad_ordered.specs.declared.keys.Keys.TheVariants as keys
use Rattle.std.specs.Rc.{rc_value}
use Rattle.cad_positions.specs.lemmas.PositionSetLemmas.{same_from}

at_place : {X : Type 0} (f : X → Datum) (P : Datum → Type 0) → ((x : X) → P (f x)) → (xs : List X) (i : ℕ) → i < length (map f xs) → P (get_or (map f xs) i null)
at_place f P h [] i l = absurd (omega arith)
at_place f P h (x ∷ xs) zero l = h x
at_place f P h (x ∷ xs) (suc i) l = at_place f P h xs i (omega arith)

pub have_order : (ks : Keys) (i : ℕ) → i < length (data_of ks) → has_order (get_or (data_of ks) i null) ≡ true
have_order (keys.Texts v) i h = at_place (λ t. a_text (chars (string_bytes (rc_value t)))) (λ d. has_order d ≡ true) (λ x. refl) v.texts.items i h
have_order (keys.Wholes v) i h = at_place a_whole (λ d. has_order d ≡ true) (λ x. refl) v.items i h
have_order (keys.Days v) i h = at_place a_day (λ d. has_order d ≡ true) (λ x. refl) v.items i h

pub are_compared : (ks : Keys) (s : Scalar) (i : ℕ) → i < length (data_of ks) → scalar_kind s ≡ kind_of ks → is_some (compared (get_or (data_of ks) i null) (scalar_datum s)) ≡ true
are_compared (keys.Texts v) (scalar.Text t) i h e = at_place (λ t. a_text (chars (string_bytes (rc_value t)))) (λ d. is_some (compared d (scalar_datum (scalar.Text t))) ≡ true) (λ x. refl) v.texts.items i h
are_compared (keys.Wholes v) (scalar.Whole n) i h e = at_place a_whole (λ d. is_some (compared d (a_whole n)) ≡ true) (λ x. refl) v.items i h
are_compared (keys.Days v) (scalar.Day n) i h e = at_place a_day (λ d. is_some (compared d (a_day n)) ≡ true) (λ x. refl) v.items i h
are_compared (keys.Texts v) (scalar.Whole n) i h e = cc
are_compared (keys.Texts v) (scalar.Day n) i h e = cc
are_compared (keys.Wholes v) (scalar.Text n) i h e = cc
are_compared (keys.Wholes v) (scalar.Day n) i h e = cc
are_compared (keys.Days v) (scalar.Text n) i h e = cc
are_compared (keys.Days v) (scalar.Whole n) i h e = cc

-- at or above is not below, where the two are compared
from_with : (o : Option Ordering) (b : Bool) → is_before false o ≡ b → is_some o ≡ true → holds_of (λ o. not (is_lt o)) o ≡ not b
from_with None b h k = absurd (false≢true k)
from_with (Some Less) b h k = rw (← h) refl
from_with (Some Equal) b h k = rw (← h) refl
from_with (Some Greater) b h k = rw (← h) refl

from_without : (o : Option Ordering) (b : Bool) → is_before true o ≡ b → is_some o ≡ true → holds_of is_gt o ≡ not b
from_without None b h k = absurd (false≢true k)
from_without (Some Less) b h k = rw (← h) refl
from_without (Some Equal) b h k = rw (← h) refl
from_without (Some Greater) b h k = rw (← h) refl

split_low : (ds : List Datum) (s : Datum) (r i : ℕ) (upto : Bool) → IsSplit upto ds s r → i < length ds → is_before upto (compared (get_or ds i null) s) ≡ nat_lt i r
split_low ds s r i upto sp h = elim (below i r) [
  | inl l ↦ let e : nat_lt i r ≡ true = grind (arith, nat_tests) in sp.before i l ∙ sym e
  | inr l ↦ let e : nat_lt i r ≡ false = grind (arith, nat_tests) in sp.after i l h ∙ sym e
]

not_lt : (i r : ℕ) → not (nat_lt i r) ≡ nat_le r i
not_lt i r = grind (arith, nat_tests)

pub low_with : (ks : Keys) (s : Scalar) (r : ℕ) → scalar_kind s ≡ kind_of ks → IsSplit false (data_of ks) (scalar_datum s) r → (i : ℕ) → i < length (data_of ks) → holds_of (λ o. not (is_lt o)) (compared (get_or (data_of ks) i null) (scalar_datum s)) ≡ nat_le r i
low_with ks s r e sp i h = from_with _ (nat_lt i r) (split_low (data_of ks) (scalar_datum s) r i false sp h) (are_compared ks s i h e) ∙ not_lt i r

pub low_without : (ks : Keys) (s : Scalar) (r : ℕ) → scalar_kind s ≡ kind_of ks → IsSplit true (data_of ks) (scalar_datum s) r → (i : ℕ) → i < length (data_of ks) → holds_of is_gt (compared (get_or (data_of ks) i null) (scalar_datum s)) ≡ nat_le r i
low_without ks s r e sp i h = from_without _ (nat_lt i r) (split_low (data_of ks) (scalar_datum s) r i true sp h) (are_compared ks s i h e) ∙ not_lt i r

between_max : (lo hi r : ℕ) → is_between lo (max hi lo) r ≡ (nat_le lo r && nat_lt r hi)
between_max lo hi r = elim (below hi lo) [
  | inl h ↦ let e : max hi lo ≡ lo = omega arith in rw e (grind (arith, nat_tests))
  | inr h ↦ let e : max hi lo ≡ hi = omega arith in rw e refl
]

none_there : (lo hi r n : ℕ) → lo ≤ n → hi ≤ n → n ≤ r → (nat_le lo r && nat_lt r hi) ≡ false
none_there lo hi r n h k l = grind (arith, nat_tests)

at_rank : (ks : Keys) (low high : Edge) (lo hi r : ℕ) → IsLowRank (data_of ks) low lo → IsHighRank (data_of ks) high hi → lies_between (limit_of low) (limit_of high) (get_or (data_of ks) r null) ≡ (nat_le lo r && nat_lt r hi)
at_rank ks low high lo hi r l h = elim (below r (length (data_of ks))) [
  | inl k ↦ rw (have_order ks r k, l.splits r k, h.splits r k) refl
  | inr k ↦ let e = get_or-eq_default (data_of ks) null k in rw e (sym (none_there lo hi r (length (data_of ks)) l.within h.within k))
]

pub range_is : (ks : Keys) (ranks : List ℕ) (low high : Edge) (lo hi : ℕ) → IsLowRank (data_of ks) low lo → IsHighRank (data_of ks) high hi → positions_between ranks lo (max hi lo) ≡ range_positions (by_rank (data_of ks) ranks) (limit_of low) (limit_of high)
unfolding positions_between range_positions
range_is ks ranks low high lo hi l h =
    let n = length-map ranks (λ (r : ℕ). get_or (data_of ks) r null) in
    rw n (same_from (λ p. is_between lo (max hi lo) (get_or ranks p 0)) (λ p. lies_between (limit_of low) (limit_of high) (get_or (by_rank (data_of ks) ranks) p null)) 0 (length ranks)
    (λ p a b. between_max lo hi (get_or ranks p 0) ∙ sym (at_rank ks low high lo hi (get_or ranks p 0) l h) ∙ ap (lies_between (limit_of low) (limit_of high)) (sym (get_or-map (λ (r : ℕ). get_or (data_of ks) r null) ranks p 0 null (omega arith)))))
