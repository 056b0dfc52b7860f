-- The texts of a property that begin with a front, as a range.
use Rattle.std.proofs.Common.{◌≡◌, ◌↔◌, ◌∙◌, ap, sym, refl, ℕ, List, [], ◌∷◌, Bool, true, false, not, ◌&&◌, Option, Some, None, ◌≤◌, ◌==◌, arith}
use Rattle.std.proofs.lemmas.Bool.Decides.{nat_tests}
use Rattle.std.specs.Str.{all_scalars}
use Rattle.std.specs.declared.cmp.Ordering.{Ordering}
use Rattle.std.specs.declared.cmp.Ordering.TheVariants.{Less, Equal, Greater}
use Rattle.std.specs.Ordering.{is_le, is_lt, ordering_reverse}
use Rattle.std.proofs.lemmas.Cmp.{nat_list_cmp_total}
use Rattle.std.proofs.lemmas.Bool.{and_parts, and_from}
use Rattle.cad_feature.specs.Features.{datum_at}
use Rattle.cad_feature.specs.Limits.{limit_of, with_value}
use Rattle.cad_feature.specs.declared.range.Range.{Range as RangeOf}
use Rattle.cql_meaning.specs.Sides.{compared, is_like}
use Rattle.cad_feature.specs.Values.{Datum, null, a_text, a_whole, a_flag, a_day, a_span, a_spot, an_area}
use Rattle.cad_range.specs.Ranges.{is_under, lies_between, lies_in}
use Rattle.cql_text.specs.Fronts.{begins_with, IsBelow, IsFrontRange, IsLikeRange, LiesBetween}
use Rattle.cql_text.specs.Order.{text_cmp}
use Rattle.cql_text.specs.Patterns.{like_test}
use Rattle.cql_meaning.specs.Values.{text_in}
use Rattle.cql_rewrite.specs.declared.form.Normal.{Normal}
use Rattle.cql_rewrite.specs.Costs.{begins_in, begun_by, every, how_many, least}
use Rattle.cql_rewrite.specs.Meets.{Written, is_liked}
use Rattle.cql_rewrite.specs.Terms.{end_limit}
use Rattle.cql_rewrite.proofs.Forms.{told_by_second}
use Rattle.cql_rewrite.proofs.Least.{least_under}

alike : (a b : Bool) → (a ≡ true → b ≡ true) → (b ≡ true → a ≡ true) → a ≡ b
alike true true f g = refl
alike true false f g = sym (f refl)
alike false true f g = g refl
alike false false f g = refl

not_below : (o : Ordering) → is_le (ordering_reverse o) ≡ not (is_lt o)
not_below Less = refl
not_below Equal = refl
not_below Greater = refl

below_is : (o : Ordering) → is_lt o ≡ true → o ≡ Less
below_is Less h = refl
below_is Equal h = absurd cc
below_is Greater h = absurd cc

is_below : (o : Ordering) → o ≡ Less → is_lt o ≡ true
is_below o h = ap is_lt h

from_under : (t : List ℕ) (end : Option (List ℕ)) → is_under (end_limit end) (a_text t) ≡ true → IsBelow t end
from_under t None h = tt
from_under t (Some e) h = below_is (text_cmp t e) h

to_under : (t : List ℕ) (end : Option (List ℕ)) → IsBelow t end → is_under (end_limit end) (a_text t) ≡ true
to_under t None h = refl
to_under t (Some e) h = is_below (text_cmp t e) h

above_is : (low t : List ℕ) → is_le (text_cmp low t) ≡ not (is_lt (text_cmp t low))
above_is low t = ap is_le (nat_list_cmp_total.antisymm low t) ∙ not_below (text_cmp t low)

text_inside : (low t : List ℕ) (end : Option (List ℕ)) → (begins_with low t ≡ true) ↔ LiesBetween low end t → (not (is_lt (text_cmp t low)) && is_under (end_limit end) (a_text t)) ≡ begins_with low t
text_inside low t end iff = alike (not (is_lt (text_cmp t low)) && is_under (end_limit end) (a_text t)) (begins_with low t)
    (λ h. let k = and_parts (not (is_lt (text_cmp t low))) (is_under (end_limit end) (a_text t)) h in iff.1 (above_is low t ∙ k.0, from_under t end k.1))
    (λ h. let k = iff.0 h in and_from (not (is_lt (text_cmp t low))) (is_under (end_limit end) (a_text t)) (sym (above_is low t) ∙ k.0) (to_under t end k.1))

-- a value lies in the range of a front exactly where it is a text that begins with it
pub inside : (low : List ℕ) (end : Option (List ℕ)) → IsFrontRange low end → (d : Datum) → ((t : List ℕ) → text_in d ≡ Some t → all_scalars t ≡ true) → lies_between (with_value (a_text low)) (end_limit end) d ≡ begins_in low (text_in d)
inside low end r null s = refl
inside low end r (a_text t) s = text_inside low t end (r t (s t refl))
inside low end r (a_whole n) s = refl
inside low end r (a_flag b) s = refl
inside low end r (a_day day) s = refl
inside low end r (a_span days) s = refl
inside low end r (a_spot p) s = refl
inside low end r (an_area region) s = refl

-- where only parts for any number follow the front, the texts that begin with it are those that are like the pattern
pub exactly_like : (pattern low : List ℕ) (end : Option (List ℕ)) (exact : Bool) → IsLikeRange pattern low end exact → exact ≡ true → (text : Option (List ℕ)) → begins_in low text ≡ is_liked text pattern
exactly_like pattern low end exact r e None = refl
exactly_like pattern low end exact r e (Some t) = alike (begins_with low t) (like_test pattern t) (r.only e t) (r.covers t)

-- a text that is like the pattern begins with its front
pub like_inside : (pattern low : List ℕ) (end : Option (List ℕ)) (exact : Bool) → IsLikeRange pattern low end exact → (text : Option (List ℕ)) → (begins_in low text && is_liked text pattern) ≡ is_liked text pattern
like_inside pattern low end exact r None = refl
like_inside pattern low end exact r (Some t) = told_by_second (begins_with low t) (like_test pattern t) (r.covers t)

pub begun : (t : List Written) (i : ℕ) (low : List ℕ) (n : Normal) → least t n ≡ how_many (λ x. begins_in low (text_in (datum_at x.item i))) t → least t n ≤ begun_by t i low
begun t i [] n e = least_under t n
begun t i (c ∷ front) n e = omega (arith, e)

pub front_lies : (x : Written) (range : RangeOf) (low : List ℕ) (end : Option (List ℕ)) → limit_of range.low ≡ with_value (a_text low) → limit_of range.high ≡ end_limit end → IsFrontRange low end → lies_in x.item range ≡ begins_in low (text_in (datum_at x.item range.property))
front_lies x range low end e h r = rw (e, h) (inside low end r (datum_at x.item range.property) (x.characters range.property))

pub liked_sides : (text : Option (List ℕ)) (pattern : List ℕ) → (compared is_like text (Some pattern)).yes ≡ is_liked text pattern
liked_sides None pattern = refl
liked_sides (Some t) pattern = refl

-- a pattern whose front is empty
pub none_begun : (t : List Written) (i : ℕ) (front : List ℕ) → [] ≡ front → every t ≤ begun_by t i front
none_begun t i front e = rw (← e) (omega arith)

pub zero_is : (n : ℕ) → true ≡ (n == 0) → n ≡ 0
zero_is n h = grind (arith, nat_tests)
