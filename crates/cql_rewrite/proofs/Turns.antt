-- The features of which each kind of filter is true, or false, by its parts.
use Rattle.std.proofs.Common.{List, ◌≡◌, ◌∙◌, ap, sym, refl, ℕ, ℤ, ◌≤◌, Bool, true, false, not, Vec, Box, Option, Some, None, option_map, arith}
use Rattle.std.specs.declared.alloc.Global.{Global}
use Rattle.std.specs.declared.cmp.Ordering.{Ordering}
use Rattle.std.specs.declared.cmp.Ordering.TheVariants.{Less, Equal, Greater}
use Rattle.std.specs.Ordering.{ordering_reverse}
use Rattle.cad_feature.specs.Features.{Item}
use Rattle.cql_lexer.specs.declared.token.Comparison.{Comparison}
use Rattle.cql_lexer.specs.declared.token.Comparison.TheVariants as comparison
use Rattle.cql_types.specs.declared.filter.Filter.{Filter}
use Rattle.cql_types.specs.declared.filter.Filter.TheVariants.{Not, And, Or}
use Rattle.cql_types.specs.declared.filter.Filter.TheVariants as filter
use Rattle.cql_types.specs.declared.filter.Filter.TheOpen.{Filter-F}
use Rattle.cql_types.specs.declared.filter.Filter.TheFolds.{fold-roll-Filter}
use Rattle.cql_meaning.specs.lemmas.NodeLemmas.{sides_Not, sides_And, sides_Or}
use Rattle.cql_meaning.specs.Sides.{Sides, sides, stands, sides_of}
use Rattle.cql_meaning.specs.Values.{both}
use Rattle.cql_rewrite.proofs.Forms.{and_last, list_all-map}
use Rattle.cad_feature.specs.Values.{Datum, null, a_text, a_whole, a_flag, a_day, a_span, a_spot, an_area}
use Rattle.cql_lexer.specs.declared.token.SpatialRelation.{SpatialRelation}
use Rattle.cql_types.specs.declared.filter.ShapeTerm.{ShapeTerm}
use Rattle.cql_types.specs.declared.filter.WholeTerm.{WholeTerm}
use Rattle.cql_types.specs.declared.filter.TextTerm.{TextTerm}
use Rattle.cql_types.specs.declared.filter.DayTerm.{DayTerm}
use Rattle.cql_types.specs.declared.filter.FlagTerm.{FlagTerm}
use Rattle.cql_meaning.specs.lemmas.NodeLemmas.{sides_Between, sides_InWhole, sides_InText, sides_InDay, sides_InFlag, sides_CompareWhole, sides_CompareText, sides_CompareDay}
use Rattle.cql_meaning.specs.Sides.{between, equal_to, compared, wholes, texts, days, flags}
use Rattle.cql_meaning.specs.Arithmetic.{whole_in, whole_value}
use Rattle.cql_meaning.specs.Values.{text_in, text_value, day_value, flag_value}
use Rattle.cql_text.specs.Order.{text_cmp}
use Rattle.std.proofs.lemmas.Cmp.{int_cmp_total, nat_list_cmp_total}
use Rattle.std.specs.Ordering.{int_cmp}
use Rattle.cad_range.specs.Ranges.{compared as order_of}
use Rattle.cad_range.specs.Ranges.{holds_of, lies_between}
use Rattle.cad_feature.specs.Limits.{with_value}
use Rattle.cql_rewrite.specs.declared.form.Normal.{Normal}
use Rattle.cql_rewrite.proofs.Least.{count_alike, least_under}
use Rattle.cql_rewrite.specs.Meets.{Written, in_side, joined_by, meets, side_of}
use Rattle.cql_rewrite.specs.Terms.{day_sides, flag_sides, is_plain_days, is_plain_texts, is_plain_wholes, side_of_test, text_sides, turned_of, whole_sides}
use Rattle.cql_rewrite.proofs.MemberLemmas.{member_costs}
use Rattle.cql_rewrite.specs.Costs.{any_equal, count_in, is_plain_in_days, is_plain_in_texts, is_plain_in_wholes, like_bound, bound, bound_on, bound_step, bounds_joined, count_if, every, how_many, is_plain_between, IsCounted, least, near_bound}
use Rattle.cql_meaning.specs.lemmas.ListLemmas.{list_any-map}

pub turns_Not : (side : Bool) (x : Item) (f : Box Filter Global) → in_side (not side) x f.value ≡ in_side side x (Not f)
turns_Not true x f = sym (ap (side_of true) (sides_Not x f))
turns_Not false x f = sym (ap (side_of false) (sides_Not x f))

pub turns_And : (side : Bool) (x : Item) (fs : Vec Filter Global) → joined_by side (in_side side x) fs.items ≡ in_side side x (And fs)
turns_And true x fs = sym (ap (side_of true) (sides_And x fs) ∙ list_all-map (λ s. s.yes) (sides x) fs.items)
turns_And false x fs = sym (ap (side_of false) (sides_And x fs) ∙ list_any-map (λ s. s.no) (sides x) fs.items)

pub turns_Or : (side : Bool) (x : Item) (fs : Vec Filter Global) → joined_by (not side) (in_side side x) fs.items ≡ in_side side x (Or fs)
turns_Or true x fs = sym (ap (side_of true) (sides_Or x fs) ∙ list_any-map (λ s. s.yes) (sides x) fs.items)
turns_Or false x fs = sym (ap (side_of false) (sides_Or x fs) ∙ list_all-map (λ s. s.no) (sides x) fs.items)

-- ---- a constant on the left

turned_stands : (by : Comparison) (o : Ordering) → stands (turned_of by) (ordering_reverse o) ≡ stands by o
turned_stands comparison.Equal Less = refl
turned_stands comparison.Equal Equal = refl
turned_stands comparison.Equal Greater = refl
turned_stands comparison.Unequal Less = refl
turned_stands comparison.Unequal Equal = refl
turned_stands comparison.Unequal Greater = refl
turned_stands comparison.Less Less = refl
turned_stands comparison.Less Equal = refl
turned_stands comparison.Less Greater = refl
turned_stands comparison.Greater Less = refl
turned_stands comparison.Greater Equal = refl
turned_stands comparison.Greater Greater = refl
turned_stands comparison.AtMost Less = refl
turned_stands comparison.AtMost Equal = refl
turned_stands comparison.AtMost Greater = refl
turned_stands comparison.AtLeast Less = refl
turned_stands comparison.AtLeast Equal = refl
turned_stands comparison.AtLeast Greater = refl

-- a comparison with its operands exchanged
flipped : {A : Type 0} (cmp : A → A → Ordering) → ((a b : A) → cmp a b ≡ ordering_reverse (cmp b a)) → (by : Comparison) (a b : Option A) →
    sides_of (both (λ x y. Some (stands (turned_of by) (cmp x y))) b a) ≡ sides_of (both (λ x y. Some (stands by (cmp x y))) a b)
flipped cmp turns by None None = refl
flipped cmp turns by None (Some b) = refl
flipped cmp turns by (Some a) None = refl
flipped cmp turns by (Some a) (Some b) = ap (λ c. sides_of (Some c)) (ap (stands (turned_of by)) (turns b a) ∙ turned_stands by (cmp a b))

pub flipped_wholes : (by : Comparison) (a b : Option ℤ) → compared (wholes (turned_of by)) b a ≡ compared (wholes by) a b
flipped_wholes by a b = flipped int_cmp int_cmp_total.antisymm by a b

pub flipped_texts : (by : Comparison) (a b : Option (List ℕ)) → compared (texts (turned_of by)) b a ≡ compared (texts by) a b
flipped_texts by a b = flipped text_cmp nat_list_cmp_total.antisymm by a b

-- ---- a property against a constant

pub known_text : (by : Comparison) (d : Datum) (s : List ℕ) → sides_of (option_map (stands by) (order_of d (a_text s))) ≡ compared (texts by) (text_in d) (Some s)
known_text by null n = refl
known_text by (a_text t) n = refl
known_text by (a_whole m) n = refl
known_text by (a_flag f) n = refl
known_text by (a_day day) n = refl
known_text by (a_span days) n = refl
known_text by (a_spot p) n = refl
known_text by (an_area region) n = refl

-- ---- bounds

pub bound_And : (t : List Written) (fs : Vec Filter Global) → bound t (And fs) ≡ bounds_joined true true t fs.items
bound_And t fs = ap (bound t) (sym (filter.rolls-And fs)) ∙ fold-roll-Filter ℕ (bound_step t) (Filter-F.And fs)

pub bound_Or : (t : List Written) (fs : Vec Filter Global) → bound t (Or fs) ≡ bounds_joined false true t fs.items
bound_Or t fs = ap (bound t) (sym (filter.rolls-Or fs)) ∙ fold-roll-Filter ℕ (bound_step t) (Filter-F.Or fs)

pub bound_Not : (t : List Written) (f : Box Filter Global) → bound t (Not f) ≡ every t
bound_Not t f = ap (bound t) (sym (filter.rolls-Not f)) ∙ fold-roll-Filter ℕ (bound_step t) (Filter-F.Not f)

-- ---- comparisons

-- a comparison that is turned for a side holds where the filter lies on that side
pub ranged : (side : Bool) (by by' : Comparison) (o : Option Ordering) (s : Sides) → ((r : Ordering) → stands by' r ≡ side_of_test side (stands by r)) → sides_of (option_map (stands by) o) ≡ s → holds_of (stands by') o ≡ side_of side s
ranged true by by' None s f e = ap (side_of true) e
ranged false by by' None s f e = ap (side_of false) e
ranged true by by' (Some r) s f e = f r ∙ ap (side_of true) e
ranged false by by' (Some r) s f e = f r ∙ ap (side_of false) e

compare_costs : (side plain : Bool) (t : List Written) (n : Normal) (f : Filter) (said : Written → Sides) → bound t f ≡ count_if plain t said → ((x : Written) → sides x.item f ≡ said x) →
    ((x : Written) → meets x.item n ≡ in_side side x.item f) → (side ≡ true → plain ≡ true → IsCounted n) → least t n ≤ bound_on side t f
compare_costs false plain t n f said b s m k = least_under t n
compare_costs true false t n f said b s m k = rw b (least_under t n)
compare_costs true true t n f said b s m k =
    let exact : least t n ≡ how_many (λ (x : Written). meets x.item n) t = k refl refl t in
    let same : how_many (λ (x : Written). meets x.item n) t ≡ how_many (λ (x : Written). (said x).yes) t = count_alike _ _ t (λ x. m x ∙ ap (side_of true) (s x)) in
    omega (arith, b, exact, same)

pub whole_costs : (side : Bool) (t : List Written) (n : Normal) (f : Filter) (by : Comparison) (a b : WholeTerm) → f ≡ filter.CompareWhole by a b →
    ((x : Written) → meets x.item n ≡ in_side side x.item f) → (side ≡ true → is_plain_wholes by a b ≡ true → IsCounted n) → least t n ≤ bound_on side t f
whole_costs side t n f by a b e m k = compare_costs side (is_plain_wholes by a b) t n f (λ x. whole_sides by x.item a b)
    (ap (bound t) (e ∙ sym (filter.rolls-CompareWhole by a b)) ∙ fold-roll-Filter ℕ (bound_step t) (Filter-F.CompareWhole by a b))
    (λ x. ap (sides x.item) e ∙ sides_CompareWhole x.item by a b) m k

pub text_costs : (side : Bool) (t : List Written) (n : Normal) (f : Filter) (by : Comparison) (a b : TextTerm) → f ≡ filter.CompareText by a b →
    ((x : Written) → meets x.item n ≡ in_side side x.item f) → (side ≡ true → is_plain_texts by a b ≡ true → IsCounted n) → least t n ≤ bound_on side t f
text_costs side t n f by a b e m k = compare_costs side (is_plain_texts by a b) t n f (λ x. text_sides by x.item a b)
    (ap (bound t) (e ∙ sym (filter.rolls-CompareText by a b)) ∙ fold-roll-Filter ℕ (bound_step t) (Filter-F.CompareText by a b))
    (λ x. ap (sides x.item) e ∙ sides_CompareText x.item by a b) m k

pub day_costs : (side : Bool) (t : List Written) (n : Normal) (f : Filter) (by : Comparison) (a b : DayTerm) → f ≡ filter.CompareDay by a b →
    ((x : Written) → meets x.item n ≡ in_side side x.item f) → (side ≡ true → is_plain_days by a b ≡ true → IsCounted n) → least t n ≤ bound_on side t f
day_costs side t n f by a b e m k = compare_costs side (is_plain_days by a b) t n f (λ x. day_sides by x.item a b)
    (ap (bound t) (e ∙ sym (filter.rolls-CompareDay by a b)) ∙ fold-roll-Filter ℕ (bound_step t) (Filter-F.CompareDay by a b))
    (λ x. ap (sides x.item) e ∙ sides_CompareDay x.item by a b) m k

pub not_costs : (side : Bool) (t : List Written) (n : Normal) (f : Box Filter Global) → least t n ≤ bound_on side t (Not f)
not_costs true t n f = rw (bound_Not t f) (least_under t n)
not_costs false t n f = least_under t n

pub and_costs : (side : Bool) (t : List Written) (n : Normal) (fs : Vec Filter Global) → least t n ≤ bounds_joined side side t fs.items → least t n ≤ bound_on side t (And fs)
and_costs true t n fs h = rw (bound_And t fs) h
and_costs false t n fs h = least_under t n

pub or_costs : (side : Bool) (t : List Written) (n : Normal) (fs : Vec Filter Global) → least t n ≤ bounds_joined (not side) side t fs.items → least t n ≤ bound_on side t (Or fs)
or_costs true t n fs h = rw (bound_Or t fs) h
or_costs false t n fs h = least_under t n

-- between two literals
pub plain_between : (d : Datum) (a b : ℤ) → lies_between (with_value (a_whole a)) (with_value (a_whole b)) d ≡ (between (whole_in d) (Some a) (Some b)).yes
plain_between null a b = refl
plain_between (a_text t) a b = refl
plain_between (a_whole n) a b = and_last _ _
plain_between (a_flag f) a b = refl
plain_between (a_day day) a b = refl
plain_between (a_span days) a b = refl
plain_between (a_spot p) a b = refl
plain_between (an_area region) a b = refl

pub between_costs : (side : Bool) (t : List Written) (n : Normal) (f : Filter) (a low high : WholeTerm) → f ≡ filter.Between a low high →
    ((x : Written) → meets x.item n ≡ in_side side x.item f) → (side ≡ true → is_plain_between a low high ≡ true → IsCounted n) → least t n ≤ bound_on side t f
between_costs side t n f a low high e m k = compare_costs side (is_plain_between a low high) t n f (λ x. between (whole_value x.item a) (whole_value x.item low) (whole_value x.item high))
    (ap (bound t) (e ∙ sym (filter.rolls-Between a low high)) ∙ fold-roll-Filter ℕ (bound_step t) (Filter-F.Between a low high))
    (λ x. ap (sides x.item) e ∙ sides_Between x.item a low high) m k

pub near_costs : (side : Bool) (t : List Written) (n : Normal) (f : Filter) (by : SpatialRelation) (a b : ShapeTerm) → f ≡ filter.Spatial by a b → (side ≡ true → (t : List Written) → least t n ≤ near_bound t by a b) → least t n ≤ bound_on side t f
near_costs false t n f by a b e h = least_under t n
near_costs true t n f by a b e h =
    let same : bound t f ≡ near_bound t by a b = ap (bound t) (e ∙ sym (filter.rolls-Spatial by a b)) ∙ fold-roll-Filter ℕ (bound_step t) (Filter-F.Spatial by a b) in
    rw same (h refl t)

-- ---- LIKE

pub like_costs : (side : Bool) (t : List Written) (n : Normal) (f : Filter) (a pattern : TextTerm) → f ≡ filter.Like a pattern → (side ≡ true → least t n ≤ like_bound t a pattern) → least t n ≤ bound_on side t f
like_costs false t n f a pattern e h = least_under t n
like_costs true t n f a pattern e h =
    let same : bound t f ≡ like_bound t a pattern = ap (bound t) (e ∙ sym (filter.rolls-Like a pattern)) ∙ fold-roll-Filter ℕ (bound_step t) (Filter-F.Like a pattern) in
    rw same (h refl)

-- ---- IN

pub whole_members : (x : Item) (a : WholeTerm) (items : Vec WholeTerm Global) → in_side true x (filter.InWhole a items) ≡ any_equal (whole_sides comparison.Equal) x a items.items
whole_members x a items = ap (side_of true) (sides_InWhole x a items) ∙ list_any-map (λ s. s.yes) (equal_to (wholes comparison.Equal) (whole_value x) (whole_value x a)) items.items

pub whole_members_cost : (side : Bool) (t : List Written) (n : Normal) (f : Filter) (a : WholeTerm) (items : Vec WholeTerm Global) → f ≡ filter.InWhole a items →
    (side ≡ true → is_plain_in_wholes a items.items ≡ true → least t n ≤ count_in true t (whole_sides comparison.Equal) a items.items) → least t n ≤ bound_on side t f
whole_members_cost side t n f a items e h = member_costs (whole_sides comparison.Equal) a side (is_plain_in_wholes a items.items) t n f items.items
    (ap (bound t) (e ∙ sym (filter.rolls-InWhole a items)) ∙ fold-roll-Filter ℕ (bound_step t) (Filter-F.InWhole a items)) h

pub text_members : (x : Item) (a : TextTerm) (items : Vec TextTerm Global) → in_side true x (filter.InText a items) ≡ any_equal (text_sides comparison.Equal) x a items.items
text_members x a items = ap (side_of true) (sides_InText x a items) ∙ list_any-map (λ s. s.yes) (equal_to (texts comparison.Equal) (text_value x) (text_value x a)) items.items

pub text_members_cost : (side : Bool) (t : List Written) (n : Normal) (f : Filter) (a : TextTerm) (items : Vec TextTerm Global) → f ≡ filter.InText a items →
    (side ≡ true → is_plain_in_texts a items.items ≡ true → least t n ≤ count_in true t (text_sides comparison.Equal) a items.items) → least t n ≤ bound_on side t f
text_members_cost side t n f a items e h = member_costs (text_sides comparison.Equal) a side (is_plain_in_texts a items.items) t n f items.items
    (ap (bound t) (e ∙ sym (filter.rolls-InText a items)) ∙ fold-roll-Filter ℕ (bound_step t) (Filter-F.InText a items)) h

pub flag_members : (x : Item) (a : FlagTerm) (items : Vec FlagTerm Global) → in_side true x (filter.InFlag a items) ≡ any_equal (flag_sides comparison.Equal) x a items.items
flag_members x a items = ap (side_of true) (sides_InFlag x a items) ∙ list_any-map (λ s. s.yes) (equal_to (flags comparison.Equal) (flag_value x) (flag_value x a)) items.items

-- a flag has no range, so the bound of an IN over flags is all
pub flag_members_cost : (side : Bool) (t : List Written) (n : Normal) (f : Filter) (a : FlagTerm) (items : Vec FlagTerm Global) → f ≡ filter.InFlag a items → least t n ≤ bound_on side t f
flag_members_cost false t n f a items e = least_under t n
flag_members_cost true t n f a items e =
    let b : bound t f ≡ every t = ap (bound t) (e ∙ sym (filter.rolls-InFlag a items)) ∙ fold-roll-Filter ℕ (bound_step t) (Filter-F.InFlag a items) in
    rw b (least_under t n)

pub day_members : (x : Item) (a : DayTerm) (items : Vec DayTerm Global) → in_side true x (filter.InDay a items) ≡ any_equal (day_sides comparison.Equal) x a items.items
day_members x a items = ap (side_of true) (sides_InDay x a items) ∙ list_any-map (λ s. s.yes) (equal_to (days comparison.Equal) (day_value x) (day_value x a)) items.items

pub day_members_cost : (side : Bool) (t : List Written) (n : Normal) (f : Filter) (a : DayTerm) (items : Vec DayTerm Global) → f ≡ filter.InDay a items →
    (side ≡ true → is_plain_in_days a items.items ≡ true → least t n ≤ count_in true t (day_sides comparison.Equal) a items.items) → least t n ≤ bound_on side t f
day_members_cost side t n f a items e h = member_costs (day_sides comparison.Equal) a side (is_plain_in_days a items.items) t n f items.items
    (ap (bound t) (e ∙ sym (filter.rolls-InDay a items)) ∙ fold-roll-Filter ℕ (bound_step t) (Filter-F.InDay a items)) h
