-- What a filter says of a feature follows from its condition.
use Rattle.std.proofs.Common.{◌≡◌, ℤ, Bool, List, [], ◌∷◌, map, Option, Some, refl, sym, ap, ap₂, subst, ◌∙◌}
use Rattle.cad_day.specs.Relations.{holds}
use Rattle.cad_feature.specs.Features.{Item}
use Rattle.cql_lexer.specs.declared.token.Comparison.TheVariants.{Equal}
use Rattle.cql_types.specs.Conditions as c
use Rattle.cql_types.specs.Conditions.{Condition, Conditions, numeric, character, condition_in, condition_step}
use Rattle.cql_types.specs.declared.filter.Filter.{Filter}
use Rattle.cql_types.specs.declared.filter.Filter.TheOpen.{Filter-F}
use Rattle.cql_types.specs.declared.filter.Filter.TheFolds.{fold-roll-Filter, ind-Filter, map-Filter}
use Rattle.cql_meaning.proofs.ExpressionLemmas.{number_value, character_value, has_no_value, number_same, text_same, scalar_same}
use Rattle.cql_meaning.specs.Arithmetic.{whole_value}
use Rattle.cql_meaning.specs.Laws.{FiltersOfOneConditionAgree}
use Rattle.cql_meaning.specs.Sides.{Sides, sides_of, compared, wholes, texts, days, flags, is_like, spatial, among, between, equal_to, negation, conjunction, disjunction, side_step, sides}
use Rattle.cql_meaning.specs.Values.{both, day_value, flag_value, shape_value, span_value, text_value}

abbrev mutual
  condition_sides : Item → Condition → Sides
  condition_sides x (c.truth b) = sides_of (Some b)
  condition_sides x (c.compare_numbers by a b) = compared (wholes by) (number_value x a) (number_value x b)
  condition_sides x (c.compare_texts by a b) = compared (texts by) (character_value x a) (character_value x b)
  condition_sides x (c.compare_days by a b) = compared (days by) (day_value x a) (day_value x b)
  condition_sides x (c.compare_flags by a b) = compared (flags by) (flag_value x a) (flag_value x b)
  condition_sides x (c.like a pattern) = compared is_like (character_value x a) (character_value x pattern)
  condition_sides x (c.between a low high) = between (number_value x a) (number_value x low) (number_value x high)
  condition_sides x (c.among_numbers a items) = among (wholes Equal) (number_value x) (number_value x a) items
  condition_sides x (c.among_texts a items) = among (texts Equal) (character_value x) (character_value x a) items
  condition_sides x (c.among_days a items) = among (days Equal) (day_value x) (day_value x a) items
  condition_sides x (c.among_flags a items) = among (flags Equal) (flag_value x) (flag_value x a) items
  condition_sides x (c.is_null a) = sides_of (Some (has_no_value x a))
  condition_sides x (c.spatial by a b) = sides_of (both (spatial by) (shape_value x a) (shape_value x b))
  condition_sides x (c.temporal by a b) = compared (holds by) (span_value x a) (span_value x b)
  condition_sides x (c.negation f) = negation (condition_sides x f)
  condition_sides x (c.conjunction fs) = conjunction (parts_sides x fs)
  condition_sides x (c.disjunction fs) = disjunction (parts_sides x fs)

  parts_sides : Item → Conditions → List Sides
  parts_sides x c.no_condition = []
  parts_sides x (c.one_condition f fs) = condition_sides x f ∷ parts_sides x fs

each_equal : {A T U : Type 0} (equal : A → A → Bool) (value : T → Option A) (of : U → Option A) (view : T → U) (a : Option A) → ((t : T) → value t ≡ of (view t)) → (items : List T) →
    map (equal_to equal value a) items ≡ map (equal_to equal of a) (map view items)
each_equal equal value of view a each [] = refl
each_equal equal value of view a each (t ∷ items) = ap₂ (λ (s : Sides) (ss : List Sides). s ∷ ss) (ap (compared equal a) (each t)) (each_equal equal value of view a each items)

-- among items, and among what they are
among_same : {A T U : Type 0} (equal : A → A → Bool) (value : T → Option A) (of : U → Option A) (view : T → U) → ((t : T) → value t ≡ of (view t)) → (a : T) (items : List T) →
    among equal value (value a) items ≡ among equal of (of (view a)) (map view items)
among_same equal value of view each a items =
    ap (λ v. among equal value v items) (each a) ∙ ap disjunction (each_equal equal value of view (of (view a)) each items)

abbrev OfCondition : Item → Filter → Type 0
OfCondition x f = sides x f ≡ condition_sides x (condition_in f)

-- filters of which it is known
abbrev Known : Item → Type 0
Known x = (f : Filter) × OfCondition x f

parts_same : (x : Item) (fs : List (Known x)) → map (sides x) (map (λ f. f.0) fs) ≡ parts_sides x (c.conditions_of (map condition_in (map (λ f. f.0) fs)))
parts_same x [] = refl
parts_same x (f ∷ fs) = ap₂ (λ (s : Sides) (ss : List Sides). s ∷ ss) f.1 (parts_same x fs)

between_same : {a b low bottom high top : Option ℤ} → a ≡ b → low ≡ bottom → high ≡ top → between a low high ≡ between b bottom top
between_same e f g = λ i. between (e i) (f i) (g i)

abbrev OfStep : Item → Filter-F Filter → Type 0
OfStep x d = side_step x (map-Filter Filter Sides (sides x) d) ≡ condition_sides x (condition_step (map-Filter Filter Condition condition_in d))

step_same : (x : Item) (y : Filter-F (Known x)) → OfStep x (map-Filter (Known x) Filter (λ f. f.0) y)
step_same x (Filter-F.Truth b) = refl
step_same x (Filter-F.CompareWhole by a b) = ap₂ (compared (wholes by)) (number_same x a) (number_same x b)
step_same x (Filter-F.CompareText by a b) = ap₂ (compared (texts by)) (text_same x a) (text_same x b)
step_same x (Filter-F.CompareDay by a b) = refl
step_same x (Filter-F.CompareFlag by a b) = refl
step_same x (Filter-F.Like a pattern) = ap₂ (compared is_like) (text_same x a) (text_same x pattern)
step_same x (Filter-F.Between a low high) = between_same (number_same x a) (number_same x low) (number_same x high)
step_same x (Filter-F.InWhole a items) = among_same (wholes Equal) (whole_value x) (number_value x) numeric (number_same x) a items.items
step_same x (Filter-F.InText a items) = among_same (texts Equal) (text_value x) (character_value x) character (text_same x) a items.items
step_same x (Filter-F.InDay a items) = refl
step_same x (Filter-F.InFlag a items) = refl
step_same x (Filter-F.IsNull a) = ap (λ b. sides_of (Some b)) (scalar_same x a)
step_same x (Filter-F.Spatial by a b) = refl
step_same x (Filter-F.Temporal by a b) = refl
step_same x (Filter-F.Not f) = ap negation f.value.1
step_same x (Filter-F.And fs) = ap conjunction (parts_same x fs.items)
step_same x (Filter-F.Or fs) = ap disjunction (parts_same x fs.items)

of_condition : (x : Item) (f : Filter) → OfCondition x f
of_condition x = ind-Filter (OfCondition x) (λ d y is.
    fold-roll-Filter Sides (side_step x) d
    ∙ subst (OfStep x) is (step_same x y)
    ∙ sym (ap (condition_sides x) (fold-roll-Filter Condition condition_step d)))

pub one_condition_agrees : FiltersOfOneConditionAgree
one_condition_agrees f g x e = of_condition x f ∙ ap (condition_sides x) e ∙ sym (of_condition x g)
