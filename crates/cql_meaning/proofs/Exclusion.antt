-- No filter is both true and false of a feature.
use Rattle.std.proofs.Common.{◌≡◌, ℤ, Bool, true, false, ◌&&◌, ◌||◌, List, [], ◌∷◌, map, Option, Some, None, refl, sym, subst}
use Rattle.cad_day.specs.Relations.{holds}
use Rattle.cad_feature.specs.Features.{Item}
use Rattle.cql_lexer.specs.declared.token.Comparison.TheVariants.{Equal, AtMost, AtLeast}
use Rattle.cql_types.specs.declared.filter.Filter.{Filter}
use Rattle.cql_types.specs.declared.filter.Filter.TheOpen.{Filter-F}
use Rattle.cql_types.specs.declared.filter.Filter.TheFolds.{fold-roll-Filter, ind-Filter, map-Filter}
use Rattle.cql_meaning.specs.Arithmetic.{whole_value}
use Rattle.cql_meaning.specs.Sides.{Sides, sides_of, wholes, texts, days, flags, is_like, is_null, spatial, among, between, conjunction, disjunction, side_step, sides}
use Rattle.cql_meaning.specs.Values.{both, day_value, flag_value, shape_value, span_value, text_value}

abbrev pub Excludes : Sides → Type 0
Excludes s = s.yes ≡ true → s.no ≡ true → ⊥

-- each of the filters
abbrev Known : Item → Type 0
Known x = (f : Filter) × Excludes (sides x f)

apart : (a b c d : Bool) → (a ≡ true → b ≡ true → ⊥) → (c ≡ true → d ≡ true → ⊥) → (a && c) ≡ true → (b || d) ≡ true → ⊥
apart true true c d h k p q = h refl refl
apart true false c d h k p q = k p q
apart false b c d h k p q = absurd cc

told_excludes : (answer : Option Bool) → Excludes (sides_of answer)
told_excludes None p q = absurd cc
told_excludes (Some true) p q = absurd cc
told_excludes (Some false) p q = absurd cc

among_excludes : {A T : Type 0} (equal : A → A → Bool) (value : T → Option A) (a : Option A) (items : List T) → Excludes (among equal value a items)
among_excludes equal value a [] p q = absurd cc
among_excludes equal value a (b ∷ items) p q =
    apart _ _ _ _ (λ r s. told_excludes (both (λ u v. Some (equal u v)) a (value b)) s r) (λ r s. among_excludes equal value a items s r) q p

between_excludes : (a low high : Option ℤ) → Excludes (between a low high)
between_excludes a low high p q =
    apart _ _ _ _ (told_excludes (both (λ u v. Some (wholes AtLeast u v)) a low))
    (λ r s. apart _ _ _ _ (told_excludes (both (λ u v. Some (wholes AtMost u v)) a high)) (λ t u. absurd cc) r s) p q

all_excludes : (x : Item) (fs : List (Known x)) → Excludes (conjunction (map (sides x) (map (λ f. f.0) fs)))
all_excludes x [] p q = absurd cc
all_excludes x (f ∷ fs) p q = apart _ _ _ _ f.1 (all_excludes x fs) p q

some_excludes : (x : Item) (fs : List (Known x)) → Excludes (disjunction (map (sides x) (map (λ f. f.0) fs)))
some_excludes x [] p q = absurd cc
some_excludes x (f ∷ fs) p q = apart _ _ _ _ (λ r s. f.1 s r) (λ r s. some_excludes x fs s r) q p

step_excludes : (x : Item) (y : Filter-F (Known x)) → Excludes (side_step x (map-Filter Filter Sides (sides x) (map-Filter (Known x) Filter (λ f. f.0) y)))
step_excludes x (Filter-F.Truth b) = told_excludes (Some b)
step_excludes x (Filter-F.CompareWhole by a b) = told_excludes (both (λ u v. Some (wholes by u v)) (whole_value x a) (whole_value x b))
step_excludes x (Filter-F.CompareText by a b) = told_excludes (both (λ u v. Some (texts by u v)) (text_value x a) (text_value x b))
step_excludes x (Filter-F.CompareDay by a b) = told_excludes (both (λ u v. Some (days by u v)) (day_value x a) (day_value x b))
step_excludes x (Filter-F.CompareFlag by a b) = told_excludes (both (λ u v. Some (flags by u v)) (flag_value x a) (flag_value x b))
step_excludes x (Filter-F.Like a p) = told_excludes (both (λ u v. Some (is_like u v)) (text_value x a) (text_value x p))
step_excludes x (Filter-F.Between a low high) = between_excludes (whole_value x a) (whole_value x low) (whole_value x high)
step_excludes x (Filter-F.InWhole a items) = among_excludes (wholes Equal) (whole_value x) (whole_value x a) items.items
step_excludes x (Filter-F.InText a items) = among_excludes (texts Equal) (text_value x) (text_value x a) items.items
step_excludes x (Filter-F.InDay a items) = among_excludes (days Equal) (day_value x) (day_value x a) items.items
step_excludes x (Filter-F.InFlag a items) = among_excludes (flags Equal) (flag_value x) (flag_value x a) items.items
step_excludes x (Filter-F.IsNull a) = told_excludes (Some (is_null x a))
step_excludes x (Filter-F.Spatial by a b) = told_excludes (both (spatial by) (shape_value x a) (shape_value x b))
step_excludes x (Filter-F.Temporal by a b) = told_excludes (both (λ u v. Some (holds by u v)) (span_value x a) (span_value x b))
step_excludes x (Filter-F.Not f) = λ p q. f.value.1 q p
step_excludes x (Filter-F.And fs) = all_excludes x fs.items
step_excludes x (Filter-F.Or fs) = some_excludes x fs.items

pub excludes : (x : Item) (f : Filter) → Excludes (sides x f)
excludes x = ind-Filter (λ f. Excludes (sides x f)) (λ d y is.
    subst Excludes (sym (fold-roll-Filter Sides (side_step x) d))
    (subst (λ d'. Excludes (side_step x (map-Filter Filter Sides (sides x) d'))) is (step_excludes x y)))
