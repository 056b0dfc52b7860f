-- The features that name an object, by the ranges of its number.
use Rattle.std.proofs.Common.{◌≡◌, ℕ, ℤ, pos, Bool, true, false, ◌&&◌, ◌||◌, not, List, [], ◌∷◌, ◌++◌, Some, refl, ap, ap₂, ◌∙◌, arith, int_cmp, is_lt, is_gt, int_eq}
use Rattle.std.specs.Prelude.{Vec}
use Rattle.std.specs.List.{list_any}
use Rattle.std.specs.declared.alloc.Global.{Global}
use Rattle.std.proofs.lemmas.Int.{ints}
use Rattle.cad_versions.specs.declared.object_id.ObjectId.{ObjectId}
use Rattle.cad_versions.specs.Objects.{object_number}
use Rattle.cad_feature.specs.Features.{Item, datum_at}
use Rattle.cad_feature.specs.Limits.{Limit, with_value, limit_of}
use Rattle.cad_feature.specs.Values.{Datum, null, a_text, a_whole, a_flag, a_day, a_span, a_spot, an_area}
use Rattle.cad_feature.specs.declared.range.Edge.{Edge}
use Rattle.cad_range.specs.Ranges.{lies_between}
use Rattle.cad_lookup.specs.Candidates.{is_candidate, candidate_Range, candidate_Join}
use Rattle.cad_lookup.specs.declared.plan.Plan.{Plan}
use Rattle.cad_lookup.specs.declared.plan.Plan.TheVariants as plan
use Rattle.cad_changes.specs.Touching.{whole_in, number_at, is_numbered}

alone_between : (m n : ℤ) → (not (is_lt (int_cmp m n)) && not (is_gt (int_cmp m n))) ≡ int_eq m n
alone_between m n = grind (arith, ints)

-- the number of the object, as an end of a range
abbrev pub end_at : ObjectId → Limit
end_at object = with_value (a_whole (pos (object_number object)))

lies_on : (object : ObjectId) (d : Datum) → lies_between (end_at object) (end_at object) d ≡ is_numbered object (whole_in d)
lies_on object null = refl
lies_on object (a_text t) = refl
lies_on object (a_whole m) = alone_between m (pos (object_number object))
lies_on object (a_flag f) = refl
lies_on object (a_day day) = refl
lies_on object (a_span days) = refl
lies_on object (a_spot point) = refl
lies_on object (an_area region) = refl

pub numbered_is : (object : ObjectId) (place : ℕ) (low high : Edge) → limit_of low ≡ end_at object → limit_of high ≡ end_at object
    → (x : Item) → is_candidate (plan.Range (record { property = place; low = low; high = high })) x ≡ is_numbered object (number_at x (Some place))
numbered_is object place low high e f x = candidate_Range x _ ∙ ap₂ (λ l h. lies_between l h (datum_at x place)) e f ∙ lies_on object (datum_at x place)

either_last : (a b : Bool) → (a || (b || false)) ≡ (a || b)
either_last true b = refl
either_last false true = refl
either_last false false = refl

-- the plans, put into a list one after the other
pub either_is : (one other : Plan) (plans : Vec Plan Global) (none some : List Plan) → none ≡ [] → some ≡ none ++ one ∷ [] → plans.items ≡ some ++ other ∷ []
    → (x : Item) → is_candidate (plan.Join plans) x ≡ (is_candidate one x || is_candidate other x)
either_is one other plans none some e f g x =
    candidate_Join x plans ∙ ap (list_any (λ p. is_candidate p x)) (g ∙ ap (λ (ps : List Plan). ps ++ other ∷ []) (f ∙ ap (λ (ps : List Plan). ps ++ one ∷ []) e))
    ∙ either_last (is_candidate one x) (is_candidate other x)
