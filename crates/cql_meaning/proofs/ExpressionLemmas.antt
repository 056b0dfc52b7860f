-- The value of a term follows from its expression.
use Rattle.std.proofs.Common.{◌≡◌, ℕ, ℤ, Bool, List, [], ◌∷◌, map, Option, Some, refl, sym, ap, ap₂, subst, ◌∙◌}
use Rattle.std.specs.Prelude.{is_none, chars}
use Rattle.cad_feature.specs.Features.{Item, datum_at}
use Rattle.cql_types.specs.Conditions as c
use Rattle.cql_types.specs.Conditions.{NumericExpression, NumericSteps, CharacterExpression, ScalarExpression, numeric, numeric_step, operation_step, character, character_step, scalar}
use Rattle.cql_tree.specs.declared.expression.Operation.{Operation}
use Rattle.cql_types.specs.declared.filter.WholeTerm.{WholeTerm}
use Rattle.cql_types.specs.declared.filter.WholeTerm.TheOpen.{WholeTerm-F, Step-F}
use Rattle.cql_types.specs.declared.filter.WholeTerm.TheFolds.{fold-roll-WholeTerm, ind-WholeTerm, map-WholeTerm}
use Rattle.cql_types.specs.declared.filter.Step.{Step, fold-Step, fold_out-Step}
use Rattle.cql_types.specs.declared.filter.TextTerm.{TextTerm}
use Rattle.cql_types.specs.declared.filter.TextTerm.TheOpen.{TextTerm-F}
use Rattle.cql_types.specs.declared.filter.TextTerm.TheFolds.{fold-roll-TextTerm, ind-TextTerm, map-TextTerm}
use Rattle.cql_types.specs.declared.filter.AnyTerm.{AnyTerm}
use Rattle.cql_types.specs.declared.filter.AnyTerm.TheVariants as any
use Rattle.cql_meaning.specs.Arithmetic.{made, part_step, stepped, whole_in, whole_step, whole_value}
use Rattle.cql_meaning.specs.Sides.{is_null}
use Rattle.cql_meaning.specs.Values.{day_value, flag_value, folded_content, shape_value, span_value, text_in, text_step, text_value}

-- ---- the values of expressions

abbrev mutual
  pub number_value : Item → NumericExpression → Option ℤ
  number_value x (c.number n) = Some n
  number_value x (c.number_property i) = whole_in (datum_at x i)
  number_value x (c.computed first steps) = stepped (number_value x first) (parts_made x steps)

  pub parts_made : Item → NumericSteps → List (Option ℤ → Option ℤ)
  parts_made x c.no_step = []
  parts_made x (c.one_step by term steps) = made by (number_value x term) ∷ parts_made x steps

abbrev pub character_value : Item → CharacterExpression → Option (List ℕ)
character_value x (c.characters content) = Some (chars content)
character_value x (c.text_property i) = text_in (datum_at x i)
character_value x (c.folded text) = folded_content (character_value x text)

abbrev pub has_no_value : Item → ScalarExpression → Bool
has_no_value x (c.of_number a) = is_none (number_value x a)
has_no_value x (c.of_text a) = is_none (character_value x a)
has_no_value x (c.of_day a) = is_none (day_value x a)
has_no_value x (c.of_flag a) = is_none (flag_value x a)
has_no_value x (c.of_span a) = is_none (span_value x a)
has_no_value x (c.of_shape a) = is_none (shape_value x a)

-- ---- whole numbers

abbrev pub OfNumber : Item → WholeTerm → Type 0
OfNumber x t = whole_value x t ≡ number_value x (numeric t)

abbrev part_made : Item → Step → Option ℤ → Option ℤ
part_made x = fold-Step (Option ℤ) (Option ℤ → Option ℤ) (whole_step x) part_step

abbrev operation_in : Step → Operation × NumericExpression
operation_in = fold-Step NumericExpression (Operation × NumericExpression) numeric_step operation_step

abbrev operation_made : Item → Operation × NumericExpression → Option ℤ → Option ℤ
operation_made x step = made step.0 (number_value x step.1)

abbrev OfOperation : Item → Step → Type 0
OfOperation x part = part_made x part ≡ operation_made x (operation_in part)

-- terms and parts of which it is known
abbrev KnownNumber : Item → Type 0
KnownNumber x = (t : WholeTerm) × OfNumber x t

abbrev KnownPart : Item → Type 0
KnownPart x = (part : Step) × OfOperation x part

abbrev OfNumberStep : Item → WholeTerm-F WholeTerm Step → Type 0
OfNumberStep x d =
    whole_step x (map-WholeTerm WholeTerm Step (Option ℤ) (Option ℤ → Option ℤ) (whole_value x) (part_made x) d)
    ≡ number_value x (numeric_step (map-WholeTerm WholeTerm Step NumericExpression (Operation × NumericExpression) numeric operation_in d))

all_made : (x : Item) (parts : List (KnownPart x)) → map (part_made x) (map (λ part. part.0) parts) ≡ parts_made x (c.steps_of (map operation_in (map (λ part. part.0) parts)))
all_made x [] = refl
all_made x (part ∷ parts) = ap₂ (λ (f : Option ℤ → Option ℤ) (fs : List (Option ℤ → Option ℤ)). f ∷ fs) part.1 (all_made x parts)

number_step_same : (x : Item) (y : WholeTerm-F (KnownNumber x) (KnownPart x)) → OfNumberStep x (map-WholeTerm (KnownNumber x) (KnownPart x) WholeTerm Step (λ t. t.0) (λ part. part.0) y)
number_step_same x (WholeTerm-F.Constant n) = refl
number_step_same x (WholeTerm-F.Property i) = refl
number_step_same x (WholeTerm-F.Computed first parts) = ap₂ stepped first.value.1 (all_made x parts.items)

part_same : (x : Item) (part : Step) → OfNumber x part.term → OfOperation x part
part_same x part e =
    fold_out-Step (Option ℤ) (Option ℤ → Option ℤ) (whole_step x) part_step part
    ∙ ap (made part.by) e
    ∙ sym (ap (operation_made x) (fold_out-Step NumericExpression (Operation × NumericExpression) numeric_step operation_step part))

pub number_same : (x : Item) (t : WholeTerm) → OfNumber x t
number_same x = ind-WholeTerm (OfNumber x) (OfOperation x)
    (λ d y is.
    fold-roll-WholeTerm (Option ℤ) (Option ℤ → Option ℤ) (whole_step x) part_step d
    ∙ subst (OfNumberStep x) is (number_step_same x y)
    ∙ sym (ap (number_value x) (fold-roll-WholeTerm NumericExpression (Operation × NumericExpression) numeric_step operation_step d)))
    (λ d y is. part_same x (record { by = d.by; term = d.term }) (subst (OfNumber x) (ap (λ (e : Step-F WholeTerm Step). e.term) is) y.term.1))

-- ---- texts

abbrev pub OfCharacters : Item → TextTerm → Type 0
OfCharacters x t = text_value x t ≡ character_value x (character t)

abbrev KnownText : Item → Type 0
KnownText x = (t : TextTerm) × OfCharacters x t

abbrev OfTextStep : Item → TextTerm-F TextTerm → Type 0
OfTextStep x d =
    text_step x (map-TextTerm TextTerm (Option (List ℕ)) (text_value x) d)
    ≡ character_value x (character_step (map-TextTerm TextTerm CharacterExpression character d))

text_step_same : (x : Item) (y : TextTerm-F (KnownText x)) → OfTextStep x (map-TextTerm (KnownText x) TextTerm (λ t. t.0) y)
text_step_same x (TextTerm-F.Constant content) = refl
text_step_same x (TextTerm-F.Property i) = refl
text_step_same x (TextTerm-F.Folded text) = ap folded_content text.value.1

pub text_same : (x : Item) (t : TextTerm) → OfCharacters x t
text_same x = ind-TextTerm (OfCharacters x) (λ d y is.
    fold-roll-TextTerm (Option (List ℕ)) (text_step x) d
    ∙ subst (OfTextStep x) is (text_step_same x y)
    ∙ sym (ap (character_value x) (fold-roll-TextTerm CharacterExpression character_step d)))

-- ---- terms of any kind

pub scalar_same : (x : Item) (a : AnyTerm) → is_null x a ≡ has_no_value x (scalar a)
scalar_same x (any.Whole a) = ap (λ (v : Option ℤ). is_none v) (number_same x a)
scalar_same x (any.Text a) = ap (λ (v : Option (List ℕ)). is_none v) (text_same x a)
scalar_same x (any.Day a) = refl
scalar_same x (any.Flag a) = refl
scalar_same x (any.Span a) = refl
scalar_same x (any.Shape a) = refl
