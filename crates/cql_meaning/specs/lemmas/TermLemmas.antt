-- The values of each kind of term, by those of its parts.
use Rattle.std.specs.Prelude.{◌≡◌, ℕ, ℤ, List, map, Option, Some, Box, Vec, String, chars, string_bytes}
use Rattle.std.proofs.Common.{◌∙◌, ap, sym}
use Rattle.std.specs.declared.alloc.Global.{Global}
use Rattle.cad_feature.specs.Features.{Item, datum_at}
use Rattle.cql_types.specs.declared.filter.Step.{Step, fold-Step, fold_out-Step}
use Rattle.cql_types.specs.declared.filter.WholeTerm.{WholeTerm}
use Rattle.cql_types.specs.declared.filter.WholeTerm.TheVariants as whole
use Rattle.cql_types.specs.declared.filter.WholeTerm.TheOpen.{WholeTerm-F}
use Rattle.cql_types.specs.declared.filter.WholeTerm.TheFolds.{fold-roll-WholeTerm}
use Rattle.cql_types.specs.declared.filter.TextTerm.{TextTerm}
use Rattle.cql_types.specs.declared.filter.TextTerm.TheVariants as text
use Rattle.cql_types.specs.declared.filter.TextTerm.TheOpen.{TextTerm-F}
use Rattle.cql_types.specs.declared.filter.TextTerm.TheFolds.{fold-roll-TextTerm}
use Rattle.cql_meaning.specs.Arithmetic.{made, part_step, stepped, whole_step, whole_value}
use Rattle.cql_meaning.specs.Values.{folded_content, text_in, text_step, text_value}

-- ---- whole numbers

-- what a part behind the first makes of the value before it
abbrev pub part_of : Item → Step → Option ℤ → Option ℤ
part_of x part = made part.by (whole_value x part.term)

part_is : (x : Item) (part : Step) → fold-Step (Option ℤ) (Option ℤ → Option ℤ) (whole_step x) part_step part ≡ part_of x part
part_is x part = fold_out-Step (Option ℤ) (Option ℤ → Option ℤ) (whole_step x) part_step part

pub whole_Computed : (x : Item) (first : Box WholeTerm Global) (parts : Vec Step Global) →
    whole_value x (whole.Computed first parts) ≡ stepped (whole_value x first.value) (map (part_of x) parts.items)
whole_Computed x first parts =
    ap (whole_value x) (sym (whole.rolls-Computed first parts))
    ∙ fold-roll-WholeTerm (Option ℤ) (Option ℤ → Option ℤ) (whole_step x) part_step (WholeTerm-F.Computed first parts)
    ∙ (λ i. stepped (whole_value x first.value) (map (λ (part : Step). part_is x part i) parts.items))

-- ---- texts

pub text_Constant : (x : Item) (content : String Global) → text_value x (text.Constant content) ≡ Some (chars (string_bytes content))
text_Constant x content = ap (text_value x) (sym (text.rolls-Constant content)) ∙ fold-roll-TextTerm (Option (List ℕ)) (text_step x) (TextTerm-F.Constant content)

pub text_Property : (x : Item) (i : ℕ) → text_value x (text.Property i) ≡ text_in (datum_at x i)
text_Property x i = ap (text_value x) (sym (text.rolls-Property i)) ∙ fold-roll-TextTerm (Option (List ℕ)) (text_step x) (TextTerm-F.Property i)

pub text_Folded : (x : Item) (term : Box TextTerm Global) → text_value x (text.Folded term) ≡ folded_content (text_value x term.value)
text_Folded x term = ap (text_value x) (sym (text.rolls-Folded term)) ∙ fold-roll-TextTerm (Option (List ℕ)) (text_step x) (TextTerm-F.Folded term)
