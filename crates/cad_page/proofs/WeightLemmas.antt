-- How long a computed number takes.
use Rattle.std.proofs.Common.{◌≡◌, ◌∙◌, ℕ, ◌+◌, map, ap, sym}
use Rattle.std.specs.Prelude.{Box, Vec}
use Rattle.std.specs.declared.alloc.Global.{Global}
use Rattle.cql_types.specs.declared.filter.Step.{Step, fold-Step, fold_out-Step}
use Rattle.cql_types.specs.declared.filter.WholeTerm.{WholeTerm}
use Rattle.cql_types.specs.declared.filter.WholeTerm.TheVariants as whole
use Rattle.cql_types.specs.declared.filter.WholeTerm.TheOpen.{WholeTerm-F}
use Rattle.cql_types.specs.declared.filter.WholeTerm.TheFolds.{fold-roll-WholeTerm}
use Rattle.cad_lookup.specs.Ways.{total}
use Rattle.cad_page.specs.Weights.{number_part, number_step, number_weight, part_weight}

part_is : (part : Step) → fold-Step ℕ ℕ number_step number_part part ≡ part_weight part
part_is part = fold_out-Step ℕ ℕ number_step number_part part

pub computed_weight : (first : Box WholeTerm Global) (parts : Vec Step Global) →
    number_weight (whole.Computed first parts) ≡ number_weight first.value + total (map part_weight parts.items)
computed_weight first parts =
    ap number_weight (sym (whole.rolls-Computed first parts))
    ∙ fold-roll-WholeTerm ℕ ℕ number_step number_part (WholeTerm-F.Computed first parts)
    ∙ (λ i. number_weight first.value + total (map (λ (part : Step). part_is part i) parts.items))
