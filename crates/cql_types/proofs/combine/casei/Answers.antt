use Rattle.std.proofs.Common.{refl, ap, sym, ◌∙◌}
use Rattle.cql_types.specs.declared.judged.Node.TheVariants as n
use Rattle.cql_types.specs.Means.{casei, casei_pattern}
use Rattle.cql_types.proofs.combine.casei.Goals as goal

pub returns-in_ok-new-in-Text : goal.returns-in_ok-new-in-Text
returns-in_ok-new-in-Text c = record { place = refl; makes = casei _ (c.in-Text.is ∙ ap n.Text (sym c.in_ok-new-in-Text.ensures.ok)) }

pub returns-in_ok-new-in-Pattern : goal.returns-in_ok-new-in-Pattern
returns-in_ok-new-in-Pattern c = record { place = refl; makes = casei_pattern _ (c.in-Pattern.is ∙ ap n.Pattern (sym c.in_ok-new-in-Pattern.ensures.ok)) }
