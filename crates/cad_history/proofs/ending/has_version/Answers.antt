use Rattle.std.proofs.Common.{◌∙◌, sym, subst}
use Rattle.std.specs.Option.{option_copied}
use Rattle.cad_feature.specs.Features.{Item, identifier_of}
use Rattle.cad_layer.specs.Identifiers.{IsTheOne}
use Rattle.cad_history.proofs.FoundLemmas.{has_one, same_some}
use Rattle.cad_history.proofs.ending.has_version.Goals as goal

pub returns : goal.returns
returns c =
    c.is_some.ensures ∙ same_some c.feature-row.result
    ∙ sym (has_one c.args.feature.now c.args.layer.now.features (option_copied c.feature-row.result) (subst (λ (x : Item). IsTheOne (identifier_of x) c.args.layer.now.features (option_copied c.feature-row.result)) c.feature.view_is c.feature-row.ensures))
