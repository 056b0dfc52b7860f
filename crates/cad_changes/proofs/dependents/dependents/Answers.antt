use Rattle.std.proofs.Common.{◌||◌, ◌∙◌, ap₂}
use Rattle.cad_changes.specs.Touching.{is_numbered, number_at}
use Rattle.cad_changes.proofs.dependents.dependents.Goals as goal

pub returns : goal.returns
returns c = λ x.
    c.in_ok-plan.ensures x
    ∙ ap₂ (λ a b. a || b)
    (c.numbered_if_any-by_unit.ensures x ∙ ap₂ (λ object place. is_numbered object (number_at x place)) c.object.ensures c.unit_place.ensures)
    (c.numbered_if_any-by_party.ensures x ∙ ap₂ (λ object place. is_numbered object (number_at x place)) c.object-2.ensures c.party_place.ensures)
