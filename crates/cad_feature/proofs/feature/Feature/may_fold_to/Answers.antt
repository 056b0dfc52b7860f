use Rattle.std.proofs.Common.{◌≡◌, ◌∙◌, List, ℕ, ap}
use Rattle.cad_feature.specs.Features.{datum_at}
use Rattle.cad_feature.proofs.FoldedLemmas.{none_has, not_told}
use Rattle.cad_feature.proofs.feature.Feature.may_fold_to.Goals as goal

pub returns : goal.returns
returns c = λ none own is same.
    none_has _ c.self.inside.marks _ _ (λ (folded : List ℕ). folded ≡ c.args.text.now.text) c.self.invariant.1 c.marks.ensures.no_further (not_told _ none c.include.ensures) own (ap (λ x. datum_at x c.args.text.now.property) c.self.view_is ∙ is) same
