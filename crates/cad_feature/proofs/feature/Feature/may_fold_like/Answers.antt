use Rattle.std.proofs.Common.{◌≡◌, ◌∙◌, List, ℕ, true, ap}
use Rattle.cql_text.specs.Patterns.{like_test}
use Rattle.cad_feature.specs.Features.{datum_at}
use Rattle.cad_feature.proofs.FoldedLemmas.{none_has, not_told}
use Rattle.cad_feature.proofs.feature.Feature.may_fold_like.Goals as goal

pub returns : goal.returns
returns c = λ none own is such.
    none_has _ c.self.inside.marks _ _ (λ (folded : List ℕ). like_test c.args.pattern.now.pattern folded ≡ true) c.self.invariant.1 c.marks.ensures.no_further (not_told _ none c.include.ensures) own (ap (λ x. datum_at x c.args.pattern.now.property) c.self.view_is ∙ is) such
