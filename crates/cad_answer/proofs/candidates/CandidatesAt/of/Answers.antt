use Rattle.std.proofs.Common.{◌∙◌, List, ap, subst, sym}
use Rattle.cad_feature.specs.Features.{Item}
use Rattle.cad_lookup.specs.Candidates.{candidates, is_candidate}
use Rattle.cad_run.specs.Left.{candidates_ahead}
use Rattle.cad_run.specs.Steps.{AreAmong}
use Rattle.cad_run.specs.lemmas.AheadLemmas.{among_same, few_among}
use Rattle.cad_answer.proofs.candidates.CandidatesAt.of.Goals as goal

pub returns-in-None-clause-ahead : goal.returns-in-None-clause-ahead
returns-in-None-clause-ahead c =
    among_same (candidates_ahead c.of-left.result) c.args.features.now.features (c.of-left.ensures.ahead ∙ (rw c.in-None.is at c.parts.ensures.features))

pub returns-in_ok-left-in-Some-clause-ahead : goal.returns-in_ok-left-in-Some-clause-ahead
returns-in_ok-left-in-Some-clause-ahead c =
    let xs = c.args.features.now.features in
    let plan = c.args.plan.now in
    let all = c.in_ok-left-in-Some.ensures ∙ ap (candidates plan) (rw c.in-Some.is at c.parts.ensures.features) in
    subst (λ (ys : List Item). AreAmong ys xs) (sym all) (few_among (is_candidate plan) xs)
