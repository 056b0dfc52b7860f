use Rattle.std.proofs.Common.{◌∙◌, ap, find, rules, tests}
use Rattle.std.proofs.lemmas.Iterator.{YieldsList-from_slice}
use Rattle.std.proofs.lemmas.Iterator.Search.{YieldsList-from_take_while, find_from_yields_List}
use Rattle.cad_versions.specs.Versions.{is_of}
use Rattle.cad_feature.specs.Lifespans.{holds_on}
use Rattle.cad_feature.proofs.joining.version_on.Goals as goal

pub returns : goal.returns
returns c =
    find_from_yields_List (holds_on c.args.day) _ _ _ c.find.ensures.ran
    (YieldsList-from_take_while _ (is_of c.args.object) (YieldsList-from_slice c.from_object.result.now cc) c.take_while.ensures.closure c.take_while.ensures.done (λ x b q k. search (rules, tests)))
    (λ x b q k. search (rules, tests))
    ∙ ap (find (holds_on c.args.day)) c.from_object.ensures
