use Rattle.std.proofs.Common.{◌∙◌, sym, ap, drop, length, rules, tests}
use Rattle.std.specs.List.{position_or_len}
use Rattle.std.proofs.lemmas.Iterator.{YieldsList-from_slice}
use Rattle.std.proofs.lemmas.Iterator.Search.{position_from_yields_List}
use Rattle.std.proofs.lemmas.List.{drop_all}
use Rattle.cad_feature.specs.Flatten.{is_in}
use Rattle.cad_feature.proofs.ListLemmas.{found_at, found_nowhere}
use Rattle.cad_feature.proofs.RunLemmas.{rest_is}
use Rattle.cad_feature.proofs.flattening.from_first.Goals as goal

pub returns-in-Some : goal.returns-in-Some
returns-in-Some c =
    let vs = c.args.versions.now in
    let test = is_in c.args.collection in
    let at = position_from_yields_List test _ _ _ c.position.ensures.ran (YieldsList-from_slice vs cc) (λ x b q k. search (rules, tests)) in
    rest_is vs c.in-Some.first ∙ ap (λ n. drop n vs) (sym (found_at (position_or_len test vs) (length vs) c.in-Some.first (sym at ∙ c.in-Some.is)))

pub returns-in-None : goal.returns-in-None
returns-in-None c =
    let vs = c.args.versions.now in
    let test = is_in c.args.collection in
    let at = position_from_yields_List test _ _ _ c.position.ensures.ran (YieldsList-from_slice vs cc) (λ x b q k. search (rules, tests)) in
    sym (drop_all (position_or_len test vs) vs (found_nowhere (position_or_len test vs) (length vs) (sym at ∙ c.in-None.is)))
