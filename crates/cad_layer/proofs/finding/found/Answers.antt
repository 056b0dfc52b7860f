use Rattle.std.proofs.Common.{rules, refl}
use Rattle.std.proofs.lemmas.Fn.{always_returns_same}
use Rattle.cad_layer.specs.Identifiers.{identifier, compared}
use Rattle.cad_layer.specs.lemmas.SearchLemmas.{searchable, absent, present}
use Rattle.cad_layer.proofs.finding.found.Goals as goal

pub returns-in-Ok : goal.returns-in-Ok
returns-in-Ok c =
    let wanted = identifier c.args.object c.args.number in
    present wanted _ _ c.in-Ok.at c.index-features-at.result refl c.in-Ok.ensures.bound c.index-features-at.is (c.in-Ok.ensures.position (compared wanted) (always_returns_same _ _ _ (λ a r f' k. search rules)))

pub returns-in-Err : goal.returns-in-Err
returns-in-Err c =
    let wanted = identifier c.args.object c.args.number in
    absent wanted _ _ c.in-Err.field-0 refl (c.in-Err.ensures.position (compared wanted) (always_returns_same _ _ _ (λ a r f' k. search rules)) (searchable wanted _ c.requires))
