use Rattle.std.proofs.Common.{rules, refl, subst, sym, Some}
use Rattle.std.proofs.lemmas.Fn.{always_returns_same}
use Rattle.cad_layer.specs.Identifiers.{identifier, compared, IsTheOne}
use Rattle.cad_layer.specs.lemmas.SearchLemmas.{searchable, absent, present}
use Rattle.cad_layer.proofs.changed.changed.Goals as goal

pub returns-in-Ok : goal.returns-in-Ok
returns-in-Ok c =
    let wanted = identifier c.args.object c.args.number in
    let one = present wanted _ _ c.in-Ok.at c.index-changes-at.result refl c.in-Ok.ensures.bound c.index-changes-at.is (c.in-Ok.ensures.position (compared wanted) (always_returns_same _ _ _ (λ a r f' k. search rules))) in
    subst (λ x. IsTheOne wanted c.args.changes.now (Some x)) (sym c.feature.ensures) one

pub returns-in-Err : goal.returns-in-Err
returns-in-Err c =
    let wanted = identifier c.args.object c.args.number in
    absent wanted _ _ c.in-Err.field-0 refl (c.in-Err.ensures.position (compared wanted) (always_returns_same _ _ _ (λ a r f' k. search rules)) (searchable wanted _ c.requires))
