use Rattle.std.proofs.Common.{◌≡◌, map, Some, None, refl, rules, ◌∙◌}
use Rattle.std.specs.Result.{result_err}
use Rattle.cad_parameters.specs.Pairs.{pair_text}
use Rattle.cad_parameters.proofs.FaultLemmas.{in_turn}
use Rattle.cad_parameters.proofs.selection.Selection.read.Goals as goal

pub returns-in_err-datetime-clause-fault : goal.returns-in_err-datetime-clause-fault
returns-in_err-datetime-clause-fault c =
    let told : result_err c.from_residual-in_err-datetime.result ≡ Some c.in_err-datetime.field-0.0 = search rules in
    told ∙ in_turn (map pair_text c.args.pairs.now) None None (Some c.in_err-datetime.field-0.0) _ _
    c.in_ok-check_names.ensures c.in_ok-limit.ensures.fault c.in_err-datetime.ensures.fault refl refl

pub returns-in_err-bbox-clause-fault : goal.returns-in_err-bbox-clause-fault
returns-in_err-bbox-clause-fault c =
    let told : result_err c.from_residual-in_err-bbox.result ≡ Some c.in_err-bbox.field-0.0 = search rules in
    told ∙ in_turn (map pair_text c.args.pairs.now) None None None (Some c.in_err-bbox.field-0.0) _
    c.in_ok-check_names.ensures c.in_ok-limit.ensures.fault c.in_ok-datetime.ensures.fault c.in_err-bbox.ensures.fault refl

pub returns-in_err-check_language-clause-fault : goal.returns-in_err-check_language-clause-fault
returns-in_err-check_language-clause-fault c =
    let told : result_err c.from_residual-in_err-check_language.result ≡ Some c.in_err-check_language.field-0.0 = search rules in
    told ∙ in_turn (map pair_text c.args.pairs.now) None None None None (Some c.in_err-check_language.field-0.0)
    c.in_ok-check_names.ensures c.in_ok-limit.ensures.fault c.in_ok-datetime.ensures.fault c.in_ok-bbox.ensures.fault c.in_err-check_language.ensures
