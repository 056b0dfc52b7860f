use Rattle.std.proofs.Common.{Err, ap, sym, ◌∙◌}
use Rattle.std.proofs.lemmas.Result.{err_from_is_err_and}
use Rattle.cad_server.specs.Turns.{earlier_damage}
use Rattle.cad_server.proofs.CallLemmas.{in_turn_named, in_turn_refused}
use Rattle.cad_server.proofs.turns.versions_in_turn.Goals as goal

pub returns-in_err-versions : goal.returns-in_err-versions
returns-in_err-versions g c =
    let p = err_from_is_err_and c.from_residual.result c.from_residual.ensures.1 in
    in_turn_refused g.L.Ledger c.args.ledger.now c.stored_versions.new.self c.in_err-versions.field-0.0 c.from_residual.result (p.1 ∙ ap Err p.2) c.in_err-versions.ensures

pub returns-in-Some : goal.returns-in-Some
returns-in-Some g c =
    in_turn_named g.L.Ledger c.args.ledger.now c.stored_versions.new.self c.in_ok-versions.versions c.in-Some.fault c.in_ok-versions.ensures
    (ap earlier_damage (sym c.deref.ensures.value) ∙ sym c.earlier_damage.ensures ∙ c.in-Some.is)
