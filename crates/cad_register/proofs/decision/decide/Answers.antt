use Rattle.std.proofs.Common.{ap, Err, Some, ◌∙◌, ◌≡◌, length, sym, subst, inl, inr}
use Rattle.std.proofs.lemmas.Result.{err_from_is_err_and}
use Rattle.cad_tables.specs.lemmas.SettledLemmas.{settled_then}
use Rattle.cad_versions.specs.Keeping.{IsAnswered}
use Rattle.cad_versions.specs.Versions.{versions}
use Rattle.cad_versions.specs.Refusals.{refusal}
use Rattle.cad_register.specs.Stands.{IsRefusal}
use Rattle.cad_register.specs.Refusing.{IsForObject, IsForAddition, history_questions, addition_questions}
use Rattle.cad_versions.specs.Command.{object_named, body_added}
use Rattle.cad_register.specs.Naming.{TellAll, NamesFirst}
use Rattle.cad_register.proofs.NamingLemmas.{told_on, decided_named, names_more, names_then}
use Rattle.cad_register.proofs.DecisionLemmas.{object_refuses, body_decides}
use Rattle.cad_register.proofs.StandLemmas.{object_decides}
use Rattle.cad_register.proofs.InquiringLemmas.{inquires_in_vain, inquires_on, inquires_then}
use Rattle.cad_register.proofs.decision.decide.Goals as goal

pub returns-in_err-standing-clause-inquires : goal.returns-in_err-standing-clause-inquires
returns-in_err-standing-clause-inquires g c =
    inquires_on g.S.Store c.args.connection.now c.standing_of.new.connection _ _ _ _ _ _ _ c.from_residual.result c.from_residual.ensures.1 (λ question h. inl (subst (λ o. IsForObject o question) c.object.ensures h)) (λ commands h e. inr h) c.in_err-standing.ensures.inquires

pub returns-in-Some-clause-inquires : goal.returns-in-Some-clause-inquires
returns-in-Some-clause-inquires g c =
    let why = sym c.refused_by_object.ensures ∙ c.in-Some.is in
    let decided = object_decides c.in_ok-standing.standing.class c.in_ok-standing.standing.open_since c.args.command.now c.in-Some.fault why in
    inquires_in_vain g.S.Store c.args.connection.now c.standing_of.new.connection _ _ _ _ _ _ c.in_ok-standing.standing c.in-Some.fault decided
    (λ commands stands e. inl (object_refuses (versions commands) c.args.command.now c.object.result c.in_ok-standing.standing c.in-Some.fault c.object.ensures stands why)) c.in_ok-standing.ensures.inquires

pub returns-in_err-check_addition-clause-inquires : goal.returns-in_err-check_addition-clause-inquires
returns-in_err-check_addition-clause-inquires g c =
    let later = c.check_addition.new.connection in
    let second = inquires_then g.S.Store c.args.connection.now c.standing_of.new.connection later _ _ _ _ _ _ _ (λ commands cause. c.args.revision ≡ length commands → IsRefusal (refusal (versions commands) c.args.command.now) cause) _ (Err c.in_err-check_addition.field-0.0) (λ commands done first second. second)
    (λ commands cause first second e. subst (λ o. IsRefusal o cause) (body_decides (versions commands) c.args.command.now c.object.result c.in_ok-standing.standing c.in-Some-body.body.now c.object.ensures first (sym c.refused_by_object.ensures ∙ c.in_default.is) c.in-Some-body.ensures) (second e))
    c.in_ok-standing.ensures.inquires c.in_err-check_addition.ensures.inquires in
    inquires_on g.S.Store c.args.connection.now later _ _ _ _ _ _ _ c.from_residual-in_err-check_addition.result c.from_residual-in_err-check_addition.ensures.1 (λ question h. inr (subst (λ o. IsForAddition o c.args.revision question) c.in-Some-body.ensures h)) (λ commands h. h) second

pub returns-in_err-standing-clause-damaged : goal.returns-in_err-standing-clause-damaged
returns-in_err-standing-clause-damaged g c =
    let old = c.args.connection.now in
    let new = c.standing_of.new.connection in
    let why = c.in_err-standing.field-0.0 in
    let own = subst (λ o. NamesFirst g.S.Store old new (history_questions (Some o)) why) c.object.ensures c.in_err-standing.ensures.damaged in
    told_on _ why c.from_residual.result c.from_residual.ensures.1
    (names_more g.S.Store old new (history_questions (Some (object_named c.args.command.now))) (addition_questions (body_added c.args.command.now) c.args.revision) why own)

pub returns-in-Some-clause-damaged : goal.returns-in-Some-clause-damaged
returns-in-Some-clause-damaged g c =
    decided_named _ c.in-Some.fault (object_decides c.in_ok-standing.standing.class c.in_ok-standing.standing.open_since c.args.command.now c.in-Some.fault (sym c.refused_by_object.ensures ∙ c.in-Some.is))

pub returns-in_err-check_addition-clause-damaged : goal.returns-in_err-check_addition-clause-damaged
returns-in_err-check_addition-clause-damaged g c =
    let old = c.args.connection.now in
    let mid = c.standing_of.new.connection in
    let new = c.check_addition.new.connection in
    let why = c.in_err-check_addition.field-0.0 in
    let own = subst (λ o. TellAll g.S.Store mid (history_questions (Some o)) old mid) c.object.ensures c.in_ok-standing.ensures.shown in
    let added = subst (λ o. NamesFirst g.S.Store mid new (addition_questions o c.args.revision) why) c.in-Some-body.ensures c.in_err-check_addition.ensures.damaged in
    told_on _ why c.from_residual-in_err-check_addition.result c.from_residual-in_err-check_addition.ensures.1
    (names_then g.S.Store old mid new (history_questions (Some (object_named c.args.command.now))) (addition_questions (body_added c.args.command.now) c.args.revision) why c.in_err-check_addition.ensures.inquires.leaves.later.clean own added)

pub returns-in_err-standing-clause-still : goal.returns-in_err-standing-clause-still
returns-in_err-standing-clause-still g c clean answered =
    let p = err_from_is_err_and c.from_residual.result c.from_residual.ensures.1 in
    c.in_err-standing.ensures.still clean (subst (λ r. IsAnswered r) (p.1 ∙ ap Err p.2) answered)

pub returns-in_err-check_addition-clause-still : goal.returns-in_err-check_addition-clause-still
returns-in_err-check_addition-clause-still g c clean answered =
    let p = err_from_is_err_and c.from_residual-in_err-check_addition.result c.from_residual-in_err-check_addition.ensures.1 in
    let adds = c.in_err-check_addition.ensures.inquires in
    let first = c.in_ok-standing.ensures.still (adds.leaves.later.clean clean) tt in
    settled_then g.S.Store c.args.connection.now c.standing_of.new.connection c.check_addition.new.connection first
    (adds.settled clean first.same.0.is_open (subst (λ r. IsAnswered r) (p.1 ∙ ap Err p.2) answered))
