use Rattle.std.proofs.Common.{rules, ◌≡◌, true, Err, inl, inr}
use Rattle.cad_register.specs.Refusing.{body_questions, room_questions}
use Rattle.cad_register.proofs.NamingLemmas.{told_on, names_more, names_then}
use Rattle.cad_register.proofs.InquiringLemmas.{inquires_on, inquires_then}
use Rattle.cad_register.proofs.decision.check_addition.Goals as goal

pub returns-in_err-are_entered-clause-inquires : goal.returns-in_err-are_entered-clause-inquires
returns-in_err-are_entered-clause-inquires g c =
    inquires_on g.S.Store c.args.connection.now c.are_entered.new.connection _ _ _ _ _ _ _ c.from_residual.result c.from_residual.ensures.1 (λ question h. inl h) (λ commands h e. inr h) c.in_err-are_entered.ensures.inquires

pub returns-in_err-is_full-clause-inquires : goal.returns-in_err-is_full-clause-inquires
returns-in_err-is_full-clause-inquires g c =
    let later = c.is_full.new.connection in
    let second = inquires_then g.S.Store c.args.connection.now c.are_entered.new.connection later _ _ _ _ _ _ _ _ _ (Err c.in_err-is_full.field-0.0) (λ commands known first second. second) (λ commands cause first second. second) c.in_ok-are_entered.ensures.inquires c.in_err-is_full.ensures.inquires in
    inquires_on g.S.Store c.args.connection.now later _ _ _ _ _ _ _ c.from_residual-in_err-is_full.result c.from_residual-in_err-is_full.ensures.1 (λ question h. inr h) (λ commands h e. inr (h e)) second

pub returns-in_err-are_entered-clause-damaged : goal.returns-in_err-are_entered-clause-damaged
returns-in_err-are_entered-clause-damaged g c =
    let why = c.in_err-are_entered.field-0.0 in
    told_on _ why c.from_residual.result c.from_residual.ensures.1
    (names_more g.S.Store c.args.connection.now c.are_entered.new.connection (body_questions c.args.body.now) (room_questions c.args.revision) why c.in_err-are_entered.ensures.damaged)

pub returns-in_err-is_full-clause-damaged : goal.returns-in_err-is_full-clause-damaged
returns-in_err-is_full-clause-damaged g c =
    let why = c.in_err-is_full.field-0.0 in
    let known : c.in_ok-are_entered.field-0 ≡ true = search rules in
    told_on _ why c.from_residual-in_err-is_full.result c.from_residual-in_err-is_full.ensures.1
    (names_then g.S.Store c.args.connection.now c.are_entered.new.connection c.is_full.new.connection (body_questions c.args.body.now) (room_questions c.args.revision) why
    c.in_err-is_full.ensures.inquires.leaves.later.clean (c.in_ok-are_entered.ensures.shown known) c.in_err-is_full.ensures.damaged)
