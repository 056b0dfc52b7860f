use Rattle.std.proofs.Common.{subst, sym}
use Rattle.cad_register.specs.Refusing.{IsForNamed, history_questions}
use Rattle.cad_register.specs.Naming.{NamesFirst}
use Rattle.cad_register.proofs.NamingLemmas.{told_on}
use Rattle.cad_register.proofs.InquiringLemmas.{inquires_on}
use Rattle.cad_register.proofs.decision.is_entered.Goals as goal

pub returns-in_err-standing-in-Some-clause-inquires : goal.returns-in_err-standing-in-Some-clause-inquires
returns-in_err-standing-in-Some-clause-inquires g c =
    inquires_on g.S.Store c.args.connection.now c.standing_of.new.connection _ _ _ _ _ _ _ c.from_residual.result c.from_residual.ensures.1 (λ question h. subst (λ o. IsForNamed o question) (sym c.in-Some.is) h) (λ commands h. h) c.in_err-standing-in-Some.ensures.inquires

pub returns-in_err-standing-in-Some-clause-damaged : goal.returns-in_err-standing-in-Some-clause-damaged
returns-in_err-standing-in-Some-clause-damaged g c =
    told_on _ c.in_err-standing-in-Some.field-0.0 c.from_residual.result c.from_residual.ensures.1
    (subst (λ o. NamesFirst g.S.Store c.args.connection.now c.standing_of.new.connection (history_questions o) c.in_err-standing-in-Some.field-0.0) (sym c.in-Some.is) c.in_err-standing-in-Some.ensures.damaged)
