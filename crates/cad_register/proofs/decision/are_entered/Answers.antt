use Rattle.std.proofs.Common.{Err, subst, inl, inr}
use Rattle.cad_register.specs.Refusing.{IsForNamed, history_questions}
use Rattle.cad_versions.specs.BodyParts.{unit_named, party_named}
use Rattle.cad_register.specs.Naming.{TellAll, NamesFirst}
use Rattle.cad_register.proofs.NamingLemmas.{told_on, tell_later, tell_then, names_more, names_then}
use Rattle.cad_register.specs.Stands.{IsStoreFault}
use Rattle.cad_register.proofs.InquiringLemmas.{inquires_on, inquires_then}
use Rattle.cad_register.proofs.decision.are_entered.Goals as goal

pub returns-in_err-is_entered-clause-inquires : goal.returns-in_err-is_entered-clause-inquires
returns-in_err-is_entered-clause-inquires g c =
    inquires_on g.S.Store c.args.connection.now c.is_entered.new.connection _ _ _ _ _ _ _ c.from_residual.result c.from_residual.ensures.1 (λ question h. inl (subst (λ o. IsForNamed o question) c.unit.ensures h)) (λ commands h. h) c.in_err-is_entered.ensures.inquires

pub returns-in_err-known-clause-inquires : goal.returns-in_err-known-clause-inquires
returns-in_err-known-clause-inquires g c =
    let later = c.is_entered-then-branch.new.connection in
    let second = inquires_then g.S.Store c.args.connection.now c.is_entered.new.connection later _ _ _ _ _ _ _ (λ commands cause. IsStoreFault cause) _ (Err c.in_err-known.field-0.0) (λ commands known first second. second) (λ commands cause first second. second) c.in_ok-is_entered.ensures.inquires c.in_err-known.ensures.inquires in
    inquires_on g.S.Store c.args.connection.now later _ _ _ _ _ _ _ c.from_residual-in_err-known.result c.from_residual-in_err-known.ensures.1 (λ question h. inr (subst (λ o. IsForNamed o question) c.party.ensures h)) (λ commands h. h) second

pub returns-in_err-is_entered-clause-damaged : goal.returns-in_err-is_entered-clause-damaged
returns-in_err-is_entered-clause-damaged g c =
    let old = c.args.connection.now in
    let new = c.is_entered.new.connection in
    let why = c.in_err-is_entered.field-0.0 in
    let unit = subst (λ o. NamesFirst g.S.Store old new (history_questions o) why) c.unit.ensures c.in_err-is_entered.ensures.damaged in
    told_on _ why c.from_residual.result c.from_residual.ensures.1 (names_more g.S.Store old new (history_questions (unit_named c.args.body.now)) (history_questions (party_named c.args.body.now)) why unit)

pub returns-in_err-known-clause-damaged : goal.returns-in_err-known-clause-damaged
returns-in_err-known-clause-damaged g c =
    let old = c.args.connection.now in
    let mid = c.is_entered.new.connection in
    let new = c.is_entered-then-branch.new.connection in
    let why = c.in_err-known.field-0.0 in
    let unit = subst (λ o. TellAll g.S.Store mid (history_questions o) old mid) c.unit.ensures c.in_ok-is_entered.ensures.shown in
    let party = subst (λ o. NamesFirst g.S.Store mid new (history_questions o) why) c.party.ensures c.in_err-known.ensures.damaged in
    told_on _ why c.from_residual-in_err-known.result c.from_residual-in_err-known.ensures.1
    (names_then g.S.Store old mid new (history_questions (unit_named c.args.body.now)) (history_questions (party_named c.args.body.now)) why c.in_err-known.ensures.inquires.leaves.later.clean unit party)

pub returns-in_ok-known-clause-shown : goal.returns-in_ok-known-clause-shown
returns-in_ok-known-clause-shown g c = λ known.
    let old = c.args.connection.now in
    let mid = c.is_entered.new.connection in
    let new = c.is_entered-then-branch.new.connection in
    let unit = subst (λ o. TellAll g.S.Store mid (history_questions o) old mid) c.unit.ensures c.in_ok-is_entered.ensures.shown in
    let party = subst (λ o. TellAll g.S.Store new (history_questions o) mid new) c.party.ensures c.in_ok-known.ensures.shown in
    let units = history_questions (unit_named c.args.body.now) in
    tell_then g.S.Store new units (history_questions (party_named c.args.body.now)) old mid new
    (tell_later g.S.Store mid new units old mid c.in_ok-known.ensures.inquires.leaves.later.clean unit) party
