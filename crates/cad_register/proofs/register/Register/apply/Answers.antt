use Rattle.std.proofs.Common.{refl, ◌≡◌, ◌<◌, arith, Err, inr, subst, ◌∙◌, ◌+◌, length, length-append, ap, sym, ◌∷◌, [], ◌++◌}
use Rattle.std.proofs.lemmas.Result.{err_from_is_err_and}
use Rattle.cad_register.proofs.WriteLemmas.{numbered}
use Rattle.cad_register.proofs.StandLemmas.{refused_as}
use Rattle.cad_versions.specs.declared.fault.RegisterFault.TheVariants as fault
use Rattle.cad_register.specs.Refusing.{RefusesChange}
use Rattle.cad_tables.specs.Opening.{most_revision}
use Rattle.sqlite.specs.Held.{state}
use Rattle.cad_register.specs.Surviving.{LeavesEither}
use Rattle.cad_register.proofs.LeavingLemmas.{asks_as, not_answered}
use Rattle.cad_register.proofs.KeepingLemmas.{keeps_asked, keeps_refused, keeps_either}
use Rattle.cad_register.proofs.SurvivingLemmas.{leaves_standing, leaves_then}
use Rattle.cad_register.proofs.register.Register.apply.Goals as goal

pub returns-in-Err-clause-refused : goal.returns-in-Err-clause-refused
returns-in-Err-clause-refused g c clean cs register = refused_as cs c.args.command c.in-Err.fault ((c.in-Err.ensures.inquires.told clean cs register.stands).0 register.counted)

pub returns-clause-accepted : goal.returns-clause-accepted
returns-clause-accepted g c clean cs register =
    let told = c.in-Ok.ensures.inquires.told (c.in_ok-enact.ensures.later.clean clean) cs register.stands in
    let decided = told.0 register.counted in
    let next : c.args.self.now.revision + 1 ≡ length cs + 1 = ap (λ n. n + 1) register.counted in
    let fits = numbered cs c.args.command c.in-Ok.count c.next_number.result decided.0 decided.1 c.next_number.ensures.next in (
      decided.0,
      c.from.ensures ∙ next,
      record {
        stands = c.in_ok-enact.ensures.enacted clean cs told.1 decided.0 fits next;
        counted = next ∙ sym (length-append cs (c.args.command ∷ []));
      },
    )

pub returns-in_err-enact-clause-store : goal.returns-in_err-enact-clause-store
returns-in_err-enact-clause-store g c clean e cs register =
    let p = err_from_is_err_and c.from_residual.result c.from_residual.ensures.1 in
    let early = c.in_err-enact.ensures.later.clean clean in
    let same = c.in-Ok.ensures.inquires.asked early cs register.stands in
    let is : c.in_err-enact.field-0.0 ≡ fault.Store = let known = p.0 in let given = p.1 in cc in
    let next : c.args.self.now.revision + 1 ≡ length cs + 1 = ap (λ n. n + 1) register.counted in
    inr (c.decide-decided.new.connection, same, subst (RefusesChange g.S.Store c.decide-decided.new.connection c.enact.new.connection c.args.command) next (c.in_err-enact.ensures.store clean (ap Err is)))

pub returns-in-Err-clause-keeps : goal.returns-in-Err-clause-keeps
returns-in-Err-clause-keeps g c =
    let settled = g.met.S.Store.settled c.args.self.now.connection.store in
    let cause = c.in-Err.fault in
    keeps_either g.S.Store c.args.self.now _ c.args.command (Err cause) (keeps_asked g.S.Store c.args.self.now c.decide-decided.new.connection (Err cause) settled c.in-Err.ensures.inquires.leaves)

pub returns-then-self-ge-MOST_REVISION-clause-keeps : goal.returns-then-self-ge-MOST_REVISION-clause-keeps
returns-then-self-ge-MOST_REVISION-clause-keeps g c =
    let settled = g.met.S.Store.settled c.args.self.now.connection.store in
    let asks = asks_as (state g.S.Store c.args.self.now.connection) (state g.S.Store c.decide-decided.new.connection) _ (Err fault.NotARegister) (λ own. tt) c.in-Ok.ensures.inquires.leaves in
    keeps_either g.S.Store c.args.self.now _ c.args.command (Err fault.NotARegister) (keeps_asked g.S.Store c.args.self.now c.decide-decided.new.connection (Err fault.NotARegister) settled asks)

pub returns-in_err-enact-clause-keeps : goal.returns-in_err-enact-clause-keeps
returns-in_err-enact-clause-keeps g c =
    let old = state g.S.Store c.args.self.now.connection in
    let mid = state g.S.Store c.decide-decided.new.connection in
    let settled = g.met.S.Store.settled c.args.self.now.connection.store in
    let p = err_from_is_err_and c.from_residual.result c.from_residual.ensures.1 in
    rw (p.1, p.2) (keeps_refused g.S.Store c.args.self.now c.enact.new.connection mid c.in-Ok.count c.in_err-enact.field-0.0 c.in_err-enact.ensures.cause c.in-Ok.ensures.inquires.leaves c.in_err-enact.ensures.later c.in_err-enact.ensures.unchanged (LeavesEither c.args.command) (λ clean cs register.
    let early = c.in_err-enact.ensures.later.clean clean in
    let told = c.in-Ok.ensures.inquires.told early cs register.stands in
    let decided = told.0 register.counted in
    let next : c.args.self.now.revision + 1 ≡ length cs + 1 = ap (λ n. n + 1) register.counted in
    let fits = numbered cs c.args.command c.in-Ok.count c.next_number.result decided.0 decided.1 c.next_number.ensures.next in
    let leaves = leaves_then old mid cs (c.in-Ok.ensures.inquires.leaves.left early) (leaves_standing old cs settled register.stands) in
    let room : length cs < most_revision = omega (arith, register.counted) in
    c.in_err-enact.ensures.crash clean cs told.1 leaves decided.0 fits next room))

pub returns-clause-keeps : goal.returns-clause-keeps
returns-clause-keeps g c =
    let old = state g.S.Store c.args.self.now.connection in
    let mid = state g.S.Store c.decide-decided.new.connection in
    record {
      same = λ clean. tt;
      unchanged = λ clean live. tt;
      crash = λ clean cs register.
          let early = c.in_ok-enact.ensures.later.clean clean in
          let told = c.in-Ok.ensures.inquires.told early cs register.stands in
          let decided = told.0 register.counted in
          let next : c.args.self.now.revision + 1 ≡ length cs + 1 = ap (λ n. n + 1) register.counted in
          let fits = numbered cs c.args.command c.in-Ok.count c.next_number.result decided.0 decided.1 c.next_number.ensures.next in
          let leaves = leaves_then old mid cs (c.in-Ok.ensures.inquires.leaves.left early) (leaves_standing old cs (g.met.S.Store.settled c.args.self.now.connection.store) register.stands) in
          let room : length cs < most_revision = omega (arith, register.counted) in
          c.in_ok-enact.ensures.crash clean cs told.1 leaves decided.0 fits next room;
    }

pub returns-clause-durable : goal.returns-clause-durable
returns-clause-durable g c clean cs register =
    let told = c.in-Ok.ensures.inquires.told (c.in_ok-enact.ensures.later.clean clean) cs register.stands in
    let decided = told.0 register.counted in
    let next : c.args.self.now.revision + 1 ≡ length cs + 1 = ap (λ n. n + 1) register.counted in
    let fits = numbered cs c.args.command c.in-Ok.count c.next_number.result decided.0 decided.1 c.next_number.ensures.next in
    leaves_standing (state g.S.Store c.enact.new.connection) (cs ++ c.args.command ∷ []) (g.met.S.Store.settled c.enact.new.connection.store) (c.in_ok-enact.ensures.enacted clean cs told.1 decided.0 fits next)

pub returns-in-Err-clause-still : goal.returns-in-Err-clause-still
returns-in-Err-clause-still g c clean own = inr (c.in-Err.ensures.still clean own, refl)

pub returns-then-self-ge-MOST_REVISION-clause-still : goal.returns-then-self-ge-MOST_REVISION-clause-still
returns-then-self-ge-MOST_REVISION-clause-still g c clean own = inr (c.in-Ok.ensures.still clean tt, refl)

pub returns-in_err-enact-clause-still : goal.returns-in_err-enact-clause-still
returns-in_err-enact-clause-still g c clean =
    let p = err_from_is_err_and c.from_residual.result c.from_residual.ensures.1 in
    rw (p.1, p.2) (λ own. absurd (not_answered c.in_err-enact.field-0.0 c.in_err-enact.ensures.cause own))
