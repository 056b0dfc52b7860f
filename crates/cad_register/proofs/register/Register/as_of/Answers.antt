use Rattle.std.proofs.Common.{refl, inr, Err}
use Rattle.sqlite.specs.Held.{state}
use Rattle.cad_versions.specs.declared.fault.RegisterFault.TheVariants.{UnknownRevision}
use Rattle.cad_register.proofs.LeavingLemmas.{asks_nothing}
use Rattle.cad_register.proofs.KeepingLemmas.{keeps_asked}
use Rattle.cad_register.proofs.register.Register.as_of.Goals as goal

pub returns-then-from-revision-clause-keeps : goal.returns-then-from-revision-clause-keeps
returns-then-from-revision-clause-keeps g c =
    let settled = g.met.S.Store.settled c.args.self.now.connection.store in
    keeps_asked g.S.Store c.args.self.now c.args.self.now.connection (Err UnknownRevision) settled (asks_nothing (state g.S.Store c.args.self.now.connection) _)

pub returns-clause-keeps : goal.returns-clause-keeps
returns-clause-keeps g c =
    let settled = g.met.S.Store.settled c.args.self.now.connection.store in
    keeps_asked g.S.Store c.args.self.now c.versions_of.new.connection c.versions_of.result settled c.versions_of.ensures.leaves

pub returns-clause-still : goal.returns-clause-still
returns-clause-still g c clean answered = inr (c.versions_of.ensures.still clean answered, refl)
