use Rattle.std.proofs.Common.{refl, inr}
use Rattle.cad_register.proofs.KeepingLemmas.{keeps_asked}
use Rattle.cad_register.proofs.register.Register.stored_versions.Goals as goal

pub returns-clause-keeps : goal.returns-clause-keeps
returns-clause-keeps g c =
    let settled = g.met.S.Store.settled c.args.self.now.connection.store in
    keeps_asked g.S.Store c.args.self.now c.entries_of.new.connection c.entries_of.result settled c.entries_of.ensures.leaves

pub returns-clause-still : goal.returns-clause-still
returns-clause-still g c clean answered = inr (c.entries_of.ensures.still clean answered, refl)
