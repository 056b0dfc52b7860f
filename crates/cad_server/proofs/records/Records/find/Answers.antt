use Rattle.std.proofs.Common.{subst, sym, ◌∙◌}
use Rattle.std.proofs.lemmas.Result.{err_from_is_err_and}
use Rattle.cad_server.proofs.CallLemmas.{found_kept, found_nothing, found_read}
use Rattle.cad_server.proofs.records.Records.find.Goals as goal

pub returns-in_err-snapshot-clause-found : goal.returns-in_err-snapshot-clause-found
returns-in_err-snapshot-clause-found g c =
    let p = err_from_is_err_and c.from_residual.result c.from_residual.ensures.1 in
    found_nothing g.L.Ledger c.args.revision c.args.self.now c.recall.new.self _ p.0 c.from_residual.result p.1 p.2 c.in_err-snapshot.ensures

pub returns-in_err-snapshot-clause-unasked : goal.returns-in_err-snapshot-clause-unasked
returns-in_err-snapshot-clause-unasked g c = λ kept. c.in_err-snapshot.ensures.same

pub returns-in-Some-clause-found : goal.returns-in-Some-clause-found
returns-in-Some-clause-found g c =
    found_kept g.L.Ledger g.met.L.Ledger.remains_here c.args.revision c.args.self.now c.recall.new.self c.in-Some.snapshot c.in_ok-snapshot.field-0 c.recall.result c.in_ok-snapshot.was c.in-Some.is c.recall.ensures

pub returns-in-Some-clause-unasked : goal.returns-in-Some-clause-unasked
returns-in-Some-clause-unasked g c = λ kept. c.recall.ensures.same

pub look-requires : goal.look-requires
look-requires g c = λ commands stands. c.requires commands (subst (λ l. g.L.Ledger.stands_for l commands) c.recall.ensures.same stands)

pub returns-in-None-clause-found : goal.returns-in-None-clause-found
returns-in-None-clause-found g c = found_read g.L.Ledger c.args.revision c.args.self.now c.recall.new.self c.look.new.self _ c.look.result c.recall.ensures c.look.ensures.found

pub returns-in-None-clause-unasked : goal.returns-in-None-clause-unasked
returns-in-None-clause-unasked g c = λ kept. c.look.ensures.unasked (λ none. kept (sym c.recall.ensures.kept.histories ∙ none)) ∙ c.recall.ensures.same
