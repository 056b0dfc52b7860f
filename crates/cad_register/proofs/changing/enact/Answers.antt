use Rattle.sqlite.specs.Held.{state}
use Rattle.cad_register.proofs.WriteLemmas.{stands_then}
use Rattle.cad_register.proofs.SurvivingLemmas.{leaves_written}
use Rattle.cad_register.proofs.LeavingLemmas.{later_by}
use Rattle.cad_register.proofs.changing.enact.Goals as goal

pub returns-in-Ok-clause-enacted : goal.returns-in-Ok-clause-enacted
returns-in-Ok-clause-enacted g c clean cs stands fine numbered next =
    stands_then (state g.S.Store c.args.connection.now) (state g.S.Store c.write-written.new.conn) cs c.args.command c.args.number c.args.revision c.in_ok-change.change stands fine numbered next c.in_ok-change.ensures c.ranges.revision.fits (c.in-Ok.ensures.wrote clean)

pub returns-in-Ok-clause-crash : goal.returns-in-Ok-clause-crash
returns-in-Ok-clause-crash g c clean cs stands leaves fine numbered next room =
    leaves_written (state g.S.Store c.args.connection.now) (state g.S.Store c.write-written.new.conn) cs c.args.command c.args.number c.args.revision c.in_ok-change.change clean c.write-written.ensures.keeps.crash stands leaves fine numbered next room c.in_ok-change.ensures c.ranges.revision.fits

pub returns-in-Err-clause-crash : goal.returns-in-Err-clause-crash
returns-in-Err-clause-crash g c clean cs stands leaves fine numbered next room =
    leaves_written (state g.S.Store c.args.connection.now) (state g.S.Store c.write-written.new.conn) cs c.args.command c.args.number c.args.revision c.in_ok-change.change clean c.write-written.ensures.keeps.crash stands leaves fine numbered next room c.in_ok-change.ensures c.ranges.revision.fits

pub returns-in-Ok-clause-later : goal.returns-in-Ok-clause-later
returns-in-Ok-clause-later g c = later_by (state g.S.Store c.args.connection.now) (state g.S.Store c.write-written.new.conn) _ c.write-written.ensures.keeps.crash

pub returns-in-Err-clause-later : goal.returns-in-Err-clause-later
returns-in-Err-clause-later g c = later_by (state g.S.Store c.args.connection.now) (state g.S.Store c.write-written.new.conn) _ c.write-written.ensures.keeps.crash
