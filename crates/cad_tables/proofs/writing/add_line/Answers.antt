use Rattle.sqlite.specs.Held.{state}
use Rattle.cad_tables.proofs.Writes.{adds}
use Rattle.cad_tables.specs.Refusals.{entering}
use Rattle.cad_tables.specs.Steps.{Adds}
use Rattle.cad_tables.proofs.TakingLemmas.{one_done, one_refused}
use Rattle.cad_tables.proofs.writing.add_line.Goals as goal

pub returns-clause-step : goal.returns-clause-step
returns-clause-step g c =
    let line = g.L.Stored.line c.args.line.now in
    let old = c.args.tx.now.conn.now in
    let new = c.execute.new.self.conn.now in
    one_done g.S.Store (Adds line) (entering line) old new c.execute.ensures.survives c.in_ok-execute.field-0
    (λ clean inside. rw c.cells.ensures at (c.in_ok-execute.ensures.runs clean inside))
    (λ ran. record { holds = λ n lines has. adds (state g.S.Store old) (state g.S.Store new) n lines line _ has ran.0; inside = ran.1 })

pub returns-in_err-execute-clause-step : goal.returns-in_err-execute-clause-step
returns-in_err-execute-clause-step g c =
    let line = g.L.Stored.line c.args.line.now in
    one_refused g.S.Store (Adds line) (entering line) c.args.tx.now.conn.now c.execute.new.self.conn.now c.execute.ensures.survives c.in_err-execute.field-0.0 c.from_residual.result c.from_residual.ensures.1
    (λ clean inside. rw c.cells.ensures at (c.in_err-execute.ensures.runs clean inside))
