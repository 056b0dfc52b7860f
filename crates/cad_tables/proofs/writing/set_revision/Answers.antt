use Rattle.sqlite.specs.Held.{state}
use Rattle.cad_tables.proofs.Statements.{counts, counts_sound}
use Rattle.cad_tables.specs.Refusals.{counting}
use Rattle.cad_tables.specs.Steps.{Counts}
use Rattle.cad_tables.proofs.TakingLemmas.{one_done, one_refused}
use Rattle.cad_tables.proofs.writing.set_revision.Goals as goal

pub returns-clause-step : goal.returns-clause-step
returns-clause-step g c =
    let revision = c.args.revision in
    let old = c.args.tx.now.conn.now in
    let new = c.execute.new.self.conn.now in
    let before = state g.S.Store old in
    let after = state g.S.Store new in
    one_done g.S.Store (Counts revision) (counting revision) old new c.execute.ensures.survives c.in_ok-execute.field-0
    (λ clean inside. rw c.one_cell.ensures at (c.in_ok-execute.ensures.runs clean inside))
    (λ ran. record { holds = λ n lines has. (counts before after n revision lines _ has ran.0, counts_sound before after n revision lines _ has ran.0); inside = ran.1 })

pub returns-in_err-execute-clause-step : goal.returns-in_err-execute-clause-step
returns-in_err-execute-clause-step g c =
    one_refused g.S.Store (Counts c.args.revision) (counting c.args.revision) c.args.tx.now.conn.now c.execute.new.self.conn.now c.execute.ensures.survives c.in_err-execute.field-0.0 c.from_residual.result c.from_residual.ensures.1
    (λ clean inside. rw c.one_cell.ensures at (c.in_err-execute.ensures.runs clean inside))
