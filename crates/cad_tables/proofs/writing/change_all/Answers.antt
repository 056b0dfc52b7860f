use Rattle.std.proofs.Common.{[], ◌∷◌}
use Rattle.cad_tables.specs.Refusals.{statements_of, counting}
use Rattle.cad_tables.specs.Steps.{Changes, Counts, Commands}
use Rattle.cad_tables.proofs.StepLemmas.{commanded}
use Rattle.cad_tables.proofs.TakingLemmas.{step_then, step_refused}
use Rattle.cad_tables.proofs.writing.change_all.Goals as goal

pub returns-clause-step : goal.returns-clause-step
returns-clause-step g c =
    let change = c.args.change.now in
    let revision = c.args.revision in
    step_then g.S.Store (Changes g.L.Stored.line change revision) (Commands g.L.Stored.line change revision) (statements_of g.L.Stored.line change revision) (counting revision ∷ []) c.args.tx.now.conn.now c.change_lines.new.tx.conn.now
    (Counts revision) c.set_revision.new.tx.conn.now c.set_revision.result c.in_ok-change_lines.ensures.step c.set_revision.ensures.step
    (λ made. made.inside.mode) (λ made counted. commanded g.L.Stored.line _ _ _ _ _ made counted)

pub returns-in_err-change_lines-clause-step : goal.returns-in_err-change_lines-clause-step
returns-in_err-change_lines-clause-step g c =
    let change = c.args.change.now in
    let revision = c.args.revision in
    step_refused g.S.Store (Changes g.L.Stored.line change revision) (Commands g.L.Stored.line change revision) (statements_of g.L.Stored.line change revision) (counting revision ∷ []) c.args.tx.now.conn.now c.change_lines.new.tx.conn.now
    c.in_err-change_lines.field-0.0 c.from_residual.result c.from_residual.ensures.1 c.in_err-change_lines.ensures.step
