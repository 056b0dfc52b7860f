use Rattle.std.proofs.Common.{[], ◌∷◌}
use Rattle.cad_tables.specs.Refusals.{entering, closing as the_closing}
use Rattle.cad_tables.specs.Steps.{Adds, Closes, Changes}
use Rattle.cad_tables.proofs.StepLemmas.{entered, amended, retired}
use Rattle.cad_tables.proofs.TakingLemmas.{step_does, step_then, step_refused}
use Rattle.cad_tables.specs.declared.changes.Change.TheVariants.{Enter, Amend, Retire}
use Rattle.cad_tables.proofs.writing.change_lines.Goals as goal

pub returns-in-Enter-clause-step : goal.returns-in-Enter-clause-step
returns-in-Enter-clause-step g c =
    let line = c.in-Enter.line in
    rw c.in-Enter.is
    (step_does g.S.Store (Adds (g.L.Stored.line line)) (Changes g.L.Stored.line (Enter line) c.args.revision) (entering (g.L.Stored.line line) ∷ []) c.args.tx.now.conn.now c.add_line.new.tx.conn.now c.add_line.result c.add_line.ensures.step
    (entered g.L.Stored.line _ _ _ _))

pub returns-in_ok-close_line-in-Amend-clause-step : goal.returns-in_ok-close_line-in-Amend-clause-step
returns-in_ok-close_line-in-Amend-clause-step g c =
    let k = c.in-Amend.closing in
    let line = c.in-Amend.line in
    rw c.in-Amend.is
    (step_then g.S.Store (Closes k c.args.revision) (Changes g.L.Stored.line (Amend k line) c.args.revision) (the_closing k c.args.revision ∷ []) (entering (g.L.Stored.line line) ∷ []) c.args.tx.now.conn.now c.close_line.new.tx.conn.now
    (Adds (g.L.Stored.line line)) c.add_line-in-Amend.new.tx.conn.now c.add_line-in-Amend.result c.in_ok-close_line-in-Amend.ensures.step c.add_line-in-Amend.ensures.step
    (λ closed. closed.inside.mode) (amended g.L.Stored.line _ _ _ _ _ _))

pub returns-in_err-close_line-in-Amend-clause-step : goal.returns-in_err-close_line-in-Amend-clause-step
returns-in_err-close_line-in-Amend-clause-step g c =
    let k = c.in-Amend.closing in
    let line = c.in-Amend.line in
    rw c.in-Amend.is
    (step_refused g.S.Store (Closes k c.args.revision) (Changes g.L.Stored.line (Amend k line) c.args.revision) (the_closing k c.args.revision ∷ []) (entering (g.L.Stored.line line) ∷ []) c.args.tx.now.conn.now c.close_line.new.tx.conn.now
    c.in_err-close_line-in-Amend.field-0.0 c.from_residual.result c.from_residual.ensures.1 c.in_err-close_line-in-Amend.ensures.step)

pub returns-in-Retire-clause-step : goal.returns-in-Retire-clause-step
returns-in-Retire-clause-step g c =
    let k = c.in-Retire.closing in
    rw c.in-Retire.is
    (step_does g.S.Store (Closes k c.args.revision) (Changes g.L.Stored.line (Retire k) c.args.revision) (the_closing k c.args.revision ∷ []) c.args.tx.now.conn.now c.close_line-in-Retire.new.tx.conn.now c.close_line-in-Retire.result c.close_line-in-Retire.ensures.step
    (retired g.L.Stored.line _ _ _ _))
