use Rattle.std.proofs.Common.{ℕ, refl, sym, ◌∙◌, ◌∷◌, [], Ok, Err}
use Rattle.sqlite.specs.Held.{state}
use Rattle.sqlite.specs.State.{State, ExecutesInside}
use Rattle.cad_tables.specs.Refusals.{making_state, making_version, beginning}
use Rattle.cad_tables.specs.Steps.{MakesTables}
use Rattle.cad_tables.specs.Tables.{state_table, version_made}
use Rattle.cad_tables.specs.Texts.{state_text, version_text, begin_text}
use Rattle.cad_tables.proofs.Statements.{makes_state, makes_version, begins, begins_sound}
use Rattle.cad_tables.proofs.NameLemmas.{state_makes, version_makes}
use Rattle.cad_tables.proofs.StandingLemmas.{free_by, free_inside, others_stay}
use Rattle.cad_tables.proofs.StepLemmas.{inside_then}
use Rattle.cad_tables.proofs.TakingLemmas.{one_done, one_refused, step_then, step_refused, then_refused}
use Rattle.cad_tables.proofs.making.make_tables.Goals as goal

-- the statement was run, and changed so many rows
abbrev RanState : ℕ → State → State → Type 0
RanState count a b = ExecutesInside 0 state_text [] a b (Ok count)

abbrev RanVersion : ℕ → State → State → Type 0
RanVersion count a b = ExecutesInside 0 version_text [] a b (Ok count)

abbrev RanBegin : ℕ → State → State → Type 0
RanBegin count a b = ExecutesInside 0 begin_text [] a b (Ok count)

-- the last two of them
abbrev RanLast : State → ℕ → ℕ → State → State → Type 0
RanLast mid two three a b = RanVersion two a mid × RanBegin three mid b

pub returns-in_err-execute-clause-step : goal.returns-in_err-execute-clause-step
returns-in_err-execute-clause-step g c =
    let old = c.args.tx.now.conn.now in
    let first = c.execute.new.self.conn.now in
    let e = c.in_err-execute.field-0.0 in
    step_refused g.S.Store (λ _ _. Unit {0}) MakesTables (making_state ∷ []) (making_version ∷ beginning ∷ []) old first e c.from_residual.result c.from_residual.ensures.1
    (one_refused g.S.Store (λ _ _. Unit {0}) making_state old first c.execute.ensures.survives e (Err e) refl (λ clean inside. rw c.state_table.ensures at (c.in_err-execute.ensures.runs clean inside)))

pub returns-in_err-execute-2-clause-step : goal.returns-in_err-execute-2-clause-step
returns-in_err-execute-2-clause-step g c =
    let old = c.args.tx.now.conn.now in
    let first = c.execute.new.self.conn.now in
    let second = c.execute-2.new.self.conn.now in
    let e = c.in_err-execute-2.field-0.0 in
    let one = c.in_ok-execute.field-0 in
    then_refused g.S.Store (RanState one) MakesTables (making_state ∷ []) (making_version ∷ beginning ∷ []) old first (λ _ _. Unit {0}) second e c.from_residual-in_err-execute-2.result c.from_residual-in_err-execute-2.ensures.1
    (one_done g.S.Store (RanState one) making_state old first c.execute.ensures.survives one (λ clean inside. rw c.state_table.ensures at (c.in_ok-execute.ensures.runs clean inside)) (λ ran. ran))
    (step_refused g.S.Store (λ _ _. Unit {0}) (λ _ _. Unit {0}) (making_version ∷ []) (beginning ∷ []) first second e (Err e) refl
    (one_refused g.S.Store (λ _ _. Unit {0}) making_version first second c.execute-2.ensures.survives e (Err e) refl (λ clean inside. rw c.version_table.ensures at (c.in_err-execute-2.ensures.runs clean inside))))
    (λ ran. ran.1.mode)

pub returns-in_err-execute-3-clause-step : goal.returns-in_err-execute-3-clause-step
returns-in_err-execute-3-clause-step g c =
    let old = c.args.tx.now.conn.now in
    let first = c.execute.new.self.conn.now in
    let second = c.execute-2.new.self.conn.now in
    let last = c.execute-3.new.self.conn.now in
    let e = c.in_err-execute-3.field-0.0 in
    let one = c.in_ok-execute.field-0 in
    let two = c.in_ok-execute-2.field-0 in
    then_refused g.S.Store (RanState one) MakesTables (making_state ∷ []) (making_version ∷ beginning ∷ []) old first (λ _ _. Unit {0}) last e c.from_residual-in_err-execute-3.result c.from_residual-in_err-execute-3.ensures.1
    (one_done g.S.Store (RanState one) making_state old first c.execute.ensures.survives one (λ clean inside. rw c.state_table.ensures at (c.in_ok-execute.ensures.runs clean inside)) (λ ran. ran))
    (then_refused g.S.Store (RanVersion two) (λ _ _. Unit {0}) (making_version ∷ []) (beginning ∷ []) first second (λ _ _. Unit {0}) last e (Err e) refl
    (one_done g.S.Store (RanVersion two) making_version first second c.execute-2.ensures.survives two (λ clean inside. rw c.version_table.ensures at (c.in_ok-execute-2.ensures.runs clean inside)) (λ ran. ran))
    (one_refused g.S.Store (λ _ _. Unit {0}) beginning second last c.execute-3.ensures.survives e (Err e) refl (λ clean inside. c.in_err-execute-3.ensures.runs clean inside))
    (λ ran. ran.1.mode))
    (λ ran. ran.1.mode)

pub returns-clause-step : goal.returns-clause-step
returns-clause-step g c =
    let old = c.args.tx.now.conn.now in
    let first = c.execute.new.self.conn.now in
    let second = c.execute-2.new.self.conn.now in
    let last = c.execute-3.new.self.conn.now in
    let a = state g.S.Store old in
    let b = state g.S.Store first in
    let m = state g.S.Store second in
    let d = state g.S.Store last in
    let one = c.in_ok-execute.field-0 in
    let two = c.in_ok-execute-2.field-0 in
    let three = c.in_ok-execute-3.field-0 in
    step_then g.S.Store (RanState one) MakesTables (making_state ∷ []) (making_version ∷ beginning ∷ []) old first (RanLast m two three) last (Ok tt)
    (one_done g.S.Store (RanState one) making_state old first c.execute.ensures.survives one (λ clean inside. rw c.state_table.ensures at (c.in_ok-execute.ensures.runs clean inside)) (λ ran. ran))
    (step_then g.S.Store (RanVersion two) (RanLast m two three) (making_version ∷ []) (beginning ∷ []) first second (RanBegin three) last (Ok tt)
    (one_done g.S.Store (RanVersion two) making_version first second c.execute-2.ensures.survives two (λ clean inside. rw c.version_table.ensures at (c.in_ok-execute-2.ensures.runs clean inside)) (λ ran. ran))
    (one_done g.S.Store (RanBegin three) beginning second last c.execute-3.ensures.survives three (λ clean inside. c.in_ok-execute-3.ensures.runs clean inside) (λ ran. ran))
    (λ ran. ran.1.mode) (λ made begun. (made, begun)))
    (λ ran. ran.1.mode)
    (λ started more. record {
      free = free_by a.now.schema (free_inside state_text state_table state_makes a b _ started.0) (sym (others_stay a b _ started.0) ∙ free_inside version_text (version_made 0) version_makes b m _ more.0.0);
      holds = λ none.
          let standing = makes_state a b _ none started.0 in
          let ready = makes_version b m _ standing.0 standing.1 more.0.0 in
          (begins m d _ ready.0 ready.1 ready.2 more.1.0, begins_sound m d _ ready.0 more.1.0);
      inside = inside_then a m d (inside_then a b m started.1 more.0.1) more.1.1;
    })
