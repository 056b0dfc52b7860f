use Rattle.std.proofs.Common.{◌≡◌, ◌≤◌, refl, rules, subst}
use Rattle.sqlite.specs.State.{HasCleanDisk, Survives}
use Rattle.sqlite.specs.Steps.{FailsToCommit}
use Rattle.sqlite.specs.Held.{state}
use Rattle.cad_tables.specs.Faults.{fault_of}
use Rattle.cad_tables.specs.Refusals.{creating}
use Rattle.cad_tables.specs.Steps.{CreatesTo}
use Rattle.cad_tables.proofs.RefusalLemmas.{told}
use Rattle.cad_tables.proofs.TransactionLemmas.{statement_refused, commit_refused, crashes_creating}
use Rattle.cad_tables.proofs.making.make.Goals as goal

pub returns-in_err-make_tables-clause-keeps : goal.returns-in_err-make_tables-clause-keeps
returns-in_err-make_tables-clause-keeps g c = record {
  neither = search rules;
  refused = λ clean.
      let begun = c.transaction-tx.ensures.begun in
      let last = c.make_tables.new.tx.conn.now in
      let ended = c.conn-1.given.0 in
      let early : HasCleanDisk (state g.S.Store last) = search rules in
      let up : (state g.S.Store last).faults ≤ (state g.S.Store ended).faults = search rules in
      let e = c.in_err-make_tables.field-0.0 in
      told _ c.from_residual.result (fault_of e) c.from_residual.ensures.1
      (e, refl, statement_refused g.S.Store c.args.conn.now c.transaction-tx.result.conn.now last ended begun e creating (c.in_err-make_tables.ensures.step.refused early (rw begun)) up);
  mode = search rules;
  crash = search rules;
}

pub returns-in_err-commit-clause-keeps : goal.returns-in_err-commit-clause-keeps
returns-in_err-commit-clause-keeps g c =
    let begun = c.transaction-tx.ensures.begun in
    let last = c.make_tables.new.tx.conn.now in
    let ended = c.conn-2-1.given.0 in
    let e = c.in_err-commit.field-0.0 in
    record {
      neither = search rules;
      refused = λ clean.
          let early : HasCleanDisk (state g.S.Store last) = search rules in
          let fails : FailsToCommit (state g.S.Store last) (state g.S.Store ended) e = search rules in
          told _ c.from_residual-in_err-commit.result (fault_of e) c.from_residual-in_err-commit.ensures.1
          (e, refl, commit_refused g.S.Store c.args.conn.now c.transaction-tx.result.conn.now last ended begun e creating (c.in_ok-make_tables.ensures.step.ran early (rw begun)) fails);
      mode = search rules;
      crash =
          let same : c.commit.new.self.0 ≡ c.conn-2-1.given.0 = search rules in
          subst (λ h. Survives (state g.S.Store c.args.conn.now) (state g.S.Store h) (CreatesTo (state g.S.Store c.args.conn.now))) same
          (crashes_creating g.S.Store c.args.conn.now c.transaction-tx.result.conn.now last c.commit.new.self.0 begun
          (λ clean. c.in_ok-make_tables.ensures.step.does clean (rw begun)) c.make_tables.ensures.step.survives c.commit.ensures.survives);
    }

pub returns-clause-keeps : goal.returns-clause-keeps
returns-clause-keeps g c =
    let begun = c.transaction-tx.ensures.begun in
    record {
      neither = search rules;
      refused = search rules;
      mode = search rules;
      crash =
          let same : c.commit.new.self.0 ≡ c.conn-2-1.given.0 = search rules in
          subst (λ h. Survives (state g.S.Store c.args.conn.now) (state g.S.Store h) (CreatesTo (state g.S.Store c.args.conn.now))) same
          (crashes_creating g.S.Store c.args.conn.now c.transaction-tx.result.conn.now c.make_tables.new.tx.conn.now c.commit.new.self.0 begun
          (λ clean. c.in_ok-make_tables.ensures.step.does clean (rw begun)) c.make_tables.ensures.step.survives c.commit.ensures.survives);
    }
