use Rattle.std.proofs.Common.{inl, IsTrue}
use Rattle.sqlite.specs.declared.error.Error.TheVariants.{SqliteFailure}
use Rattle.sqlite.specs.declared.error.ErrorCode.TheVariants.{TransactionState}
use Rattle.cad_tables.specs.Faults.{fault_of}
use Rattle.std.proofs.Common.{refl}
use Rattle.std.proofs.Common.{◌≤◌}
use Rattle.sqlite.specs.Steps.{FailsToCommit}
use Rattle.cad_tables.specs.Refusals.{all_statements_of}
use Rattle.cad_tables.proofs.RefusalLemmas.{told}
use Rattle.std.proofs.Common.{◌≡◌, subst, arith, rules}
use Rattle.sqlite.specs.State.{HasCleanDisk, Survives}
use Rattle.sqlite.specs.Held.{state}
use Rattle.cad_tables.specs.Steps.{Commits, CommitsTo}
use Rattle.cad_tables.proofs.TransactionLemmas.{commits, crashes, statement_refused, commit_refused}
use Rattle.cad_tables.proofs.writing.write.Goals as goal

pub returns-clause-wrote : goal.returns-clause-wrote
returns-clause-wrote g c clean =
    let begun = c.transaction-tx.ensures.begun in
    let same : c.commit.new.self.0 ≡ c.conn-2-1.given.0 = search rules in
    let late : HasCleanDisk (state g.S.Store c.commit.new.self.0) = search rules in
    let made = c.in_ok-change_all.ensures.step.does (omega (arith, c.commit.ensures.survives.clean)) (rw begun) in
    subst (λ h. Commits g.L.Stored.line c.args.change.now c.args.revision (state g.S.Store c.args.conn.now) (state g.S.Store h)) same
    (commits g.S.Store g.L.Stored.line c.args.conn.now c.transaction-tx.result.conn.now c.change_all.new.tx.conn.now c.commit.new.self.0 c.args.change.now c.args.revision begun made (c.in_ok-commit.ensures.ok late).1)

pub returns-clause-keeps : goal.returns-clause-keeps
returns-clause-keeps g c =
    let begun = c.transaction-tx.ensures.begun in
    record {
      neither = search rules;
      refused = search rules;
      mode = search rules;
      crash =
          let same : c.commit.new.self.0 ≡ c.conn-2-1.given.0 = search rules in
          subst (λ h. Survives (state g.S.Store c.args.conn.now) (state g.S.Store h) (CommitsTo g.L.Stored.line c.args.change.now c.args.revision (state g.S.Store c.args.conn.now))) same
          (crashes g.S.Store g.L.Stored.line c.args.conn.now c.transaction-tx.result.conn.now c.change_all.new.tx.conn.now c.commit.new.self.0 c.args.change.now c.args.revision begun
          (λ clean. c.in_ok-change_all.ensures.step.does clean (rw begun)) c.change_all.ensures.step.survives c.commit.ensures.survives);
    }

pub returns-in_err-commit-clause-keeps : goal.returns-in_err-commit-clause-keeps
returns-in_err-commit-clause-keeps g c =
    let begun = c.transaction-tx.ensures.begun in
    let last = c.change_all.new.tx.conn.now in
    let e = c.in_err-commit.field-0.0 in
    record {
      neither = search rules;
      refused = λ clean.
          let early : HasCleanDisk (state g.S.Store last) = search rules in
          let fails : FailsToCommit (state g.S.Store last) (state g.S.Store c.conn-2-1.given.0) e = search rules in
          let statements = all_statements_of g.L.Stored.line c.args.change.now c.args.revision in
          told _ c.from_residual-in_err-commit.result (fault_of e) c.from_residual-in_err-commit.ensures.1
          (e, refl, commit_refused g.S.Store c.args.conn.now c.transaction-tx.result.conn.now last c.conn-2-1.given.0 begun _ statements (c.in_ok-change_all.ensures.step.ran early (rw begun)) fails);
      mode = search rules;
      crash =
          let same : c.commit.new.self.0 ≡ c.conn-2-1.given.0 = search rules in
          subst (λ h. Survives (state g.S.Store c.args.conn.now) (state g.S.Store h) (CommitsTo g.L.Stored.line c.args.change.now c.args.revision (state g.S.Store c.args.conn.now))) same
          (crashes g.S.Store g.L.Stored.line c.args.conn.now c.transaction-tx.result.conn.now last c.commit.new.self.0 c.args.change.now c.args.revision begun
          (λ clean. c.in_ok-change_all.ensures.step.does clean (rw begun)) c.change_all.ensures.step.survives c.commit.ensures.survives);
    }

pub returns-in_err-change_all-clause-keeps : goal.returns-in_err-change_all-clause-keeps
returns-in_err-change_all-clause-keeps g c = record {
  neither = search rules;
  refused = λ clean.
      let begun = c.transaction-tx.ensures.begun in
      let last = c.change_all.new.tx.conn.now in
      let e = c.in_err-change_all.field-0.0 in
      let early : HasCleanDisk (state g.S.Store last) = search rules in
      let up : (state g.S.Store last).faults ≤ (state g.S.Store c.conn-1.given.0).faults = search rules in
      let statements = all_statements_of g.L.Stored.line c.args.change.now c.args.revision in
      told _ c.from_residual.result (fault_of e) c.from_residual.ensures.1
      (e, refl, statement_refused g.S.Store c.args.conn.now c.transaction-tx.result.conn.now last c.conn-1.given.0 begun _ statements (c.in_err-change_all.ensures.step.refused early (rw begun)) up);
  mode = search rules;
  crash = search rules;
}

pub returns-then-not-is_autocommit-clause-keeps : goal.returns-then-not-is_autocommit-clause-keeps
returns-then-not-is_autocommit-clause-keeps g c = record {
  neither = search rules;
  refused = λ clean.
      let within : IsTrue c.args.conn.now.in_transaction = search rules in
      (SqliteFailure TransactionState, refl, inl (within, refl));
  mode = search rules;
  crash = search rules;
}
