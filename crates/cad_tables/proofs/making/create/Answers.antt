use Rattle.std.proofs.Common.{◌≡◌, IsTrue, inl, inr, refl, rules, false, sym, ◌∙◌, arith}
use Rattle.sqlite.specs.State.{HasCleanDisk}
use Rattle.sqlite.specs.Held.{state}
use Rattle.sqlite.specs.declared.error.Error.TheVariants.{SqliteFailure}
use Rattle.sqlite.specs.declared.error.ErrorCode.TheVariants.{TransactionState}
use Rattle.cad_tables.proofs.RefusalLemmas.{told}
use Rattle.cad_tables.specs.lemmas.SettledLemmas.{settled_by}
use Rattle.cad_tables.proofs.making.create.Goals as goal

pub returns-then-not-is_autocommit-clause-keeps : goal.returns-then-not-is_autocommit-clause-keeps
returns-then-not-is_autocommit-clause-keeps g c = record {
  neither = search rules;
  refused = λ clean.
      let within : IsTrue c.args.conn.now.in_transaction = search rules in
      (SqliteFailure TransactionState, refl, inl (within, refl));
  mode = search rules;
  crash = search rules;
}

pub returns-in_err-make-clause-keeps : goal.returns-in_err-make-clause-keeps
returns-in_err-make-clause-keeps g c = record {
  neither = search rules;
  refused = λ clean.
      let mid = c.is_standing.new.conn in
      let before : HasCleanDisk (state g.S.Store mid) = omega (arith, c.make.ensures.keeps.crash.clean) in
      let no : c.in_ok-is_standing.field-0 ≡ false = search rules in
      let why = c.in_err-make.ensures.keeps.refused clean in
      let e = why.0 in
      told _ c.from_residual-in_err-make.result c.in_err-make.field-0.0 c.from_residual-in_err-make.ensures.1
      (e, why.1, inr (inr (mid, sym (c.in_ok-is_standing.ensures.known before) ∙ no, settled_by g.S.Store c.args.conn.now mid _ (c.in_ok-is_standing.ensures.reads.same before) c.in_ok-is_standing.ensures.reads.survives, why.2)));
  mode = search rules;
  crash = search rules;
}
