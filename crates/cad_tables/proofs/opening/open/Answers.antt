use Rattle.std.proofs.Common.{◌≡◌, inr, true, false, sym, subst, rules}
use Rattle.std.proofs.lemmas.Result.{IfOk-weaker}
use Rattle.sqlite.specs.State.{HasCleanDisk}
use Rattle.sqlite.specs.Held.{state}
use Rattle.cad_tables.specs.Holding.{Holds}
use Rattle.cad_tables.proofs.RefusalLemmas.{if_err_then}
use Rattle.cad_tables.proofs.OpeningLemmas.{no_columns_lacking, reads_then}
use Rattle.cad_tables.proofs.opening.open.Goals as goal

pub returns-then-branch-clause-reads : goal.returns-then-branch-clause-reads
returns-then-branch-clause-reads g c =
    reads_then (state g.S.Store c.args.conn.now) (state g.S.Store c.has_columns.new.conn) (state g.S.Store c.revision.new.conn) _ c.revision.result c.in_ok-has_columns.ensures.reads c.revision.ensures.reads

pub returns-then-branch-clause-stands : goal.returns-then-branch-clause-stands
returns-then-branch-clause-stands g c clean =
    let same = c.in_ok-has_columns.ensures.reads.same (c.revision.ensures.reads.clean clean) in
    IfOk-weaker c.revision.result _ _ (λ found told n lines has low. told n lines (subst (Holds n lines) (sym same.0.now_is) has) low) (c.revision.ensures.stands clean)

pub returns-then-branch-clause-found : goal.returns-then-branch-clause-found
returns-then-branch-clause-found g c clean =
    let early : HasCleanDisk (state g.S.Store c.has_columns.new.conn) = c.revision.ensures.reads.clean clean in
    let known : c.in_ok-has_columns.field-0 ≡ true = search rules in
    let reads = c.in_ok-has_columns.ensures.reads in
    IfOk-weaker c.revision.result _ _ (λ found told. inr (c.has_columns.new.conn, c.in_ok-has_columns.ensures.known early known, record { same = reads.same early; limit = reads.survives.limit; faults = reads.survives.counts }, told)) (c.revision.ensures.found clean)

pub returns-then-branch-clause-refused : goal.returns-then-branch-clause-refused
returns-then-branch-clause-refused g c clean =
    let early : HasCleanDisk (state g.S.Store c.has_columns.new.conn) = c.revision.ensures.reads.clean clean in
    let reads = c.in_ok-has_columns.ensures.reads in
    if_err_then c.revision.result (c.revision.ensures.refused clean) (λ fault told. inr (c.has_columns.new.conn, record { same = reads.same early; limit = reads.survives.limit; faults = reads.survives.counts }, told))

pub returns-else-branch-clause-stands : goal.returns-else-branch-clause-stands
returns-else-branch-clause-stands g c clean n lines has low =
    let known : c.in_ok-has_columns.field-0 ≡ false = search rules in
    absurd (no_columns_lacking n lines _ has (c.in_ok-has_columns.ensures.lacks clean known))
