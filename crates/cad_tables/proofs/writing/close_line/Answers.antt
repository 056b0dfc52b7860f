use Rattle.std.proofs.Common.{pos, ◌∷◌, false, refl, sym, subst, []}
use Rattle.sqlite_value.specs.Order.{Row}
use Rattle.sqlite_value.specs.declared.value.Value.TheVariants.{Int}
use Rattle.sqlite_sql.specs.declared.ops.CompareOp.TheVariants.{Eq}
use Rattle.sqlite_typed.proofs.TestLemmas.{at_ints, at_is_null, then_term, last_term}
use Rattle.sqlite_value.proofs.OrderLemmas.{value_cmp-Null}
use Rattle.sqlite.specs.Held.{state}
use Rattle.cad_tables.specs.Holding.{Holds}
use Rattle.cad_tables.proofs.Writes.{closes}
use Rattle.cad_tables.specs.VersionRow.{VersionRow}
use Rattle.cad_tables.specs.Changes.{is_open_of, closed_line}
use Rattle.cad_tables.proofs.LineLemmas.{cut_at, map_cut}
use Rattle.cad_tables.specs.Refusals.{closing as the_closing}
use Rattle.cad_tables.specs.Steps.{Closes}
use Rattle.cad_tables.proofs.TakingLemmas.{one_done, one_refused}
use Rattle.cad_tables.proofs.writing.close_line.Goals as goal

pub returns-clause-step : goal.returns-clause-step
returns-clause-step g c =
    let k = c.args.closing in
    let revision = c.args.revision in
    let old = state g.S.Store c.args.tx.now.conn.now in
    let new = state g.S.Store c.execute.new.self.conn.now in
    let params : Row = Int (pos k.object) ∷ Int k.last ∷ Int (pos revision) ∷ [] in
    let test = λ (l : VersionRow). is_open_of k.object l in
    one_done g.S.Store (Closes k revision) (the_closing k revision) c.args.tx.now.conn.now c.execute.new.self.conn.now c.execute.ensures.survives c.in_ok-execute.field-0
    (λ clean inside. rw c.closing_cells.ensures at (c.in_ok-execute.ensures.runs clean inside))
    (λ ran. record {
      holds = λ n lines one has.
          let cut = cut_at test lines one.0 one.1 in
          let x = one.0 in
          subst (λ l. Holds n l new.now) (sym (map_cut test (closed_line k revision) lines x cut))
          (closes old new n cut.front cut.back x (closed_line k revision x) params _ (subst (λ l. Holds n l old.now) cut.is has)
          test (λ line. then_term (at_ints false Eq _ _) (last_term (at_is_null Int false (λ n. value_cmp-Null (Int n)) line.1.last))) cut.before cut.here cut.after (λ _. refl) ran.0);
      inside = ran.1;
    })

pub returns-in_err-execute-clause-step : goal.returns-in_err-execute-clause-step
returns-in_err-execute-clause-step g c =
    one_refused g.S.Store (Closes c.args.closing c.args.revision) (the_closing c.args.closing c.args.revision) c.args.tx.now.conn.now c.execute.new.self.conn.now c.execute.ensures.survives c.in_err-execute.field-0.0 c.from_residual.result c.from_residual.ensures.1
    (λ clean inside. rw c.closing_cells.ensures at (c.in_err-execute.ensures.runs clean inside))
