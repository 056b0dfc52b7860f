use Rattle.std.proofs.Common.{◌≡◌, ◌<◌, ◌-◌, sym, ap, subst, arith}
use Rattle.std.specs.List.{AllByRecursion}
use Rattle.cad_versions.specs.Entries.{Entry}
use Rattle.cad_feature.specs.Features.{Item}
use Rattle.cad_feature.specs.VersionRows.{IsRowOf, RunOn}
use Rattle.cad_feature.proofs.RowLemmas.{is_row, run_more, all_more}
use Rattle.cad_feature.proofs.version_rows.earlier_rows.Goals as goal

pub loop-entry-preserved : goal.loop-entry-preserved
loop-entry-preserved c =
    let es = c.args.entries.now.entries.now in
    let entry = c.args.entry.now in
    let rows = c.loop-entry.rows.items in
    let start = c.start_of-start.result in
    let end = c.loop-entry.end in
    let row = c.in_ok-row.row in
    let entered_is = ap (λ (e : Entry). e.entered) c.entry.view_is in
    let less : start < end = omega (arith, c.start_of-start.ensures.within, c.loop-entry-test.true, c.from.ensures) in record {
      since = omega (arith, c.start_of-start.ensures.entered, entered_is);
      each = λ newest. all_more (IsRowOf newest es c.args.collection entry) row rows c.push.new.self.items c.in_ok-push.ensures.items
          (is_row es c.args.collection entry newest (end - 1) (record { start = start; end = end }) row c.in_ok-row.ensures.row c.in_ok-row.ensures.fits c.start_of-start.ensures.stays (λ r k h. omega (arith, k)))
          (c.loop-entry.invariant.each newest);
      run = run_more start end c.args.until row rows c.push.new.self.items (ap (λ (x : Item). x.period) c.in_ok-row.ensures.row) less c.in_ok-push.ensures.items c.loop-entry.invariant.run;
    }

pub returns-clause-each : goal.returns-clause-each
returns-clause-each c = λ newest. subst (AllByRecursion (IsRowOf newest c.args.entries.now.entries.now c.args.collection c.args.entry.now)) (sym c.reverse.ensures.items) (c.loop-entry.invariant.each newest)

pub returns-clause-run : goal.returns-clause-run
returns-clause-run c =
    let ended : c.loop-entry.end ≡ c.args.entry.now.entered = omega (arith, c.loop-entry-test.false, c.from.ensures, c.loop-entry.invariant.since, ap (λ (e : Entry). e.entered) c.entry.view_is) in
    subst (λ start. RunOn start c.args.until c.reverse.new.self.items) ended (subst (RunOn c.loop-entry.end c.args.until) (sym c.reverse.ensures.items) c.loop-entry.invariant.run)
