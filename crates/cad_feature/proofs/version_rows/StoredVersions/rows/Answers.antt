use Rattle.std.proofs.Common.{◌≤◌, List, sym, ap, subst}
use Rattle.cad_versions.specs.Entries.{Entry}
use Rattle.cad_feature.specs.Features.{Item}
use Rattle.cad_feature.specs.VersionRows.{AreRowsOfVersion, RunOn}
use Rattle.cad_feature.specs.declared.period.Period.{Period}
use Rattle.cad_feature.proofs.RowLemmas.{is_row}
use Rattle.cad_feature.proofs.version_rows.StoredVersions.rows.Goals as goal

pub returns : goal.returns
returns c =
    let es = c.self.inside.entries.entries.now in
    let start = c.start_of-start.result in
    let row = c.in_ok-row.row in
    let period_is = ap (λ (x : Item). x.period) c.in_ok-row.ensures.row in
    subst (λ (entries : List Entry). AreRowsOfVersion c.args.newest entries c.args.collection c.args.entry.now c.in_ok-earlier.earlier.items row) c.self.view_is (record {
      each = c.in_ok-earlier.ensures.each c.args.newest;
      last = is_row es c.args.collection c.args.entry.now c.args.newest c.args.newest (record { start = start; end = 4294967295 }) row c.in_ok-row.ensures.row c.in_ok-row.ensures.fits c.start_of-start.ensures.stays (λ r k h. h);
      run = subst (λ n. RunOn c.args.entry.now.entered n c.in_ok-earlier.earlier.items) (sym (ap (λ (p : Period). p.start) period_is)) c.in_ok-earlier.ensures.run;
      begun = subst (λ (p : Period). p.start ≤ c.args.newest) (sym period_is) c.start_of-start.ensures.within;
      endless = ap (λ (p : Period). p.end) period_is;
    })
