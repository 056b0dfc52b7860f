use Rattle.std.proofs.Common.{Err, Some, ap, ap₂, map, subst, sym, ◌∙◌}
use Rattle.std.proofs.lemmas.Result.{err_from_is_err_and}
use Rattle.std.specs.Rc.{rc_value}
use Rattle.cad_versions.specs.Entries.{version_in}
use Rattle.cad_stream.specs.Summaries.{highest_object}
use Rattle.cad_history.specs.Histories.{AreAllRowsOf}
use Rattle.cad_server.proofs.CallLemmas.{all_made, not_listed}
use Rattle.cad_server.proofs.records.Records.read.Goals as goal

pub returns-in_err-versions : goal.returns-in_err-versions
returns-in_err-versions g c =
    let p = err_from_is_err_and c.from_residual.result c.from_residual.ensures.1 in
    not_listed g.L.Ledger g.met.L.Ledger.were_accepted c.args.self.now c.stored_versions.new.self c.in_err-versions.field-0.0 c.from_residual.result (p.1 ∙ ap Err p.2) c.in_err-versions.ensures.kept
    c.in_err-versions.ensures.listed c.in_err-versions.ensures.noted

pub returns : goal.returns
returns g c =
    all_made g.L.Ledger g.met.L.Ledger.were_accepted c.args.self.now _ c.in_ok-versions.versions c.revision-newest.result (rc_value c.in_ok-histories-2.histories) _ c.revision-newest.ensures.counted c.in_ok-versions.ensures.listed
    (λ commands accepted all newest. subst (AreAllRowsOf commands) (sym c.in_ok-histories-2.ensures.ok) (c.in_ok-histories.ensures commands accepted (c.deref.ensures.value ∙ all) newest))
    (ap₂ (λ highest chain. record { highest_object = Some highest; chain = chain }) (c.highest_in.ensures ∙ ap (λ entries. highest_object (map version_in entries)) c.deref-2.ensures.value) (ap (λ totals. totals.chain) c.totals.ensures ∙ ap (λ kept. kept.totals.chain) c.in_ok-versions.ensures.kept))
    c.replace.ensures
