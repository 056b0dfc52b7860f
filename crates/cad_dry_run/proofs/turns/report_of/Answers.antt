use Rattle.std.proofs.Common.{◌≤◌, ℕ, List, length, sym, subst, ◌∙◌}
use Rattle.cad_versions.specs.LedgerCalls.{Applies}
use Rattle.cad_office.specs.Lines.{longest_line}
use Rattle.cad_office.specs.lemmas.BufferLemmas.{buffered_text}
use Rattle.cad_dry_run.specs.Checking.{ReportsLine}
use Rattle.cad_dry_run.proofs.BufferedLemmas.{buffered_few}
use Rattle.cad_dry_run.proofs.turns.report_of.Goals as goal

pub returns-in-Buffered : goal.returns-in-Buffered
returns-in-Buffered g c = λ text stands.
    let is = sym c.state.ensures ∙ c.in-Buffered.is in
    let same = c.bytes.ensures ∙ buffered_text text _ _ stands is in
    let few : length c.bytes.result.now ≤ longest_line = subst (λ (line : List ℕ). length line ≤ longest_line) (sym same) (buffered_few text _ _ stands is) in
    subst (λ (line : List ℕ). ReportsLine (Applies g.L.Ledger) line c.args.ledger.now c.try_line.result c.try_line.new.ledger) same (c.try_line.ensures few)
