use Rattle.cad_register.specs.Ledgers.{register_as_ledger}
use Rattle.cad_register.specs.lemmas.RemainingLemmas.{fails_before}
use Rattle.cadastred_run.specs.Readings.{register_as_journal}
use Rattle.cadastred_run.proofs.KeepingLemmas.{clean_before, keeps}
use Rattle.cadastred_run.proofs.file_hosting.host_register.Goals as goal

pub returns : goal.returns
returns g c = record {
  left = c.host_over-outcome.result.1;
  hosts = c.host_over-outcome.ensures;
  back = c.release.ensures;
  clean = clean_before (register_as_ledger g.S.Store) (register_as_journal g.S.Store) _ _ _ _ _ c.args.register c.host_over-outcome.result c.host_over-outcome.ensures;
  keeps = keeps (register_as_ledger g.S.Store) (register_as_journal g.S.Store) _ _ _ _ _ c.args.register c.host_over-outcome.result (fails_before g.S.Store) c.ledger_stands.ensures c.host_over-outcome.ensures;
}
