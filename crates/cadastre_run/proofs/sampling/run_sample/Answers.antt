use Rattle.std.proofs.Common.{inr}
use Rattle.cadastre_run.proofs.sampling.run_sample.Goals as goal

pub returns : goal.returns
returns g c = inr (record {
  lent = c.in-Ok.connection;
  last = c.sample_over-outcome.result.1;
  empty = c.in-Ok.ensures.empty.2;
  runs = c.sample_over-outcome.ensures;
})
