use Rattle.cad_positions.proofs.ListedLemmas.{rises}
use Rattle.cad_positions.proofs.listed.Listed.of.Goals as goal

pub invariant_of-result-clause-ascending : goal.invariant_of-result-clause-ascending
invariant_of-result-clause-ascending c = rises c.args.rows.items c.requires
