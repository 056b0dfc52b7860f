use Rattle.cad_changes.proofs.TouchedLemmas.{touched_ascends, touched_stands}
use Rattle.cad_changes.proofs.laws.touched_is_listed.Goals as goal

pub returns-clause-order : goal.returns-clause-order
returns-clause-order c = touched_ascends

pub returns-clause-stands : goal.returns-clause-stands
returns-clause-stands c = touched_stands
