use Rattle.std.proofs.Common.{sym}
use Rattle.cad_run.proofs.LeftLemmas.{all_later}
use Rattle.cad_run.proofs.segments_left.SegmentsLeft.new.Goals as goal

pub returns-clause-left : goal.returns-clause-left
returns-clause-left c = sym (all_later _)

pub returns-clause-ahead : goal.returns-clause-ahead
returns-clause-ahead c = sym (all_later _)
