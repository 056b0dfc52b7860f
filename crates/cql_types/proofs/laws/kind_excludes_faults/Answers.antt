use Rattle.cql_types.proofs.Faults.{no_fault}
use Rattle.cql_types.proofs.laws.kind_excludes_faults.Goals as goal

pub returns : goal.returns
returns c = λ s t k f h w. no_fault h w
