use Rattle.std.proofs.Common.{append-nil, []}
use Rattle.cql_text.specs.Likeness.{any_number, nothing}
use Rattle.cql_text.proofs.laws.any_number_takes_all.Goals as goal

pub returns : goal.returns
returns c = λ text. rw (append-nil text) at (any_number [] text [] nothing)
