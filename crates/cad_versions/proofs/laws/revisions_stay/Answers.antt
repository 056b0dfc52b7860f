use Rattle.std.proofs.Common.{ap}
use Rattle.std.proofs.lemmas.List.{take-append-le}
use Rattle.cad_versions.specs.Sorting.{sort_by}
use Rattle.cad_versions.specs.Versions.{versions}
use Rattle.cad_versions.specs.Identifiers.{by_identifier}
use Rattle.cad_versions.proofs.laws.revisions_stay.Goals as goal

pub returns : goal.returns
returns c commands later revision h = ap (λ cs. sort_by by_identifier (versions cs)) (take-append-le revision commands later h)
