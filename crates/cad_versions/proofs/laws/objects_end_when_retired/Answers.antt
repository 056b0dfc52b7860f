use Rattle.cad_versions.proofs.RetirementLemmas.{ends_when_retired}
use Rattle.cad_versions.proofs.laws.objects_end_when_retired.Goals as goal

pub returns : goal.returns
returns c commands accepted object = ends_when_retired commands accepted object
