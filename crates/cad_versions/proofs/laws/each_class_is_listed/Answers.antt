use Rattle.cad_versions.specs.lemmas.BodyLemmas.{each_class_is_listed}
use Rattle.cad_versions.proofs.laws.each_class_is_listed.Goals as goal

pub returns : goal.returns
returns c = each_class_is_listed
