use Rattle.std.proofs.Common.{filter}
use Rattle.cad_versions.specs.lemmas.ListLemmas.{map-map}
use Rattle.cad_feature.specs.Features.{identifier_of}
use Rattle.cad_feature.specs.Flatten.{is_in, feature_in}
use Rattle.cad_feature.proofs.laws.each_version_is_one_feature.Goals as goal

pub returns : goal.returns
returns c = λ vs. map-map identifier_of (feature_in vs c.args.collection) (filter (is_in c.args.collection) vs)
