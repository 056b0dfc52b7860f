use Rattle.std.proofs.Common.{◌≡◌, map, take, filter}
use Rattle.std.specs.List.{All}
use Rattle.cad_feature.specs.Features.{IsNumbered, IsFeatureOf}
use Rattle.cad_feature.specs.Flatten.{is_in, feature_in}
use Rattle.cad_feature.proofs.flattening.flatten.Given as goal

abbrev pub invariant-loop-version : goal.invariant-loop-version
invariant-loop-version l = record {
  so_far : l.features.items ≡ map (feature_in l.versions l.collection) (filter (is_in l.collection) (take l.version-index l.rest));
  numbered : All IsNumbered l.features.items;
  each : All (IsFeatureOf l.collection) l.features.items;
}
