-- Recent changes to features that are in indexes (own profile).
use Rattle.std.specs.Prelude.{◌≡◌}
use Rattle.std.specs.List.{AllByRecursion}
use Rattle.cad_extents.specs.Extents.{IsWithin}
use Rattle.cad_feature.specs.Features.{AreFeaturesOf, by_identifier}
use Rattle.cad_index.specs.Layers.{LayerFeatures}
use Rattle.cad_layer.specs.declared.recent.Recent.{Recent}
use Rattle.cad_layer.specs.inner.Replaced.{replaced_in}
use Rattle.cad_layer.specs.Walks.{all_in}

-- changes to these features of a collection, with the features that they replace; all lie within the extents
abbrev pub AreRecent : LayerFeatures → Recent → Type 0
AreRecent f r = AreFeaturesOf f.collection f.features × AreFeaturesOf f.collection r.changes.items × (r.replaced.items ≡ replaced_in by_identifier f.features r.changes.items) × AllByRecursion (IsWithin r.extents) (all_in f.features r.changes.items)
