use Rattle.std.proofs.Common.{◌≡◌, map, take}
use Rattle.std.specs.List.{AllWithin}
use Rattle.std.specs.Option.{option_copied}
use Rattle.cad_feature.specs.Values.{datum_of}
use Rattle.cad_feature.specs.inner.WithNames.{value_with}
use Rattle.cad_feature.proofs.FeatureLemmas.{says, Fits}
use Rattle.cad_feature.proofs.flattening.feature.Given as goal

abbrev pub invariant-loop-property : goal.invariant-loop-property
invariant-loop-property l =
    let value = value_with l.version l.last (option_copied l.fn.unit_name) (option_copied l.fn.party_name) in
    record {
      said : map datum_of l.values.items ≡ map (says value) (take l.property-index l.properties);
      fit : AllWithin (Fits value) l.properties 0 l.property-index;
    }
