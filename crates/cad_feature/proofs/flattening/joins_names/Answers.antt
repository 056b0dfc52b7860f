use Rattle.std.proofs.Common.{◌∙◌, ap, rules, tests}
use Rattle.std.specs.List.{list_any}
use Rattle.std.proofs.lemmas.Iterator.{YieldsList-from_slice}
use Rattle.std.proofs.lemmas.Iterator.Search.{any_from_yields_List}
use Rattle.cad_schema.specs.Attributes.{attribute_of}
use Rattle.cad_feature.specs.inner.Joined.{is_joined}
use Rattle.cad_feature.proofs.ListLemmas.{list_any_mapped}
use Rattle.cad_feature.proofs.flattening.joins_names.Goals as goal

pub returns : goal.returns
returns c =
    let properties = c.schema-properties.result.now in
    any_from_yields_List (λ p. is_joined (attribute_of p)) _ _ _ c.any.ensures.ran (YieldsList-from_slice properties cc) (λ x b q k. search (rules, tests))
    ∙ list_any_mapped attribute_of is_joined properties ∙ ap (list_any is_joined) c.schema-properties.ensures.attributes
