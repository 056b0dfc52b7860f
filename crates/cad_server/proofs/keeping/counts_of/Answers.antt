use Rattle.std.proofs.Common.{length, rules}
use Rattle.cad_versions.specs.AsOf.{as_of}
use Rattle.cad_feature.specs.Flatten.{features_in}
use Rattle.cad_schema.specs.Collections.{collections}
use Rattle.cad_server.proofs.CountLemmas.{mapped}
use Rattle.cad_server.proofs.keeping.counts_of.Goals as goal

pub returns : goal.returns
returns c = λ commands accepted shown.
    mapped _ _ (λ collection. length (features_in (as_of (length commands) commands) collection)) (λ collection count next called. search rules) collections _ c.map.ensures.items
