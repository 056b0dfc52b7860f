use Rattle.cad_json.specs.lemmas.OrderLemmas.{features_in_order}
use Rattle.cad_json.proofs.laws.features_are_in_order.Goals as goal

pub returns : goal.returns
returns c collection xs = features_in_order collection xs
