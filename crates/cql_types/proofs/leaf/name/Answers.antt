use Rattle.std.proofs.Common.{refl, ◌∙◌, sym, ap}
use Rattle.cql_types.specs.Kinds.{kind_of_name}
use Rattle.cql_types.specs.Contract.{leaf_first}
use Rattle.cql_types.specs.Means.{leaf_means, property_name}
use Rattle.cql_types.proofs.leaf.name.Goals as goal

pub returns-in-None : goal.returns-in-None
returns-in-None c = rw c.at.ensures (leaf_first (ap kind_of_name (sym c.find_property.ensures ∙ c.in-None.is)))

pub returns-in-Some : goal.returns-in-Some
returns-in-Some c = rw (c.judged.ensures, c.property_node.ensures) (record { place = refl; means = leaf_means (property_name (sym c.find_property.ensures ∙ c.in-Some.is)) })
