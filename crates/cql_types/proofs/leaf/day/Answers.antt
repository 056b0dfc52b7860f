use Rattle.std.proofs.Common.{refl, ◌∙◌, sym, ap}
use Rattle.cad_day.specs.Days.{number_of}
use Rattle.cql_types.specs.Kinds.{kind_of_day}
use Rattle.cql_types.specs.Contract.{leaf_first}
use Rattle.cql_types.specs.Means.{leaf_means, date}
use Rattle.std.specs.Option.{option_map}
use Rattle.cql_types.proofs.leaf.day.Goals as goal

pub returns-in-None : goal.returns-in-None
returns-in-None c = rw c.at.ensures (leaf_first (ap kind_of_day (sym c.read.ensures ∙ ap (option_map number_of) c.in-None.is)))

pub returns-in-Some : goal.returns-in-Some
returns-in-Some c = rw c.judged.ensures (record { place = refl; means = leaf_means (date _ (sym c.read.ensures ∙ ap (option_map number_of) c.in-Some.is)) })
