use Rattle.std.proofs.Common.{refl, ◌∙◌, sym, ap, FitsSigned, w64, rules, to_z-of_z}
use Rattle.cql_types.specs.Kinds.{kind_of_number}
use Rattle.cql_types.specs.Contract.{leaf_first}
use Rattle.cql_types.specs.Means.{leaf_means}
use Rattle.cql_types.specs.Means as means
use Rattle.cql_types.proofs.leaf.number.Goals as goal

pub returns-in-Ok : goal.returns-in-Ok
returns-in-Ok c =
    let fits : FitsSigned w64 c.in-Ok.value = search rules in
    rw (c.judged.ensures, to_z-of_z fits) (record { place = refl; means = leaf_means (means.number (sym c.whole_number.ensures ∙ c.in-Ok.is)) })

pub returns-in-Err : goal.returns-in-Err
returns-in-Err c = rw c.at.ensures (leaf_first (ap kind_of_number (sym c.whole_number.ensures ∙ c.in-Err.is)))
