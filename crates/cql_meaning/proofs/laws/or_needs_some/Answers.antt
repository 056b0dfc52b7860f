use Rattle.std.proofs.Common.{ap, ◌∙◌}
use Rattle.std.proofs.lemmas.List.Folds.{list_all-map}
use Rattle.cql_meaning.specs.lemmas.NodeLemmas.{sides_Or}
use Rattle.cql_meaning.proofs.laws.or_needs_some.Goals as goal
use Rattle.cql_meaning.specs.lemmas.ListLemmas.{list_any-map}

pub returns : goal.returns
returns c = λ fs x.
    (ap (λ s. s.yes) (sides_Or x fs) ∙ list_any-map _ _ fs.items, ap (λ s. s.no) (sides_Or x fs) ∙ list_all-map _ _ fs.items)
