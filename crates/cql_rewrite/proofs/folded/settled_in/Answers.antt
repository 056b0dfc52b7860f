use Rattle.std.proofs.Common.{◌∙◌}
use Rattle.cql_meaning.specs.lemmas.NodeLemmas.{sides_InText}
use Rattle.cql_meaning.specs.Values.{text_value}
use Rattle.cql_rewrite.proofs.FoldedLemmas.{among_alike}
use Rattle.cql_rewrite.proofs.AtomLemmas.{atom_InText}
use Rattle.cql_rewrite.proofs.folded.settled_in.Goals as goal

pub returns-clause-stands : goal.returns-clause-stands
returns-clause-stands c = λ x. sides_InText x c.in_ok-value.value c.in_ok-items.items
    ∙ among_alike x (text_value x c.in_ok-value.value) (text_value x c.args.value.now) c.in_ok-items.items.items c.args.items.now (c.in_ok-value.ensures x) (c.in_ok-items.ensures x)

pub returns-clause-atom : goal.returns-clause-atom
returns-clause-atom c = atom_InText c.in_ok-value.value c.in_ok-items.items
