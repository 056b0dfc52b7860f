use Rattle.std.proofs.Common.{◌∙◌, Some}
use Rattle.cad_feature.specs.Features.{datum_at}
use Rattle.cql_text.specs.Fronts.{text_of}
use Rattle.cql_meaning.specs.lemmas.TermLemmas.{text_Constant, text_Property}
use Rattle.cql_meaning.specs.Values.{text_in}
use Rattle.cql_rewrite.specs.Terms.{turned_of}
use Rattle.cql_rewrite.proofs.Turns.{flipped_texts, known_text}
use Rattle.cql_rewrite.proofs.terms.plain_texts.Goals as goal

pub returns-in_ok-text-in-Constant-Property-clause-says : goal.returns-in_ok-text-in-Constant-Property-clause-says
returns-in_ok-text-in-Constant-Property-clause-says c = λ x.
    let k = c.in-Constant-Property in
    rw (c.turned.ensures, k.is-0, k.is-1, text_Constant x k.text, text_Property x k.property, c.in_ok-text-in-Constant-Property.ensures)
    (known_text (turned_of c.args.by) (datum_at x k.property) (text_of k.text) ∙ flipped_texts c.args.by (Some (text_of k.text)) (text_in (datum_at x k.property)))
