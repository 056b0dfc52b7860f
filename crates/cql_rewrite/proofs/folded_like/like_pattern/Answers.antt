use Rattle.std.proofs.Common.{◌≡◌, ◌∙◌, Some}
use Rattle.cad_feature.specs.Features.{datum_at}
use Rattle.cql_text.specs.Fronts.{text_of}
use Rattle.cql_meaning.specs.Values.{text_in, text_value}
use Rattle.cql_rewrite.proofs.AtomLemmas.{plain_LikeFolded}
use Rattle.cql_rewrite.proofs.FoldedTexts.{liked_said}
use Rattle.cql_rewrite.proofs.Forms.{meets_LikeFolded}
use Rattle.cql_rewrite.proofs.folded_like.like_pattern.Goals as goal

pub returns-in-Some-clause-stands : goal.returns-in-Some-clause-stands
returns-in-Some-clause-stands c = λ x.
    let known : Some (text_of c.in-Some.text) ≡ text_value x c.args.pattern.now = rw c.in-Some.is at (c.in_ok-text.ensures x) in
    rw (c.new.ensures, ← known) (meets_LikeFolded x (record { property = c.args.property; pattern = text_of c.in-Some.text }) ∙ liked_said (text_in (datum_at x c.args.property)) (text_of c.in-Some.text))

pub returns-in-Some-clause-atoms : goal.returns-in-Some-clause-atoms
returns-in-Some-clause-atoms c = plain_LikeFolded c.new.result
