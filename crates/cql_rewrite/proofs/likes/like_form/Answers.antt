use Rattle.std.proofs.Common.{◌≡◌, Some}
use Rattle.cad_feature.specs.Features.{datum_at}
use Rattle.cql_text.specs.Fronts.{text_of}
use Rattle.cql_meaning.specs.lemmas.TermLemmas.{text_Property}
use Rattle.cql_meaning.specs.Values.{text_in, text_value}
use Rattle.cql_rewrite.proofs.FrontLemmas.{liked_sides}
use Rattle.cql_rewrite.proofs.Least.{least_or_under}
use Rattle.cql_rewrite.proofs.likes.like_form.Goals as goal

pub returns-in_ok-form-in-Some-clause-stands : goal.returns-in_ok-form-in-Some-clause-stands
returns-in_ok-form-in-Some-clause-stands c = λ x.
    let k = c.in-Property-Folded in
    let known : Some (text_of c.in-Some.pattern) ≡ text_value x.item c.args.pattern.now = rw c.in-Some.is at (c.in_ok-known-in-Property-Folded.ensures x.item) in
    rw (k.is-0, text_Property x.item k.property, ← known, liked_sides (text_in (datum_at x.item k.property)) (text_of c.in-Some.pattern)) (c.in_ok-form-in-Some.ensures.stands x)

pub returns-in_ok-form-in-Some-clause-costs : goal.returns-in_ok-form-in-Some-clause-costs
returns-in_ok-form-in-Some-clause-costs c = λ t.
    let k = c.in-Property-Folded in
    rw (k.is-0, k.is-1) (least_or_under t c.in_ok-form-in-Some.form)
