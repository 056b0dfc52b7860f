use Rattle.std.proofs.Common.{◌∙◌, ◌&&◌, ap, refl}
use Rattle.std.specs.Prelude.{option_map}
use Rattle.cad_feature.specs.Features.{datum_at}
use Rattle.cad_feature.specs.declared.range.Edge.TheVariants as edge
use Rattle.cad_feature.specs.declared.range.Range.{Range as RangeOf}
use Rattle.cad_feature.specs.declared.range.Scalar.TheVariants as scalar
use Rattle.cql_rewrite.specs.declared.form.Normal.TheVariants as form
use Rattle.cql_text.specs.Fronts.{text_of}
use Rattle.cql_meaning.specs.Values.{text_in}
use Rattle.cql_rewrite.specs.Meets.{is_liked}
use Rattle.cql_rewrite.proofs.Forms.{meets_Like, meets_Range}
use Rattle.cql_rewrite.proofs.FrontLemmas.{begun, exactly_like, front_lies, like_inside}
use Rattle.cql_rewrite.proofs.Least.{count_alike, least_Like, least_Range}
use Rattle.cql_rewrite.proofs.likes.front_form.Goals as goal

pub returns-then-is_exact-clause-stands : goal.returns-then-is_exact-clause-stands
returns-then-is_exact-clause-stands c = λ x.
    let range : RangeOf = record { property = c.args.property; low = edge.With (scalar.Text c.args.range.low); high = c.high_edge.result } in
    let pattern = text_of c.args.pattern in
    let low = text_of c.args.range.low in
    let end = option_map text_of c.args.range.end in
    meets_Range x.item range
    ∙ front_lies x range low end refl c.high_edge.ensures c.requires.begins
    ∙ exactly_like pattern low end c.args.range.is_exact c.requires c.if-is_exact.true (text_in (datum_at x.item c.args.property))

pub returns-then-is_exact-clause-costs : goal.returns-then-is_exact-clause-costs
returns-then-is_exact-clause-costs c = λ t.
    let range : RangeOf = record { property = c.args.property; low = edge.With (scalar.Text c.args.range.low); high = c.high_edge.result } in
    let pattern = text_of c.args.pattern in
    let low = text_of c.args.range.low in
    let end = option_map text_of c.args.range.end in
    begun t c.args.property low (form.Range range) (least_Range t range ∙ count_alike _ _ t (λ x. front_lies x range low end refl c.high_edge.ensures c.requires.begins))

pub returns-else-is_exact-clause-stands : goal.returns-else-is_exact-clause-stands
returns-else-is_exact-clause-stands c = λ x.
    let range : RangeOf = record { property = c.args.property; low = edge.With (scalar.Text c.args.range.low); high = c.high_edge.result } in
    let pattern = text_of c.args.pattern in
    let low = text_of c.args.range.low in
    let end = option_map text_of c.args.range.end in
    meets_Like x.item c.args.pattern range
    ∙ ap (λ b. b && is_liked (text_in (datum_at x.item c.args.property)) pattern) (front_lies x range low end refl c.high_edge.ensures c.requires.begins)
    ∙ like_inside pattern low end c.args.range.is_exact c.requires (text_in (datum_at x.item c.args.property))

pub returns-else-is_exact-clause-costs : goal.returns-else-is_exact-clause-costs
returns-else-is_exact-clause-costs c = λ t.
    let range : RangeOf = record { property = c.args.property; low = edge.With (scalar.Text c.args.range.low); high = c.high_edge.result } in
    let pattern = text_of c.args.pattern in
    let low = text_of c.args.range.low in
    let end = option_map text_of c.args.range.end in
    begun t c.args.property low (form.Like c.args.pattern range) (least_Like t c.args.pattern range ∙ count_alike _ _ t (λ x. front_lies x range low end refl c.high_edge.ensures c.requires.begins))
