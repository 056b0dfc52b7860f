use Rattle.std.proofs.Common.{◌≡◌, Some, sym, ap, ◌∙◌}
use Rattle.std.proofs.lemmas.Option.{slice_get-get_or}
use Rattle.cad_shape.specs.declared.point.Point.{Point}
use Rattle.cad_shape.specs.lemmas.SameLemmas.{same_point}
use Rattle.cql_types.proofs.literal.begins_with.Goals as goal

pub returns-in-len1-up : goal.returns-in-len1-up
returns-in-len1-up c =
    let here = slice_get-get_or c.args.points.now 0 c.first-item.result c.in-len1-up.len_at_least ∙ ap Some (sym c.first-item.is) in (
      λ t. let parts = c.are_same.ensures.0 t in here ∙ ap Some (same_point c.first-item.result c.args.point parts.0 parts.1),
      λ e. let same : c.first-item.result ≡ c.args.point = let f = sym here ∙ e in cc in
          c.are_same.ensures.1 (ap (λ (p : Point). p.x) same, ap (λ (p : Point). p.y) same),
    )
