use Rattle.std.proofs.Common.{◌∙◌, ap, sym}
use Rattle.cad_layer.specs.lemmas.MomentLemmas.{each_counted}
use Rattle.cad_lookup.specs.Ways.{how_many}
use Rattle.cad_history.specs.Rows.{rows_at}
use Rattle.cad_history.specs.inner.Counted.{is_counted}
use Rattle.cad_history.proofs.counting.count_rows.Goals as goal

pub returns-in-Every : goal.returns-in-Every
returns-in-Every c =
    let rows = rows_at c.args.revision c.args.layer.now.features in
    c.count_at.ensures ∙ sym (each_counted rows) ∙ ap (λ k. how_many (is_counted k) rows) (sym c.in-Every.is)

pub returns-in-Near : goal.returns-in-Near
returns-in-Near c =
    let rows = rows_at c.args.revision c.args.layer.now.features in
    c.count_near_at.ensures ∙ ap (λ k. how_many (is_counted k) rows) (sym c.in-Near.is)
