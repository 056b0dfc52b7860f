use Rattle.std.proofs.Common.{◌∙◌, ap, filter, Some}
use Rattle.cad_positions.specs.AllRows.{rows_of}
use Rattle.cad_positions.specs.Rest.{left_in}
use Rattle.cad_run.specs.Positions.{items_at}
use Rattle.cad_run.specs.Bases.{placed_left}
use Rattle.cad_run.specs.Slices.{identifier, is_later}
use Rattle.cad_run.specs.Sought.{is_in_time}
use Rattle.cad_run.specs.lemmas.TakenLemmas.{turned}
use Rattle.cad_run.proofs.PageLemmas.{rows_sought}
use Rattle.cad_run.proofs.bases.BasesIndexedSource.seek.Goals as goal

pub returns : goal.returns
returns c =
    let b = c.args.self.now in
    ap (filter (is_in_time b.revision))
    (ap (items_at b.features.now) c.seek.ensures
    ∙ rows_sought (is_later (Some (identifier c.args.last))) b.features.now c.first_later-start.result c.first_later-start.ensures.rest (rows_of (left_in b.rows)))
    ∙ turned (is_in_time b.revision) (is_later (Some (identifier c.args.last))) (placed_left b)
