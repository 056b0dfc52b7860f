use Rattle.std.proofs.Common.{◌∙◌, ap}
use Rattle.cad_grid.specs.Blocks.{block_of}
use Rattle.cad_positions.specs.Held.{is_among}
use Rattle.cad_run.proofs.IndexLemmas.{near_has, near_rises}
use Rattle.cad_run.proofs.parts.near_part.Goals as goal

pub listed-requires : goal.listed-requires
listed-requires c =
    let base = c.args.base.now in
    let is = c.in_ok-rows.ensures base.collection base.features c.indexes.ensures.listed c.indexes.ensures.indexes in
    rw is (near_rises c.args.property (block_of c.args.bounds) base.features)

pub returns : goal.returns
returns c = λ k.
    let base = c.args.base.now in
    let is = c.in_ok-rows.ensures base.collection base.features c.indexes.ensures.listed c.indexes.ensures.indexes in
    c.listed.ensures k ∙ ap (λ rows. is_among rows k) is ∙ near_has c.args.property (block_of c.args.bounds) base.features k
