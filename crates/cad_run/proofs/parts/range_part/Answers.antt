use Rattle.std.proofs.Common.{◌∙◌, ap}
use Rattle.cad_positions.specs.Has.{has_Empty}
use Rattle.cad_positions.specs.Held.{is_among}
use Rattle.cad_run.proofs.IndexLemmas.{range_has, range_rises}
use Rattle.cad_run.proofs.parts.range_part.Goals as goal

pub found_part-requires : goal.found_part-requires
found_part-requires c =
    let base = c.args.base.now in
    let is = rw c.in-Some.is at (c.range.ensures base.collection base.features c.indexes.ensures.listed c.indexes.ensures.indexes) in
    rw is (range_rises c.args.range.now base.features)

pub returns-in-None : goal.returns-in-None
returns-in-None c = λ k.
    let base = c.args.base.now in
    let is = rw c.in-None.is at (c.range.ensures base.collection base.features c.indexes.ensures.listed c.indexes.ensures.indexes) in
    ap (λ has. has k) has_Empty ∙ ap (λ rows. is_among rows k) is ∙ range_has c.args.range.now base.features k

pub returns-in_ok-part-in-Some : goal.returns-in_ok-part-in-Some
returns-in_ok-part-in-Some c = λ k.
    let base = c.args.base.now in
    let is = rw c.in-Some.is at (c.range.ensures base.collection base.features c.indexes.ensures.listed c.indexes.ensures.indexes) in
    c.in_ok-part-in-Some.ensures k ∙ ap (λ rows. is_among rows k) is ∙ range_has c.args.range.now base.features k
