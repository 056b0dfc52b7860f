use Rattle.std.proofs.Common.{◌∙◌, sym, subst, to_z-of_z, w64, FitsSigned}
use Rattle.cad_shape.specs.Coordinates.{IsCoordinate}
use Rattle.cad_versions.specs.lemmas.ShapeLemmas.{x_at_front, y_at_front, too_short, first_is_long}
use Rattle.cad_versions.proofs.ring_bytes.first_corner.Goals as goal

pub returns-in_err-x : goal.returns-in_err-x
returns-in_err-x c = rw c.from_residual.ensures (λ corner rest e. first_is_long c.args.bytes.now corner rest c.in_err-x.ensures e)

pub returns-in_err-y : goal.returns-in_err-y
returns-in_err-y c =
    rw c.from_residual-in_err-y.ensures (λ corner rest e.
    let here = x_at_front c.args.bytes.now c.in_ok-x.rest.now c.in_ok-x.x corner rest c.in_ok-x.ensures.1 c.in_ok-x.ensures.0 e in
    too_short c.in_ok-x.rest.now corner.y rest c.in_err-y.ensures here.1)

pub returns-in_err-corner : goal.returns-in_err-corner
returns-in_err-corner c =
    rw c.from_residual-in_err-corner.ensures (λ corner rest e.
    let fits_x : FitsSigned w64 c.in_ok-x.x = c.in_ok-x.ensures.1 in
    let fits_y : FitsSigned w64 c.in_ok-y.y = c.in_ok-y.ensures.1 in
    let x = x_at_front c.args.bytes.now c.in_ok-x.rest.now c.in_ok-x.x corner rest fits_x c.in_ok-x.ensures.0 e in
    let y = y_at_front c.in_ok-x.rest.now rest c.in_ok-y.y c.in_ok-y.rest.now corner fits_y c.in_ok-y.ensures.0 x.1 in
    c.in_err-corner.ensures (subst IsCoordinate (sym (to_z-of_z fits_x ∙ x.0)) corner.x_in_range, subst IsCoordinate (sym (to_z-of_z fits_y ∙ y.0)) corner.y_in_range))
