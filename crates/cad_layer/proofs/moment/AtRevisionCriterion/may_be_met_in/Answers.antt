use Rattle.std.proofs.Common.{◌≡◌, ◌&&◌, Bool, true, false, refl}
use Rattle.cad_index.specs.Moments.{is_shown_at}
use Rattle.cad_layer.proofs.moment.AtRevisionCriterion.may_be_met_in.Goals as goal

none : (a b : Bool) → b ≡ false → (a && b) ≡ false
none true b e = e
none false b e = refl

pub returns : goal.returns
returns g c = λ e x within. none (is_shown_at c.args.self.now.revision x) (g.T.Criterion.passes c.args.self.now.criterion.now x) (c.may_be_met_in.ensures e x within)
