use Rattle.std.proofs.Common.{◌≡◌, ◌∙◌, ◌&&◌, ℕ, Bool, List, filter, length, ap, sym}
use Rattle.cad_feature.specs.Features.{Item}
use Rattle.cad_index.specs.Moments.{is_shown_at, rows_at}
use Rattle.cad_index.specs.lemmas.MomentLemmas.{filters_joined}
use Rattle.cad_layer.proofs.moment.AtRevisionCriterion.count_in.Goals as goal

-- where the rows at the revision are these
all_of : (revision : ℕ) (p : Item → Bool) (xs ys : List Item) → rows_at revision xs ≡ ys → length (filter p ys) ≡ length (filter (λ x. is_shown_at revision x && p x) xs)
all_of revision p xs ys is = ap (λ l. length (filter p l)) (sym is) ∙ ap length (sym (filters_joined p (is_shown_at revision) xs))

pub returns-in-Nothing : goal.returns-in-Nothing
returns-in-Nothing g c = all_of c.args.self.now.revision (g.T.Criterion.passes c.args.self.now.criterion.now) c.args.base.now.features _ c.in-Nothing.ensures

pub returns-in-Part : goal.returns-in-Part
returns-in-Part g c = c.count_in_at.ensures ∙ ap length (sym (filters_joined (g.T.Criterion.passes c.args.self.now.criterion.now) (is_shown_at c.args.self.now.revision) c.args.base.now.features))

pub returns-in-Everything : goal.returns-in-Everything
returns-in-Everything g c =
    c.count_in.ensures ∙ all_of c.args.self.now.revision (g.T.Criterion.passes c.args.self.now.criterion.now) c.args.base.now.features _ c.in-Everything.ensures
