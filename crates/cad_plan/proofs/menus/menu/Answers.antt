use Rattle.std.proofs.Common.{◌∙◌, ap}
use Rattle.std.specs.List.{list_all}
use Rattle.cad_lookup.specs.Ways.{counts_of, is_found}
use Rattle.cad_plan.proofs.PlanLemmas.{all_found}
use Rattle.cad_plan.proofs.menus.menu.Goals as goal

pub returns-clause-covers : goal.returns-clause-covers
returns-clause-covers c = λ x h.
    all_found x c.in_ok-plans.plans.items ∙ ap (list_all (λ w. is_found w x)) c.in_ok-plans.ensures
    ∙ (c.menus_cover.ensures (counts_of c.args.features.now.features) c.args.form.now x h).0
