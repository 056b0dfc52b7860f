use Rattle.std.proofs.Common.{◌∙◌, ap, subst, sym}
use Rattle.cad_lookup.specs.WayLaws.{found_candidates}
use Rattle.cad_lookup.specs.Ways.{counts_of, is_found}
use Rattle.cql_rewrite.specs.Menus.{IsFirstOfLeast, menu}
use Rattle.cad_plan.specs.inner.Pruned.{pruned}
use Rattle.cad_plan.proofs.PrunedLemmas.{pruned_form}
use Rattle.cad_plan.proofs.WindowLemmas.{stand_whole}
use Rattle.cad_plan.proofs.choosing.choose_counted.Goals as goal

pub chosen-requires-clause-counts : goal.chosen-requires-clause-counts
chosen-requires-clause-counts c = stand_whole _ c.args.counts.now c.requires

pub returns-clause-way : goal.returns-clause-way
returns-clause-way c = λ form full.
    let counts = counts_of c.args.features.now.features in
    c.in_ok-chosen.ensures.way ∙ ap (pruned counts) (sym full) ∙ pruned_form counts form

pub returns-clause-least : goal.returns-clause-least
returns-clause-least c = λ form full.
    let counts = counts_of c.args.features.now.features in
    subst (λ w. IsFirstOfLeast counts w (menu counts form)) (sym (c.in_ok-chosen.ensures.way ∙ ap (pruned counts) (sym full) ∙ pruned_form counts form)) (c.choices_are_the_first_of_least.ensures counts form)

pub returns-clause-covers : goal.returns-clause-covers
returns-clause-covers c = λ form full x h.
    let counts = counts_of c.args.features.now.features in
    found_candidates c.in_ok-chosen.chosen.plan x ∙ ap (λ w. is_found w x) (c.in_ok-chosen.ensures.way ∙ ap (pruned counts) (sym full) ∙ pruned_form counts form)
    ∙ (c.menus_cover.ensures counts form x h).1
