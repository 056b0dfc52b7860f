use Rattle.std.proofs.Common.{◌∙◌, ap, sym}
use Rattle.std.proofs.Math.Logic.{∥∥₁_elim}
use Rattle.std.proofs.Props.{props}
use Rattle.cad_lookup.specs.Ways.{counts_of, way_of}
use Rattle.cad_plan.specs.Leaves.{leaf_counts}
use Rattle.cql_rewrite.specs.Menus.{choice}
use Rattle.cad_page.proofs.PlanLemmas.{all_covered}
use Rattle.cad_page.proofs.counted.counted_plan.Goals as goal

pub choose_counted-requires : goal.choose_counted-requires
choose_counted-requires c = c.requires.counts ∙ ap (λ xs. leaf_counts (counts_of xs) (way_of c.args.full.now)) (sym c.features-features.ensures.features)

pub returns-clause-covers : goal.returns-clause-covers
returns-clause-covers c =
    let ask = c.args.ask.now in
    let xs = c.features-features.result.features in
    let listed = rw (c.collection.ensures.collection, c.features-features.ensures.collection) at c.collection.ensures.listed in
    rw c.features-features.ensures.features at
    (∥∥₁_elim c.requires.full (Prim.hlevel props) (λ full. all_covered ask xs full.form c.in_ok-plan.plan c.features_are_written.ensures listed full.is_form (c.in_ok-plan.ensures.covers full.form full.way)))

pub returns-clause-chosen : goal.returns-clause-chosen
returns-clause-chosen c =
    ∥∥₁_elim c.requires.full (Prim.hlevel props) (λ full. ∣ record {
      form = full.form;
      is_form = full.is_form;
      way = c.in_ok-plan.ensures.way full.form full.way ∙ ap (λ xs. choice (counts_of xs) full.form) c.features-features.ensures.features;
    } ∣₁)
