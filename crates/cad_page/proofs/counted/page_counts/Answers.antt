use Rattle.std.proofs.Common.{List, subst, sym}
use Rattle.cad_feature.specs.Features.{Item}
use Rattle.cad_lookup.specs.Ways.{counts_of, way_of}
use Rattle.cad_plan.specs.Leaves.{AreFirstOf, leaf_counts}
use Rattle.cad_page.proofs.counted.page_counts.Goals as goal

pub count_some-requires : goal.count_some-requires
count_some-requires c = subst (λ (xs : List Item). AreFirstOf c.args.counts.now.items (leaf_counts (counts_of xs) (way_of c.args.full.now))) (sym c.features-features.ensures.features) c.requires
