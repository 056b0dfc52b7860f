use Rattle.std.proofs.Common.{List, ◌++◌, ap, refl}
use Rattle.cad_feature.specs.Features.{Item, by_identifier}
use Rattle.cad_layer.specs.lemmas.ItemLemmas.{rest_rises}
use Rattle.cad_run.specs.SegmentLeft.{segments_ahead, unopened_ahead}
use Rattle.cad_run.specs.lemmas.AheadLemmas.{among_same, first_goes_on}
use Rattle.cad_run.proofs.segments_left.SegmentsLeft.step.Goals as goal

pub returns-in-Some-clause-ascending : goal.returns-in-Some-clause-ascending
returns-in-Some-clause-ascending c =
    let old = c.args.self.now in
    rest_rises by_identifier c.in-Some.feature.now _ (segments_ahead old) (ap (λ (xs : List Item). xs ++ unopened_ahead old.after old.unopened.now) c.in-Some.ensures) c.requires.ascending

pub returns-in-Some-clause-onward : goal.returns-in-Some-clause-onward
returns-in-Some-clause-onward c =
    let old = c.args.self.now in
    first_goes_on c.in-Some.feature.now (segments_ahead old) (segments_ahead old) _ (ap (λ (xs : List Item). xs ++ unopened_ahead old.after old.unopened.now) c.in-Some.ensures) c.requires.ascending
    (among_same (segments_ahead old) (segments_ahead old) refl)
