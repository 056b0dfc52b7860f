use Rattle.std.proofs.Common.{refl, ◌∙◌, sym, ap}
use Rattle.std.proofs.lemmas.List.{take_all}
use Rattle.std.proofs.lemmas.List.Elements.{All-push}
use Rattle.cad_feature.specs.Features.{IsNumbered, IsFeatureOf, by_identifier}
use Rattle.cad_feature.specs.Flatten.{is_in, feature_in}
use Rattle.cad_feature.proofs.ListLemmas.{kept_more, left_more, ascends_kept, from_first}
use Rattle.cad_feature.proofs.flattening.flatten.Goals.{then-is_in+in_ok-feature+in_ok-push, else-is_in}
use Rattle.cad_feature.proofs.flattening.flatten.Goals as goal

pub loop-version-preserved : goal.loop-version-preserved
loop-version-preserved c =
    let vs = c.args.versions.now in
    let rest = c.from_first-rest.result.now in
    let i = c.loop-version.version-index in
    let so_far = c.loop-version.invariant.so_far in
    elim c.if-is_in.branch [
      | then-is_in+in_ok-feature+in_ok-push w ↦ rw w.features-is (record {
        so_far = kept_more (feature_in vs c.args.collection) (is_in c.args.collection) rest i c.version-item.result c.loop-version.features.items _ _ c.loop-version-test.true c.version-item.is (sym c.is_in.ensures ∙ w.if-is_in.true) so_far w.in_ok-push.ensures.items (w.in_ok-feature.ensures.feature ∙ ap (λ us. feature_in us c.args.collection c.version-item.result) c.in_ok-objects.ensures);
        numbered = rw w.in_ok-push.ensures.items (All-push IsNumbered c.loop-version.features.items w.in_ok-feature.feature c.loop-version.invariant.numbered w.in_ok-feature.ensures.numbered);
        each = rw w.in_ok-push.ensures.items (All-push (IsFeatureOf c.args.collection) c.loop-version.features.items w.in_ok-feature.feature c.loop-version.invariant.each w.in_ok-feature.ensures.fits);
      })
      | else-is_in w ↦ rw w.features-is (record {
        so_far = left_more (feature_in vs c.args.collection) (is_in c.args.collection) rest i c.version-item.result _ c.loop-version-test.true c.version-item.is (sym c.is_in.ensures ∙ w.if-is_in.false) so_far;
        numbered = c.loop-version.invariant.numbered;
        each = c.loop-version.invariant.each;
      })
    ]

pub returns-clause-features : goal.returns-clause-features
returns-clause-features c =
    let vs = c.args.versions.now in
    let all = take_all c.loop-version.version-index c.from_first-rest.result.now c.loop-version-test.false in
    rw (c.loop-version.invariant.so_far, all, c.from_first-rest.ensures, from_first (is_in c.args.collection) vs) refl

pub returns-clause-listed : goal.returns-clause-listed
returns-clause-listed c =
    let vs = c.args.versions.now in
    let all = take_all c.loop-version.version-index c.from_first-rest.result.now c.loop-version-test.false in
    record {
      each = c.loop-version.invariant.each;
      ascending = rw (c.loop-version.invariant.so_far, all, c.from_first-rest.ensures, from_first (is_in c.args.collection) vs) (ascends_kept (feature_in vs c.args.collection) by_identifier (is_in c.args.collection) vs c.requires.ascending);
    }
