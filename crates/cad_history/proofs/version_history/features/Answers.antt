use Rattle.std.proofs.Common.{◌≡◌, ◌≤◌, ◌∙◌, length, filter, ap, arith}
use Rattle.std.proofs.lemmas.List.{length-map}
use Rattle.std.proofs.lemmas.List.Sums.{count_by-le-length, length-filter}
use Rattle.cad_feature.specs.Flatten.{feature_in, is_in}
use Rattle.cad_history.proofs.BuiltLemmas.{newest_rows}
use Rattle.cad_history.proofs.version_history.features.Goals as goal

pub returns : goal.returns
returns c =
    let vs = c.args.versions.now in
    let own = filter (is_in c.args.collection) vs in
    let many : length c.in_ok-features.features.items ≡ length own = ap length c.in_ok-features.ensures.features ∙ length-map own (feature_in vs c.args.collection) in
    let few : length c.in_ok-features.features.items ≤ 4294967295 = omega (arith, many, length-filter (is_in c.args.collection) vs, count_by-le-length (is_in c.args.collection) vs, c.requires.few) in
    record {
      all = c.in_ok-features.ensures.features;
      rows = newest_rows vs c.args.collection c.in_ok-features.features.items c.in_ok-features.ensures.features c.in_ok-features.ensures.listed few;
      few = few;
    }
