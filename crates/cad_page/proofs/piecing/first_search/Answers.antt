use Rattle.std.proofs.Common.{◌≡◌, ◌<◌, ◌^◌, ℤ, Option, ap, subst, length, arith}
use Rattle.std.specs.Prelude.{option_map}
use Rattle.cad_versions.specs.lemmas.ListLemmas.{filter_fewer}
use Rattle.cad_run.specs.Slices.{identifier, is_later}
use Rattle.cad_history.specs.Snapshots.{features_at}
use Rattle.cad_answer.specs.Answers.{answers}
use Rattle.cad_run.specs.Owed.{owes, page_after}
use Rattle.cad_page.specs.Pages.{restrictions}
use Rattle.cad_page.specs.Plans.{candidates_in}
use Rattle.cad_page.proofs.PieceLemmas.{few_at_first}
use Rattle.cad_page.proofs.piecing.first_search.Goals as goal

pub returns-clause-search : goal.returns-clause-search
returns-clause-search c =
    let ask = c.args.ask.now in
    let snapshot = c.args.snapshot.now in
    let search = c.new.result in
    let passes = answers ask.collection (restrictions ask) in
    let all = candidates_in c.args.plan.now ask snapshot in
    let few : length (features_at snapshot ask.collection) < 2 ^ 64 =
    let same = ap length c.features-features.ensures.features in
    let count = c.count-count.ensures in
    let most = c.count-count.type_inv in
    omega (arith, same, count, most) in
    record {
      covers = c.requires;
      owed = subst (λ (last : Option (ℤ × ℤ)). owes passes all search ≡ page_after passes last ask.selection.limit all) c.after_in.ensures (c.new.ensures.owes passes all);
      few = few_at_first c.args.plan.now search (features_at snapshot ask.collection) c.new.ensures.none.0 few;
    }

pub returns-clause-remaining : goal.returns-clause-remaining
returns-clause-remaining c = filter_fewer (is_later (option_map identifier c.new.result.after)) (features_at c.args.snapshot.now c.args.ask.now.collection)
