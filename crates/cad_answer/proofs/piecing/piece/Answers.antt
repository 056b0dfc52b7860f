use Rattle.std.proofs.Common.{◌≡◌, ◌∙◌, ◌+◌, ◌<◌, ◌^◌, List, ap, subst, sym, refl, arith, length, option_map}
use Rattle.std.specs.Prelude.{IfOk}
use Rattle.std.proofs.lemmas.List.Elements.{All-filter}
use Rattle.cad_feature.specs.Features.{Item}
use Rattle.cad_lookup.specs.Candidates.{is_candidate, candidates}
use Rattle.cad_run.specs.Slices.{identifier, later}
use Rattle.cad_run.specs.Owed.{page_in, IfPart}
use Rattle.cad_run.specs.Steps.{AreAmong}
use Rattle.cad_answer.specs.Answers.{restrictions_of, answers}
use Rattle.cad_answer.specs.Passing.{passes_query}
use Rattle.cad_answer.specs.inner.Left.{all_ahead, all_ascend, all_left}
use Rattle.cad_answer.proofs.AnswerLemmas.{passes_each}
use Rattle.cad_answer.proofs.PieceLemmas.{keeps_alike, smaller_told}
use Rattle.cad_answer.proofs.piecing.piece.Goals as goal

pub piece-requires : goal.piece-requires
piece-requires c k =
    let all = ap all_left c.new-source.ensures.source ∙ c.in_ok-all.ensures.left in
    let left = ap (λ (xs : List Item). length (later (option_map identifier c.args.search.now.after) xs)) all in
    let few = c.requires.few in
    ((refl, tt), (omega (arith, left, few), all_ascend c.new-source.result.source))

pub returns-clause-owes : goal.returns-clause-owes
returns-clause-owes c =
    let features = c.args.features.now in
    let query = c.args.query in
    let place = c.lifespan_place.result in
    let agrees = λ (x : Item). passes_query place query x ≡ answers features.collection (restrictions_of query) x in
    let all = ap all_left c.new-source.ensures.source ∙ c.in_ok-all.ensures.left in
    let keeps = rw (c.new-counting.ensures.test, all) at c.piece.ensures.owes in
    keeps_alike (passes_query place query) (answers features.collection (restrictions_of query)) (candidates c.args.plan.now features.features)
    (All-filter (is_candidate c.args.plan.now) agrees features.features
    (passes_each c.collection-collection.result features.collection place query features.features c.features_are_written.ensures c.collection-collection.ensures.listed c.collection-collection.ensures.collection c.lifespan_place.ensures c.requires.form))
    c.piece.result c.args.search.now c.piece.new.self (page_in c.piece.new.self) keeps

pub returns-clause-few : goal.returns-clause-few
returns-clause-few c =
    let all = ap all_left c.new-source.ensures.source ∙ c.in_ok-all.ensures.left in
    subst (λ (xs : List Item). IfOk c.piece.result (λ progress. IfPart progress (c.piece.new.self.examined + length (later (option_map identifier c.piece.new.self.after) xs) < 2 ^ 64))) all c.piece.ensures.few

pub returns-clause-smaller : goal.returns-clause-smaller
returns-clause-smaller c =
    let xs = c.args.features.now.features in
    let ahead = subst (λ (ys : List Item). AreAmong ys xs) (sym (ap all_ahead c.new-source.ensures.source)) c.in_ok-all.ensures.ahead in
    smaller_told c.piece.result c.args.search.now c.piece.new.self c.args.budget (all_ahead c.new-source.result.source) xs ahead c.piece.ensures.smaller
