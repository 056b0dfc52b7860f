use Rattle.std.proofs.Common.{◌≡◌, ◌∙◌}
use Rattle.cad_feature.specs.Features.{Item}
use Rattle.cql_lexer.specs.declared.token.Comparison.TheVariants.{Equal}
use Rattle.cql_rewrite.specs.Costs.{IsCounted}
use Rattle.cql_rewrite.specs.Meets.{meets}
use Rattle.cql_rewrite.proofs.MemberLemmas.{any_done, any_next, one_costs, sum_next}
use Rattle.cql_rewrite.proofs.members.equal_items.Goals as goal

pub loop-item-preserved : goal.loop-item-preserved
loop-item-preserved g c =
    let form = c.in-Some.form in
    let equal = g.T.Term.said Equal in
    let value = c.args.value.now in
    let items = c.args.items.now in
    let item = c.item-item.result in
    let i = c.loop-item.item-index in
    let old = c.loop-item.forms.items in
    let new = c.add_either.new.parts.items in
    let same : (x : Item) → meets x form ≡ (equal x value item).yes = λ x. rw c.in-Some.is at (c.in_ok-form.ensures.stands x) in
    let counted : IsCounted form = rw c.in-Some.is at c.in_ok-form.ensures.counted in
    record {
      stands = λ x. any_next equal value x old new form item items i c.loop-item-test.true c.item-item.is (c.in_ok-add_either-in-Some.ensures.stands x) (same x) (c.loop-item.invariant.stands x);
      costs = λ t. sum_next equal value t old new form item items i c.loop-item-test.true c.item-item.is (c.in_ok-add_either-in-Some.ensures.costs t) (one_costs equal value t form item counted same) (c.loop-item.invariant.costs t);
      atoms = c.in_ok-add_either-in-Some.ensures.atoms c.loop-item.invariant.atoms (rw c.in-Some.is at c.in_ok-form.ensures.atoms);
    }

pub returns-clause-stands : goal.returns-clause-stands
returns-clause-stands g c = λ x.
    c.some_of.ensures.stands x ∙ any_done (g.T.Term.said Equal) c.args.value.now x c.loop-item.forms.items c.args.items.now c.loop-item.item-index c.loop-item-test.false (c.loop-item.invariant.stands x)
