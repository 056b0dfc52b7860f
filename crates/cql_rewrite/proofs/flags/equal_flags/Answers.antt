use Rattle.std.proofs.Common.{◌≡◌, ◌∙◌, false, get_or}
use Rattle.std.proofs.lemmas.List.{get_or_default}
use Rattle.cql_types.specs.declared.filter.FlagTerm.TheVariants.{Constant}
use Rattle.cad_feature.specs.Features.{Item}
use Rattle.cql_lexer.specs.declared.token.Comparison.TheVariants.{Equal}
use Rattle.cql_rewrite.specs.Meets.{meets}
use Rattle.cql_rewrite.specs.Terms.{flag_sides}
use Rattle.cql_rewrite.proofs.MemberLemmas.{any_done, any_next}
use Rattle.cql_rewrite.proofs.flags.equal_flags.Goals as goal

pub loop-item-preserved : goal.loop-item-preserved
loop-item-preserved c =
    let form = c.in-Some.form in
    let value = c.args.value.now in
    let items = c.args.items.now in
    let i = c.loop-item.item-index in
    let item = get_or items i (Constant false) in
    let at : item ≡ get_or items i item = get_or_default items i (Constant false) item c.loop-item-test.true in
    let old = c.loop-item.forms.items in
    let new = c.add_either.new.parts.items in
    let same : (x : Item) → meets x form ≡ (flag_sides Equal x value item).yes = λ x. rw c.in-Some.is at (c.equal_flag-form.ensures.stands x) in
    record {
      stands = λ x. any_next (flag_sides Equal) value x old new form item items i c.loop-item-test.true at (c.in_ok-add_either-in-Some.ensures.stands x) (same x) (c.loop-item.invariant.stands x);
      atoms = c.in_ok-add_either-in-Some.ensures.atoms c.loop-item.invariant.atoms (rw c.in-Some.is at c.equal_flag-form.ensures.atoms);
    }

pub returns-clause-stands : goal.returns-clause-stands
returns-clause-stands c = λ x.
    c.some_of.ensures.stands x ∙ any_done (flag_sides Equal) c.args.value.now x c.loop-item.forms.items c.args.items.now c.loop-item.item-index c.loop-item-test.false (c.loop-item.invariant.stands x)
