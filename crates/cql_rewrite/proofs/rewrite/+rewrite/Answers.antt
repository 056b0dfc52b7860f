use Rattle.std.proofs.Common.{◌∙◌, ap, refl, arith}
use Rattle.std.proofs.lemmas.Grind.{common_steps}
use Rattle.std.proofs.lemmas.Result.{IfOk-weaker}
use Rattle.cql_meaning.specs.lemmas.NodeLemmas.{sides_Between, sides_Like, sides_CompareWhole, sides_CompareText, sides_CompareDay}
use Rattle.cql_rewrite.proofs.Least.{and_next, and_done, or_next}
use Rattle.cql_rewrite.proofs.Turns.{turns_And, turns_Not, turns_Or, whole_costs, text_costs, day_costs, between_costs, near_costs, not_costs, and_costs, or_costs, like_costs, whole_members, text_members, day_members, whole_members_cost, text_members_cost, day_members_cost, flag_members, flag_members_cost}
use Rattle.cql_rewrite.specs.Atoms.{is_atom}
use Rattle.cql_rewrite.proofs.AtomLemmas.{atom_Between, atom_CompareDay, atom_CompareText, atom_CompareWhole, atom_InDay, atom_InFlag, atom_InText, atom_InWhole, atom_Like}
use Rattle.cql_rewrite.proofs.Forms.{both_ok}
use Rattle.cql_rewrite.proofs.rewrite.+rewrite.Goals as goal

pub normal_parts-loop-part-preserved : goal.normal_parts-loop-part-preserved
normal_parts-loop-part-preserved m c = record {
  stands = λ x. grind (arith, common_steps, c.loop-part.invariant.stands x, c.in_ok-form.ensures.stands x, c.in_ok-add.ensures.stands x.item);
  costs = λ t. and_next c.args.side t c.loop-part.forms.items c.add.new.parts.items c.in_ok-form.form c.part-item.result c.args.parts.now c.loop-part.part-index c.loop-part-test.true c.part-item.is
      (c.in_ok-add.ensures.costs t) (c.in_ok-form.ensures.costs t) (c.loop-part.invariant.costs t);
  atoms = c.in_ok-add.ensures.atoms c.loop-part.invariant.atoms c.in_ok-form.ensures.atoms;
}

pub normal_parts-loop-part-else-all-preserved : goal.normal_parts-loop-part-else-all-preserved
normal_parts-loop-part-else-all-preserved m c = record {
  stands = λ x. grind (arith, common_steps, c.loop-part-else-all.invariant.stands x, c.in_ok-form-2.ensures.stands x, c.in_ok-add_either.ensures.stands x.item);
  costs = λ t. or_next c.args.side t c.loop-part-else-all.forms.items c.add_either.new.parts.items c.in_ok-form-2.form c.part-item-in-loop-part-else-all.result c.args.parts.now c.loop-part-else-all.part-index c.loop-part-else-all-test.true c.part-item-in-loop-part-else-all.is
      (c.in_ok-add_either.ensures.costs t) (c.in_ok-form-2.ensures.costs t) (c.loop-part-else-all.invariant.costs t);
  atoms = c.in_ok-add_either.ensures.atoms c.loop-part-else-all.invariant.atoms c.in_ok-form-2.ensures.atoms;
}

pub normal_parts-returns-after-loop-part-clause-stands : goal.normal_parts-returns-after-loop-part-clause-stands
normal_parts-returns-after-loop-part-clause-stands m c = λ x. rw c.if-all.true (grind (arith, common_steps, c.loop-part.invariant.stands x, c.all_of.ensures.stands x.item))

pub normal_parts-returns-after-loop-part-clause-costs : goal.normal_parts-returns-after-loop-part-clause-costs
normal_parts-returns-after-loop-part-clause-costs m c = λ t.
    rw c.if-all.true (and_done c.args.side t c.loop-part.forms.items c.all_of.result c.args.parts.now c.loop-part.part-index c.loop-part-test.false (c.all_of.ensures.costs t) (c.loop-part.invariant.costs t))

pub normal_parts-returns-after-loop-part-else-all-clause-stands : goal.normal_parts-returns-after-loop-part-else-all-clause-stands
normal_parts-returns-after-loop-part-else-all-clause-stands m c = λ x. rw c.if-all.false (grind (arith, common_steps, c.loop-part-else-all.invariant.stands x, c.some_of.ensures.stands x.item))

pub normal_side-returns-in-CompareWhole-clause-stands : goal.normal_side-returns-in-CompareWhole-clause-stands
normal_side-returns-in-CompareWhole-clause-stands m c =
    IfOk-weaker c.formed.result _ _ (λ n stands x. stands x (rw (c.in-CompareWhole.is, sides_CompareWhole) (c.plain_wholes.ensures.says x.item))) c.formed.ensures.stands

pub normal_side-returns-in-CompareWhole-clause-costs : goal.normal_side-returns-in-CompareWhole-clause-costs
normal_side-returns-in-CompareWhole-clause-costs m c =
    let k = c.in-CompareWhole in
    both_ok c.formed.result _ _ _ (λ n stands counts t. whole_costs c.args.side t n c.args.filter.now k.by k.left k.right k.is stands (λ e h. counts e (c.plain_wholes.ensures.exact h)))
    (normal_side-returns-in-CompareWhole-clause-stands m c) c.formed.ensures.costs

pub normal_side-returns-in_ok-plain-in-CompareText-clause-stands : goal.normal_side-returns-in_ok-plain-in-CompareText-clause-stands
normal_side-returns-in_ok-plain-in-CompareText-clause-stands m c =
    IfOk-weaker c.formed-in-CompareText.result _ _ (λ n stands x. stands x (rw (c.in-CompareText.is, sides_CompareText) (c.in_ok-plain-in-CompareText.ensures.says x.item))) c.formed-in-CompareText.ensures.stands

pub normal_side-returns-in_ok-plain-in-CompareText-clause-costs : goal.normal_side-returns-in_ok-plain-in-CompareText-clause-costs
normal_side-returns-in_ok-plain-in-CompareText-clause-costs m c =
    let k = c.in-CompareText in
    both_ok c.formed-in-CompareText.result _ _ _ (λ n stands counts t. text_costs c.args.side t n c.args.filter.now k.by k.left k.right k.is stands (λ e h. counts e (c.in_ok-plain-in-CompareText.ensures.exact h)))
    (normal_side-returns-in_ok-plain-in-CompareText-clause-stands m c) c.formed-in-CompareText.ensures.costs

pub normal_side-returns-in-CompareDay-clause-stands : goal.normal_side-returns-in-CompareDay-clause-stands
normal_side-returns-in-CompareDay-clause-stands m c =
    IfOk-weaker c.formed-in-CompareDay.result _ _ (λ n stands x. stands x (rw (c.in-CompareDay.is, sides_CompareDay) (c.plain_days.ensures.says x.item))) c.formed-in-CompareDay.ensures.stands

pub normal_side-returns-in-CompareDay-clause-costs : goal.normal_side-returns-in-CompareDay-clause-costs
normal_side-returns-in-CompareDay-clause-costs m c =
    let k = c.in-CompareDay in
    both_ok c.formed-in-CompareDay.result _ _ _ (λ n stands counts t. day_costs c.args.side t n c.args.filter.now k.by k.left k.right k.is stands (λ e h. counts e (c.plain_days.ensures.exact h)))
    (normal_side-returns-in-CompareDay-clause-stands m c) c.formed-in-CompareDay.ensures.costs

pub normal_side-returns-in-Not-clause-stands : goal.normal_side-returns-in-Not-clause-stands
normal_side-returns-in-Not-clause-stands m c =
    IfOk-weaker c.normal_side.result _ _ (λ n stands x. let h = stands x in let k = turns_Not c.args.side x.item c.in-Not.part in cc) c.normal_side.ensures.stands

pub normal_side-returns-in-Not-clause-costs : goal.normal_side-returns-in-Not-clause-costs
normal_side-returns-in-Not-clause-costs m c =
    IfOk-weaker c.normal_side.result _ _ (λ n stands t. rw c.in-Not.is (not_costs c.args.side t n c.in-Not.part)) c.normal_side.ensures.stands

pub normal_side-returns-in-And-clause-stands : goal.normal_side-returns-in-And-clause-stands
normal_side-returns-in-And-clause-stands m c =
    IfOk-weaker c.normal_parts.result _ _ (λ n stands x. rw c.in-And.is ((rw c.deref-in-And.ensures.value at (stands x)) ∙ turns_And c.args.side x.item c.in-And.parts)) c.normal_parts.ensures.stands

pub normal_side-returns-in-And-clause-costs : goal.normal_side-returns-in-And-clause-costs
normal_side-returns-in-And-clause-costs m c =
    IfOk-weaker c.normal_parts.result _ _ (λ n costs t. rw c.in-And.is (and_costs c.args.side t n c.in-And.parts (rw c.deref-in-And.ensures.value at (costs t)))) c.normal_parts.ensures.costs

pub normal_side-returns-in-Or-clause-stands : goal.normal_side-returns-in-Or-clause-stands
normal_side-returns-in-Or-clause-stands m c =
    IfOk-weaker c.normal_parts-in-Or.result _ _ (λ n stands x. rw c.in-Or.is ((rw c.deref-in-Or.ensures.value at (stands x)) ∙ turns_Or c.args.side x.item c.in-Or.parts)) c.normal_parts-in-Or.ensures.stands

pub normal_side-returns-in-Or-clause-costs : goal.normal_side-returns-in-Or-clause-costs
normal_side-returns-in-Or-clause-costs m c =
    IfOk-weaker c.normal_parts-in-Or.result _ _ (λ n costs t. rw c.in-Or.is (or_costs c.args.side t n c.in-Or.parts (rw c.deref-in-Or.ensures.value at (costs t)))) c.normal_parts-in-Or.ensures.costs

pub normal_side-returns-in-Between-clause-stands : goal.normal_side-returns-in-Between-clause-stands
normal_side-returns-in-Between-clause-stands m c =
    IfOk-weaker c.between.result _ _ (λ n stands x. stands x.item (rw (c.in-Between.is, sides_Between) refl)) c.between.ensures.stands

pub normal_side-returns-in-Between-clause-costs : goal.normal_side-returns-in-Between-clause-costs
normal_side-returns-in-Between-clause-costs m c =
    let k = c.in-Between in
    both_ok c.between.result _ _ _ (λ n stands counts t. between_costs c.args.side t n c.args.filter.now k.value k.low k.high k.is stands counts)
    (normal_side-returns-in-Between-clause-stands m c) c.between.ensures.costs

pub normal_side-returns-in-Spatial-clause-stands : goal.normal_side-returns-in-Spatial-clause-stands
normal_side-returns-in-Spatial-clause-stands m c = λ x. c.spatial.ensures.stands x.item

pub normal_side-returns-in-Spatial-clause-costs : goal.normal_side-returns-in-Spatial-clause-costs
normal_side-returns-in-Spatial-clause-costs m c = λ t.
    let k = c.in-Spatial in
    near_costs c.args.side t c.spatial.result c.args.filter.now k.by k.left k.right k.is c.spatial.ensures.costs

pub normal_side-returns-in-InWhole-clause-stands : goal.normal_side-returns-in-InWhole-clause-stands
normal_side-returns-in-InWhole-clause-stands m c =
    let k = c.in-InWhole in
    IfOk-weaker c.members.result _ _ (λ n stands x. stands x.item (rw (k.is, c.deref-in-InWhole.ensures.value) (whole_members x.item k.value k.items))) c.members.ensures.stands

pub normal_side-returns-in-InWhole-clause-costs : goal.normal_side-returns-in-InWhole-clause-costs
normal_side-returns-in-InWhole-clause-costs m c =
    let k = c.in-InWhole in
    IfOk-weaker c.members.result _ _ (λ n costs t. whole_members_cost c.args.side t n c.args.filter.now k.value k.items k.is
    (λ e h. rw c.deref-in-InWhole.ensures.value at (costs e (rw c.deref-in-InWhole.ensures.value h) t))) c.members.ensures.costs

pub normal_side-returns-in-InText-clause-stands : goal.normal_side-returns-in-InText-clause-stands
normal_side-returns-in-InText-clause-stands m c =
    let k = c.in-InText in
    IfOk-weaker c.members-in-InText.result _ _ (λ n stands x. stands x.item (rw (k.is, c.deref-in-InText.ensures.value) (text_members x.item k.value k.items))) c.members-in-InText.ensures.stands

pub normal_side-returns-in-InText-clause-costs : goal.normal_side-returns-in-InText-clause-costs
normal_side-returns-in-InText-clause-costs m c =
    let k = c.in-InText in
    IfOk-weaker c.members-in-InText.result _ _ (λ n costs t. text_members_cost c.args.side t n c.args.filter.now k.value k.items k.is
    (λ e h. rw c.deref-in-InText.ensures.value at (costs e (rw c.deref-in-InText.ensures.value h) t))) c.members-in-InText.ensures.costs

pub normal_side-returns-in-InDay-clause-stands : goal.normal_side-returns-in-InDay-clause-stands
normal_side-returns-in-InDay-clause-stands m c =
    let k = c.in-InDay in
    IfOk-weaker c.members-in-InDay.result _ _ (λ n stands x. stands x.item (rw (k.is, c.deref-in-InDay.ensures.value) (day_members x.item k.value k.items))) c.members-in-InDay.ensures.stands

pub normal_side-returns-in-InDay-clause-costs : goal.normal_side-returns-in-InDay-clause-costs
normal_side-returns-in-InDay-clause-costs m c =
    let k = c.in-InDay in
    IfOk-weaker c.members-in-InDay.result _ _ (λ n costs t. day_members_cost c.args.side t n c.args.filter.now k.value k.items k.is
    (λ e h. rw c.deref-in-InDay.ensures.value at (costs e (rw c.deref-in-InDay.ensures.value h) t))) c.members-in-InDay.ensures.costs

pub normal_side-returns-in-InFlag-clause-stands : goal.normal_side-returns-in-InFlag-clause-stands
normal_side-returns-in-InFlag-clause-stands m c =
    let k = c.in-InFlag in
    IfOk-weaker c.flag_members.result _ _ (λ n stands x. stands x.item (rw (k.is, c.deref-in-InFlag.ensures.value) (flag_members x.item k.value k.items))) c.flag_members.ensures.stands

pub normal_side-returns-in-InFlag-clause-costs : goal.normal_side-returns-in-InFlag-clause-costs
normal_side-returns-in-InFlag-clause-costs m c =
    let k = c.in-InFlag in
    IfOk-weaker c.flag_members.result _ _ (λ n stands t. flag_members_cost c.args.side t n c.args.filter.now k.value k.items k.is) c.flag_members.ensures.stands

pub normal_side-returns-in-Like-clause-stands : goal.normal_side-returns-in-Like-clause-stands
normal_side-returns-in-Like-clause-stands m c =
    IfOk-weaker c.likeness.result _ _ (λ n stands x. stands x (rw (c.in-Like.is, sides_Like) refl)) c.likeness.ensures.stands

pub normal_side-returns-in-Like-clause-costs : goal.normal_side-returns-in-Like-clause-costs
normal_side-returns-in-Like-clause-costs m c =
    let k = c.in-Like in
    IfOk-weaker c.likeness.result _ _ (λ n costs t. like_costs c.args.side t n c.args.filter.now k.value k.pattern k.is (λ e. costs e t)) c.likeness.ensures.costs

pub normal_side-returns-in-CompareWhole-clause-atoms : goal.normal_side-returns-in-CompareWhole-clause-atoms
normal_side-returns-in-CompareWhole-clause-atoms m c =
    let k = c.in-CompareWhole in IfOk-weaker c.formed.result _ _ (λ n plain. plain (ap is_atom k.is ∙ atom_CompareWhole k.by k.left k.right)) c.formed.ensures.atoms

pub normal_side-returns-in_ok-plain-in-CompareText-clause-atoms : goal.normal_side-returns-in_ok-plain-in-CompareText-clause-atoms
normal_side-returns-in_ok-plain-in-CompareText-clause-atoms m c =
    let k = c.in-CompareText in IfOk-weaker c.formed-in-CompareText.result _ _ (λ n plain. plain (ap is_atom k.is ∙ atom_CompareText k.by k.left k.right)) c.formed-in-CompareText.ensures.atoms

pub normal_side-returns-in-CompareDay-clause-atoms : goal.normal_side-returns-in-CompareDay-clause-atoms
normal_side-returns-in-CompareDay-clause-atoms m c =
    let k = c.in-CompareDay in IfOk-weaker c.formed-in-CompareDay.result _ _ (λ n plain. plain (ap is_atom k.is ∙ atom_CompareDay k.by k.left k.right)) c.formed-in-CompareDay.ensures.atoms

pub normal_side-returns-in-Between-clause-atoms : goal.normal_side-returns-in-Between-clause-atoms
normal_side-returns-in-Between-clause-atoms m c =
    let k = c.in-Between in IfOk-weaker c.between.result _ _ (λ n plain. plain (ap is_atom k.is ∙ atom_Between k.value k.low k.high)) c.between.ensures.atoms

pub normal_side-returns-in-InWhole-clause-atoms : goal.normal_side-returns-in-InWhole-clause-atoms
normal_side-returns-in-InWhole-clause-atoms m c =
    let k = c.in-InWhole in IfOk-weaker c.members.result _ _ (λ n plain. plain (ap is_atom k.is ∙ atom_InWhole k.value k.items)) c.members.ensures.atoms

pub normal_side-returns-in-InText-clause-atoms : goal.normal_side-returns-in-InText-clause-atoms
normal_side-returns-in-InText-clause-atoms m c =
    let k = c.in-InText in IfOk-weaker c.members-in-InText.result _ _ (λ n plain. plain (ap is_atom k.is ∙ atom_InText k.value k.items)) c.members-in-InText.ensures.atoms

pub normal_side-returns-in-InDay-clause-atoms : goal.normal_side-returns-in-InDay-clause-atoms
normal_side-returns-in-InDay-clause-atoms m c =
    let k = c.in-InDay in IfOk-weaker c.members-in-InDay.result _ _ (λ n plain. plain (ap is_atom k.is ∙ atom_InDay k.value k.items)) c.members-in-InDay.ensures.atoms

pub normal_side-returns-in-InFlag-clause-atoms : goal.normal_side-returns-in-InFlag-clause-atoms
normal_side-returns-in-InFlag-clause-atoms m c =
    let k = c.in-InFlag in IfOk-weaker c.flag_members.result _ _ (λ n plain. plain (ap is_atom k.is ∙ atom_InFlag k.value k.items)) c.flag_members.ensures.atoms

pub normal_side-returns-in-Like-clause-atoms : goal.normal_side-returns-in-Like-clause-atoms
normal_side-returns-in-Like-clause-atoms m c =
    let k = c.in-Like in IfOk-weaker c.likeness.result _ _ (λ n plain. plain (ap is_atom k.is ∙ atom_Like k.value k.pattern)) c.likeness.ensures.atoms
