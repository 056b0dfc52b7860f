use Rattle.std.proofs.Common.{◌∙◌}
use Rattle.cad_changes.proofs.PartLemmas.{parts_in_order, parts_are_left}
use Rattle.cad_changes.proofs.leaving.features_left.Goals as goal

pub merge-requires : goal.merge-requires
merge-requires c =
    parts_in_order c.args.command.now c.args.features.now.collection c.args.features.now.features _ _ c.are_listed.ensures.ascending
    (c.deref.ensures.value ∙ c.in_ok-own.ensures) (c.deref-2.ensures.value ∙ c.in_ok-others.ensures ∙ c.in_ok-named.ensures)

pub returns : goal.returns
returns c =
    c.in_ok-all.ensures
    ∙ parts_are_left c.args.command.now c.args.features.now.collection c.args.features.now.features _ _ c.are_listed.ensures.ascending
    (c.deref.ensures.value ∙ c.in_ok-own.ensures) (c.deref-2.ensures.value ∙ c.in_ok-others.ensures ∙ c.in_ok-named.ensures)
