use Rattle.std.proofs.Common.{sym, ◌∙◌}
use Rattle.cad_layer.proofs.WalkLemmas.{only_changes, comes_before, comes_in_place, comes_behind}
use Rattle.cad_layer.proofs.both.Both.next.Goals as goal
use Rattle.cad_layer.specs.lemmas.ItemLemmas.{rest_rises}

pub returns-in_default-clause-earlier : goal.returns-in_default-clause-earlier
returns-in_default-clause-earlier g c = rest_rises g.T.Placed.order _ _ _ c.in_ok-b.ensures.cases.0 c.requires.earlier

pub returns-in_default-split_first-clause-later : goal.returns-in_default-split_first-clause-later
returns-in_default-split_first-clause-later g c = rest_rises g.T.Placed.order _ _ _ c.in-Some.ensures.cases.0 c.requires.later

pub returns-in_default-split_first-clause-next : goal.returns-in_default-split_first-clause-next
returns-in_default-split_first-clause-next g c = only_changes g.met.T.Placed.total _ _ _ _ c.in_default-split_first.ensures.cases c.in-Some.ensures.cases.0 c.requires.later

pub returns-in-Less-clause-later : goal.returns-in-Less-clause-later
returns-in-Less-clause-later g c = rest_rises g.T.Placed.order _ _ _ c.in-Some.ensures.cases.0 c.requires.later

pub returns-in-Less-clause-next : goal.returns-in-Less-clause-next
returns-in-Less-clause-next g c =
    comes_before g.met.T.Placed.total _ _ _ _ _ _ c.in-Some-split_first.ensures.cases.0 c.in-Some.ensures.cases.0 c.requires.earlier c.requires.later (sym c.stands_to.ensures ∙ c.in-Less.is)

pub returns-in-Equal-clause-earlier : goal.returns-in-Equal-clause-earlier
returns-in-Equal-clause-earlier g c = rest_rises g.T.Placed.order _ _ _ c.in-Some-split_first.ensures.cases.0 c.requires.earlier

pub returns-in-Equal-clause-later : goal.returns-in-Equal-clause-later
returns-in-Equal-clause-later g c = rest_rises g.T.Placed.order _ _ _ c.in-Some.ensures.cases.0 c.requires.later

pub returns-in-Equal-clause-next : goal.returns-in-Equal-clause-next
returns-in-Equal-clause-next g c =
    comes_in_place g.met.T.Placed.total _ _ _ _ _ _ c.in-Some-split_first.ensures.cases.0 c.in-Some.ensures.cases.0 c.requires.earlier c.requires.later (sym c.stands_to.ensures ∙ c.in-Equal.is)

pub returns-in-Greater-clause-earlier : goal.returns-in-Greater-clause-earlier
returns-in-Greater-clause-earlier g c = rest_rises g.T.Placed.order _ _ _ c.in-Some-split_first.ensures.cases.0 c.requires.earlier

pub returns-in-Greater-clause-next : goal.returns-in-Greater-clause-next
returns-in-Greater-clause-next g c =
    comes_behind g.met.T.Placed.total _ _ _ _ _ _ c.in-Some-split_first.ensures.cases.0 c.in-Some.ensures.cases.0 c.requires.earlier c.requires.later (sym c.stands_to.ensures ∙ c.in-Greater.is)
