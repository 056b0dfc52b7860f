use Rattle.std.proofs.Common.{◌∙◌, [], ap, subst}
use Rattle.cad_history.specs.Histories.{AreInPlace}
use Rattle.cad_history.specs.Rows.{Rows, newest_alone}
use Rattle.cad_history.specs.lemmas.CollectionLemmas.{own_rows}
use Rattle.cad_history.proofs.histories.Histories.of.Goals as goal

pub returns-clause-collection : goal.returns-clause-collection
returns-clause-collection c =
    ap (λ (rows : Rows). rows.collection) c.index.ensures ∙ own_rows c.self.inside.each.items c.args.collection c.index.result.now c.self.invariant

pub returns-clause-in_place : goal.returns-clause-in_place
returns-clause-in_place c =
    subst AreInPlace c.self.view_is (λ collection. own_rows c.self.inside.each.items collection (newest_alone collection []) c.self.invariant)
