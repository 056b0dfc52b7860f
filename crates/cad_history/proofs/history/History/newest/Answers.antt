use Rattle.std.proofs.Common.{map, sym, ap, ◌∙◌, subst}
use Rattle.cad_history.specs.Rows.{Rows, AreRows, bare}
use Rattle.cad_history.specs.lemmas.NewestLemmas.{newest_shown}
use Rattle.cad_history.proofs.history.History.newest.Goals as goal

pub returns-clause-shown : goal.returns-clause-shown
returns-clause-shown c = λ revision past within.
    ap (map bare) (newest_shown revision within c.args.self.now (subst AreRows c.self.view_is c.self.invariant) past)
    ∙ ap (λ (rows : Rows). map bare rows.newest) (sym c.self.view_is)
