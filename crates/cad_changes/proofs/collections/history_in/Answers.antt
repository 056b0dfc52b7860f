use Rattle.std.proofs.Common.{sym, subst}
use Rattle.cad_schema.specs.declared.collection.Collection.TheVariants.{Units, Parties}
use Rattle.cad_history.specs.Registers.{AreRowsOf}
use Rattle.cad_changes.proofs.collections.history_in.Goals as goal

pub returns-clause-rows : goal.returns-clause-rows
returns-clause-rows c = λ commands accepted are number.
    c.in_ok-after.ensures.rows commands accepted
    (subst (AreRowsOf commands) (sym c.of-history.ensures.rows) (are c.args.collection))
    (subst (AreRowsOf commands) (sym c.of-units.ensures.rows) (are Units))
    (subst (AreRowsOf commands) (sym c.of-parties.ensures.rows) (are Parties))
    number
