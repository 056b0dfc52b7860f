use Rattle.std.proofs.Common.{◌≡◌, ◌∙◌, List}
use Rattle.std.proofs.lemmas.Result.{IfOk-weaker}
use Rattle.cad_feature.specs.Features.{Item}
use Rattle.cad_run.specs.Bases.{rows_left}
use Rattle.cad_run.specs.declared.bases.Bases.{Bases}
use Rattle.cad_run.proofs.SoughtLemmas.{sought_of_all, sought_of_everything, sought_of_nothing, sought_of_part}
use Rattle.cad_run.proofs.bases.Bases.of.Goals as goal

-- the rows of a base are those of an equal list
same_rows : (xs ys : List Item) → xs ≡ ys → (bases : Bases) → rows_left bases ≡ xs → rows_left bases ≡ ys
same_rows xs ys same bases are = are ∙ same

pub returns-in_default : goal.returns-in_default
returns-in_default c = IfOk-weaker c.among.result _ _ (same_rows _ _ (sought_of_all c.args.sought.plan.now c.args.sought.revision c.args.base.now.features c.in_default.is)) c.among.ensures

pub returns-in-Nothing : goal.returns-in-Nothing
returns-in-Nothing c = c.none.ensures ∙ sought_of_nothing c.args.sought.plan.now c.in-Some.revision c.args.base.now.features c.args.sought.revision c.in-Some.is c.in-Nothing.ensures

pub returns-in-Part : goal.returns-in-Part
returns-in-Part c =
    IfOk-weaker c.among-in-Part.result _ _ (same_rows _ _ (sought_of_part c.args.sought.plan.now c.in-Some.revision c.args.base.now.features c.args.sought.revision c.in-Some.is)) c.among-in-Part.ensures

pub returns-in-Everything : goal.returns-in-Everything
returns-in-Everything c =
    IfOk-weaker c.among-in-Everything.result _ _
    (same_rows _ _ (sought_of_everything c.args.sought.plan.now c.in-Some.revision c.args.base.now.features c.args.sought.revision c.in-Some.is c.in-Everything.ensures)) c.among-in-Everything.ensures
