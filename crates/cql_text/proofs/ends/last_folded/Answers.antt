use Rattle.std.proofs.Common.{◌∙◌, ◌++◌, ap}
use Rattle.std.specs.Prelude.{chars}
use Rattle.caseless.specs.Caseless.{default_case_fold}
use Rattle.cql_text.proofs.EndLemmas.{folds_last, folds_none}
use Rattle.cql_text.proofs.ends.last_folded.Goals as goal

pub returns-in-None : goal.returns-in-None
returns-in-None c = folds_none _ c.in-None.ensures

pub returns-in-Some : goal.returns-in-Some
returns-in-Some c =
    let e = c.last_of_folded.ensures in
    let front = chars c.in-Some.field-0-0.now in
    (default_case_fold front ++ e.0, ap default_case_fold c.in-Some.ensures ∙ folds_last front c.in-Some.last e.0 _ e.1)
