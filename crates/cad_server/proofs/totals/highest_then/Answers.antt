use Rattle.std.proofs.Common.{◌∙◌, ap, sym}
use Rattle.cad_versions.specs.Versions.{versions_after}
use Rattle.cad_stream.specs.Summaries.{highest_object}
use Rattle.cad_server.proofs.HighestLemmas.{amended_highest, entered_highest, retired_highest}
use Rattle.cad_server.proofs.totals.highest_then.Goals as goal

pub returns-in-Enter : goal.returns-in-Enter
returns-in-Enter c = λ versions is.
    c.with_object.ensures
    ∙ entered_highest c.in-Enter.object c.in-Enter.first c.in-Enter.body versions c.args.highest is
    ∙ ap (λ command. highest_object (versions_after versions command)) (sym c.in-Enter.is)

pub returns-in-Amend : goal.returns-in-Amend
returns-in-Amend c = λ versions is.
    c.with_object-in-Amend.ensures
    ∙ amended_highest c.in-Amend.object c.in-Amend.first c.in-Amend.body versions c.args.highest is
    ∙ ap (λ command. highest_object (versions_after versions command)) (sym c.in-Amend.is)

pub returns-in-Retire : goal.returns-in-Retire
returns-in-Retire c = λ versions is.
    retired_highest c.in-Retire.object c.in-Retire.last versions c.args.highest is
    ∙ ap (λ command. highest_object (versions_after versions command)) (sym c.in-Retire.is)
