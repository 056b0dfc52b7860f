-- Lines whose command is not entered: what would be answered to them (own profile).
use Rattle.std.specs.Prelude.{◌≡◌, ℕ, List, ◌++◌, codes}
use Rattle.cad_stream.specs.declared.responder.Responder.{Ghosts}
use Rattle.cad_desk.specs.declared.desk.Desk.{Desk}
use Rattle.cad_desk.specs.Desks.{ChecksAtDesk}
use Rattle.cad_dry_run.specs.declared.report.Report.{Report}
use Rattle.cad_dry_run.specs.Checking.{ReportsLine}

-- the line is `check` and a line that is to be checked
abbrev pub IsCheckOf : List ℕ → List ℕ → Type 0
IsCheckOf text line = text ≡ codes "check " ++ line

abbrev pub IsCheck : List ℕ → Type 0
IsCheck text = (line : List ℕ) × IsCheckOf text line

-- this is what the line that is to be checked would be answered at the desk, which does not enter its command
abbrev pub ChecksLine : {R : Type 0} → Ghosts R → List ℕ → Desk R → Report → Desk R → Type 0
ChecksLine g text old report new = (line : List ℕ) × IsCheckOf text line × ReportsLine (ChecksAtDesk g) line old report new
