-- How the work goes on after a report (own profile).
use Rattle.std.specs.Prelude.{◌≡◌, Bool, IsTrue, Result, Ok, Err}
use Rattle.cad_versions.specs.declared.fault.RegisterFault.TheVariants.{Store}
use Rattle.cad_dry_run.specs.declared.report.Report.{Report}
use Rattle.cad_dry_run.specs.declared.report.Report.TheVariants.{Refused}
use Rattle.cad_office.specs.declared.fault.OfficeFault.{OfficeFault}
use Rattle.cad_office.specs.declared.fault.OfficeFault.TheVariants.{Register}
use Rattle.cad_dry_run.specs.Checking.{is_good, would_go_on}

-- the work goes on, and whether the line was not refused; or it ends since the database refused
abbrev pub EndsLine : Report → Result Bool OfficeFault → Type 0
EndsLine report (Ok good) = IsTrue (would_go_on report) × (good ≡ is_good report)
EndsLine report (Err fault) = (fault ≡ Register) × (report ≡ Refused Store)
