-- What a dry run writes for the lines that it reads (own profile).
use Rattle.std.specs.Prelude.{◌≡◌, ℕ, ◌+◌, Bool, IsTrue, List, [], ◌∷◌, ◌++◌, length, map, take, Result, Ok, Err}
use Rattle.std.specs.List.{list_all}
use Rattle.cad_versions.specs.declared.fault.RegisterFault.TheVariants.{Store}
use Rattle.cad_versions.specs.declared.fault.RegisterFault.{RegisterFault}
use Rattle.cad_versions.specs.declared.command.Command.{Command}
use Rattle.cad_office.specs.declared.fault.OfficeFault.{OfficeFault}
use Rattle.cad_office.specs.declared.fault.OfficeFault.TheVariants.{Read, Write, TurnsSpent, Register}
use Rattle.cad_office.specs.declared.line.Line.{Line}
use Rattle.cad_office.specs.Answers.{joined}
use Rattle.cad_office.specs.Keeping.{is_accepted, goes_on, AnswersLine, AreWhole, EndIn}
use Rattle.cad_office.specs.Lines.{lines_in, lines_ended, line_begun, BuffersLine}
use Rattle.cad_io.specs.Writing.{IsCutShort}
use Rattle.cad_dry_run.specs.declared.report.Report.{Report}
use Rattle.cad_dry_run.specs.declared.report.Report.TheVariants.{Refused}
use Rattle.cad_dry_run.specs.Reports.{answer_of, report_text, IsReportOf}

-- the lines of the reports, one after the other
abbrev pub all_texts : List Report → List ℕ
all_texts reports = joined (map report_text reports)

-- a line would be accepted
abbrev pub is_good : Report → Bool
is_good report = is_accepted (answer_of report)

-- no line would be refused
abbrev pub all_good : List Report → Bool
all_good reports = list_all is_good reports

-- the work would continue after the answer
abbrev pub would_go_on : Report → Bool
would_go_on report = goes_on (answer_of report)

abbrev pub AllWouldGoOn : List Report → Type 0
AllWouldGoOn reports = IsTrue (list_all would_go_on reports)

-- the ledger does what the office's answer to the line says, and the report is true of the line
abbrev pub ReportsLine : {B : Type 0} → (B → Command → Result ℕ RegisterFault → B → Type 0) → List ℕ → B → Report → B → Type 0
ReportsLine applies line old report new = AnswersLine applies line old (answer_of report) new × IsReportOf line report

-- the same for lines, one after the other, each with its report
abbrev pub ReportsLines : {B : Type 0} → (B → Command → Result ℕ RegisterFault → B → Type 0) → B → B → List (List ℕ) → List Report → Type 0
ReportsLines applies old new [] [] = new ≡ old
ReportsLines applies old new [] (report ∷ reports) = ⊥
ReportsLines applies old new (line ∷ lines) [] = ⊥
ReportsLines {B} applies old new (line ∷ lines) (report ∷ reports) =
    (mid : B) × ReportsLine applies line old report mid × ReportsLines applies mid new lines reports

-- each of the lines has its report, each report is written, and none ends the work
abbrev pub AreReported : (List (List ℕ) → List Report → Type 0) → List (List ℕ) → List Report → List ℕ → Type 0
AreReported InLedger lines reports written = (written ≡ all_texts reports) × AllWouldGoOn reports × InLedger lines reports

-- after all reports before the last the work continues, and the last is that the database refused
abbrev pub EndsRefused : (List (List ℕ) → List Report → Type 0) → List (List ℕ) → List ℕ → Type 0
EndsRefused InLedger lines written =
    (before : List Report) × (written ≡ all_texts before ++ report_text (Refused Store)) × AllWouldGoOn before × InLedger (take (length before + 1) lines) (before ++ Refused Store ∷ [])

-- all reports before the last are whole and the work continues after them, and the last is cut short
abbrev pub EndsCut : (List (List ℕ) → List Report → Type 0) → List (List ℕ) → List ℕ → Type 0
EndsCut InLedger lines written =
    (before : List Report) × (last : Report) × (front : List ℕ) × (written ≡ all_texts before ++ front) × IsCutShort front (report_text last) × AllWouldGoOn before × InLedger (take (length before + 1) lines) (before ++ last ∷ [])

-- each line that was read whole has its report, up to the one at which the work stopped
abbrev pub LinesAreReported : (List (List ℕ) → List Report → Type 0) → Type 0 → Result Bool OfficeFault → List ℕ → List ℕ → Type 0
LinesAreReported InLedger AtEnd (Ok good) read written =
    (reports : List Report) × AreReported InLedger (lines_in read) reports written × (good ≡ all_good reports)
LinesAreReported InLedger AtEnd (Err Read) read written =
    (reports : List Report) × AreReported InLedger (lines_ended read) reports written
LinesAreReported InLedger AtEnd (Err TurnsSpent) read written =
    (reports : List Report) × AreReported InLedger (lines_ended read) reports written
LinesAreReported InLedger AtEnd (Err Register) read written =
    (lines : List (List ℕ)) × AreWhole AtEnd read lines × EndsRefused InLedger lines written
LinesAreReported InLedger AtEnd (Err Write) read written =
    (lines : List (List ℕ)) × AreWhole AtEnd read lines × EndsCut InLedger lines written

-- the same for a piece, if this was read before it
abbrev pub IsPiece : (List (List ℕ) → List Report → Type 0) → List ℕ → Result Bool OfficeFault → Line → List ℕ → List ℕ → Type 0
IsPiece InLedger read (Ok good) line piece written =
    (lines : List (List ℕ)) × EndIn read piece lines × ((reports : List Report) × AreReported InLedger lines reports written × (good ≡ all_good reports)) × BuffersLine (line_begun (read ++ piece)) line
IsPiece InLedger read (Err Read) line piece written = ⊥
IsPiece InLedger read (Err TurnsSpent) line piece written = ⊥
IsPiece InLedger read (Err Register) line piece written =
    (lines : List (List ℕ)) × EndIn read piece lines × EndsRefused InLedger lines written
IsPiece InLedger read (Err Write) line piece written =
    (lines : List (List ℕ)) × EndIn read piece lines × EndsCut InLedger lines written
