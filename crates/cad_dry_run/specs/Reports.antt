-- What a dry run prints for a line, and which answer of the land office it represents (own profile).
use Rattle.std.specs.Prelude.{◌≡◌, ⊤, ℕ, ◌<◌, List, ◌++◌, codes, decimal, length, string_bytes}
use Rattle.cad_versions.specs.declared.fault.RegisterFault.TheVariants.{Memory}
use Rattle.cad_office.specs.declared.print.Answer.{Answer}
use Rattle.cad_office.specs.declared.print.Answer.TheVariants as answer
use Rattle.cad_office.specs.Answers.{printed}
use Rattle.cad_office.specs.Lines.{longest_line}
use Rattle.cad_dry_run.specs.declared.cause.Explanation.{Explanation}
use Rattle.cad_dry_run.specs.declared.report.Report.{Report}
use Rattle.cad_dry_run.specs.declared.report.Report.TheVariants.{WouldBe, Refused, NoCommand, LongLine}
use Rattle.cad_dry_run.specs.Causes.{Explains}
use Rattle.cad_dry_run.specs.Words.{explanation_text}

-- what the office would answer
abbrev pub answer_of : Report → Answer
answer_of (WouldBe revision) = answer.Entered revision
answer_of (Refused fault) = answer.Refused fault
answer_of (NoCommand text) = answer.NotACommand
answer_of LongLine = answer.NotACommand

-- the line of a report; a refusal is printed as the office prints it
abbrev pub report_text : Report → List ℕ
report_text (WouldBe revision) = codes "would be " ++ (decimal revision ++ codes "\n")
report_text (Refused fault) = printed (answer.Refused fault)
report_text (NoCommand text) = string_bytes text
report_text LongLine = codes "no command at 65536: more than 65536 bytes\n"

-- what the report says of the line in addition to its answer: if it is no command, the cause that is printed is true
abbrev pub IsReportOf : List ℕ → Report → Type 0
IsReportOf line (WouldBe revision) = ⊤
IsReportOf line (Refused fault) = ⊤
IsReportOf line (NoCommand text) = (why : Explanation) × Explains line why × (string_bytes text ≡ explanation_text why)
IsReportOf line LongLine = longest_line < length line

-- the explanation in words, or that memory ran out
abbrev pub IsPrintedFor : Explanation → Report → Type 0
IsPrintedFor why (WouldBe revision) = ⊥
IsPrintedFor why (Refused fault) = fault ≡ Memory
IsPrintedFor why (NoCommand text) = string_bytes text ≡ explanation_text why
IsPrintedFor why LongLine = ⊥
