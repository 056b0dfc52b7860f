-- What the office writes for what it reads (own profile).
use Rattle.std.specs.Prelude.{◌≡◌, ℕ, ◌+◌, ◌*◌, ◌≤◌, Bool, true, false, IsTrue, List, [], ◌∷◌, ◌++◌, ◌⊎◌, length, map, take, Result, Ok, Err}
use Rattle.std.specs.List.{list_all}
use Rattle.cad_versions.specs.declared.fault.RegisterFault.TheVariants.{Store, Memory}
use Rattle.cad_versions.specs.declared.fault.RegisterFault.{RegisterFault}
use Rattle.cad_versions.specs.declared.command.Command.{Command}
use Rattle.cad_office.specs.declared.fault.OfficeFault.{OfficeFault}
use Rattle.cad_office.specs.declared.fault.OfficeFault.TheVariants.{Read, Write, TurnsSpent, Register}
use Rattle.cad_office.specs.declared.line.Line.{Line}
use Rattle.cad_office.specs.declared.print.Answer.{Answer}
use Rattle.cad_office.specs.declared.print.Answer.TheVariants.{Entered, Refused, NotACommand}
use Rattle.cad_office.specs.Answers.{joined, printed}
use Rattle.cad_commands.specs.Commands.{Says}
use Rattle.cad_io.specs.Pieces.{piece_len}
use Rattle.cad_io.specs.Writing.{IsCutShort}
use Rattle.cad_office.specs.Lines.{longest_line, lines_in, lines_ended, line_begun, BuffersLine}

-- the lines of the answers, one after the other
abbrev pub all_printed : List Answer → List ℕ
all_printed answers = joined (map printed answers)

-- a line is accepted only if the ledger accepted its command
abbrev pub is_accepted : Answer → Bool
is_accepted (Entered revision) = true
is_accepted (Refused fault) = false
is_accepted NotACommand = false

-- no line was refused
abbrev pub all_accepted : List Answer → Bool
all_accepted answers = list_all is_accepted answers

-- whether the work continues after the answer: only a refusal by the database ends it
abbrev pub goes_on : Answer → Bool
goes_on (Entered revision) = true
goes_on (Refused Store) = false
goes_on (Refused fault) = true
goes_on NotACommand = true

-- no answer ends the work
abbrev pub AllGoOn : List Answer → Type 0
AllGoOn answers = IsTrue (list_all goes_on answers)

-- a line that is not too long asks for what its text says
abbrev pub Asks : List ℕ → Command → Type 0
Asks line command = (length line ≤ longest_line) × Says line command

-- the result of the line in the ledger: what the ledger answers to the command that the line asks for, or no change; the answer for a line
-- that is too long is never out of memory
abbrev pub AnswersLine : {B : Type 0} → (B → Command → Result ℕ RegisterFault → B → Type 0) → List ℕ → B → Answer → B → Type 0
AnswersLine applies line old (Entered revision) new =
    (command : Command) × Asks line command × applies old command (Ok revision) new
AnswersLine applies line old (Refused fault) new =
    ((command : Command) × Asks line command × applies old command (Err fault) new) ⊎ ((fault ≡ Memory) × (length line ≤ longest_line) × (new ≡ old))
AnswersLine applies line old NotACommand new = ((command : Command) → ¬ Asks line command) × (new ≡ old)

-- the result of the lines in the ledger, one after the other, each with its answer
abbrev pub AnswersLines : {B : Type 0} → (B → Command → Result ℕ RegisterFault → B → Type 0) → B → B → List (List ℕ) → List Answer → Type 0
AnswersLines applies old new [] [] = new ≡ old
AnswersLines applies old new [] (answer ∷ answers) = ⊥
AnswersLines applies old new (line ∷ lines) [] = ⊥
AnswersLines {B} applies old new (line ∷ lines) (answer ∷ answers) =
    (mid : B) × AnswersLine applies line old answer mid × AnswersLines applies mid new lines answers

-- each of the lines has its answer, each answer is written, and none ends the work
abbrev pub AreAnswered : (List (List ℕ) → List Answer → Type 0) → List (List ℕ) → List Answer → List ℕ → Type 0
AreAnswered InLedger lines answers written = (written ≡ all_printed answers) × AllGoOn answers × InLedger lines answers

-- after all answers before the last the work continues, and the last is that the database refused
abbrev pub EndsRefused : (List (List ℕ) → List Answer → Type 0) → List (List ℕ) → List ℕ → Type 0
EndsRefused InLedger lines written =
    (before : List Answer) × (written ≡ all_printed before ++ printed (Refused Store)) × AllGoOn before × InLedger (take (length before + 1) lines) (before ++ Refused Store ∷ [])

-- all answers before the last are whole and the work continues after them, and the last is cut short
abbrev pub EndsCut : (List (List ℕ) → List Answer → Type 0) → List (List ℕ) → List ℕ → Type 0
EndsCut InLedger lines written =
    (before : List Answer) × (last : Answer) × (front : List ℕ) × (written ≡ all_printed before ++ front) × IsCutShort front (printed last) × AllGoOn before × InLedger (take (length before + 1) lines) (before ++ last ∷ [])

-- the lines that were read whole: those that an LF ended, and at the end of the input the last one
abbrev pub AreWhole : Type 0 → List ℕ → List (List ℕ) → Type 0
AreWhole AtEnd read lines = (lines ≡ lines_ended read) ⊎ (AtEnd × (lines ≡ lines_in read))

-- each line that was read whole has its answer, up to the one at which the work stopped
abbrev pub LinesAreAnswered : (List (List ℕ) → List Answer → Type 0) → Type 0 → Result Bool OfficeFault → List ℕ → List ℕ → Type 0
LinesAreAnswered InLedger AtEnd (Ok accepted) read written =
    (answers : List Answer) × AreAnswered InLedger (lines_in read) answers written × (accepted ≡ all_accepted answers)
LinesAreAnswered InLedger AtEnd (Err Read) read written =
    (answers : List Answer) × AreAnswered InLedger (lines_ended read) answers written
LinesAreAnswered InLedger AtEnd (Err TurnsSpent) read written =
    (answers : List Answer) × AreAnswered InLedger (lines_ended read) answers written
LinesAreAnswered InLedger AtEnd (Err Register) read written =
    (lines : List (List ℕ)) × AreWhole AtEnd read lines × EndsRefused InLedger lines written
LinesAreAnswered InLedger AtEnd (Err Write) read written =
    (lines : List (List ℕ)) × AreWhole AtEnd read lines × EndsCut InLedger lines written

-- the most reads
abbrev pub most_reads : ℕ
most_reads = 1000000

-- this many reads that each gave a byte read this many bytes
pub record IsOfReads (count : ℕ) (read : List ℕ) : Type 0 where
  pub each_gave : count ≤ length read
  pub each_short : length read ≤ piece_len * count

-- no more is read than the reads may give, and they are used up only if each gave a byte
pub record IsPaced (result : Result Bool OfficeFault) (read : List ℕ) : Type 0 where
  pub bounded : length read ≤ piece_len * most_reads
  pub spent : result ≡ Err TurnsSpent → most_reads ≤ length read

-- these lines end in the piece
abbrev pub EndIn : List ℕ → List ℕ → List (List ℕ) → Type 0
EndIn read piece lines = lines_ended (read ++ piece) ≡ lines_ended read ++ lines

-- the same for a piece, if this was read before it
abbrev pub IsPiece : (List (List ℕ) → List Answer → Type 0) → List ℕ → Result Bool OfficeFault → Line → List ℕ → List ℕ → Type 0
IsPiece InLedger read (Ok accepted) line piece written =
    (lines : List (List ℕ)) × EndIn read piece lines × ((answers : List Answer) × AreAnswered InLedger lines answers written × (accepted ≡ all_accepted answers)) × BuffersLine (line_begun (read ++ piece)) line
IsPiece InLedger read (Err Read) line piece written = ⊥
IsPiece InLedger read (Err TurnsSpent) line piece written = ⊥
IsPiece InLedger read (Err Register) line piece written =
    (lines : List (List ℕ)) × EndIn read piece lines × EndsRefused InLedger lines written
IsPiece InLedger read (Err Write) line piece written =
    (lines : List (List ℕ)) × EndIn read piece lines × EndsCut InLedger lines written
