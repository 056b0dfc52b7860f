-- Many commands, one after the other, and the sample among them (own profile).
use Rattle.std.specs.Prelude.{◌≡◌, ℕ, List, [], ◌∷◌, ◌++◌, length, ◌⊎◌, Result, Ok, Err, IfOk}
use Rattle.cad_versions.specs.declared.command.Command.{Command}
use Rattle.cad_versions.specs.declared.fault.RegisterFault.{RegisterFault}
use Rattle.cad_versions.specs.declared.fault.RegisterFault.TheVariants.{Memory}
use Rattle.cad_versions.specs.declared.ledger.Ledger.{Ghosts}
use Rattle.cad_versions.specs.Refusals.{AreAccepted}
use Rattle.cad_sample.specs.Instructions.{Instruction, instruction_of}
use Rattle.cad_sample.specs.Sample.{AreSample, sample_commands}

module _ {B : Type 0} (applies : B → Command → Result ℕ RegisterFault → B → Type 0) where
  -- the ledger answers this to the command with this content
  abbrev pub Answers : B → Instruction → Result ℕ RegisterFault → B → Type 0
  Answers old instruction result new = (command : Command) × (instruction_of command ≡ instruction) × applies old command result new

  -- the ledger accepts these, one after the other, and returns the last revision; before them it had returned the first
  abbrev pub Accepts : List Instruction → B → ℕ → ℕ → B → Type 0
  Accepts [] old first last new = (new ≡ old) × (last ≡ first)
  Accepts (instruction ∷ more) old first last new =
      (revision : ℕ) × (mid : B) × Answers old instruction (Ok revision) mid × Accepts more mid revision last new

  -- the ledger refuses the next one, or there is no memory for it
  abbrev pub Refuses : List Instruction → B → RegisterFault → B → Type 0
  Refuses [] old fault new = ⊥
  Refuses (instruction ∷ more) old fault new = Answers old instruction (Err fault) new ⊎ ((fault ≡ Memory) × (new ≡ old))

  -- all are accepted, or some are and then one is refused
  abbrev pub Enters : List Instruction → B → Result ℕ RegisterFault → B → Type 0
  Enters all old (Ok revision) new = Accepts all old 0 revision new
  Enters all old (Err fault) new =
      (accepted : List Instruction) × (left : List Instruction) × (revision : ℕ) × (mid : B) × (all ≡ accepted ++ left) × Accepts accepted old 0 revision mid × Refuses left mid fault new

module _ {L : Type 0} (g : Ghosts L) where
  -- the ledger holds the commands of the sample, each of which is accepted after those before it
  abbrev pub HoldsSample : L → Type 0
  HoldsSample ledger = (commands : List Command) × AreSample commands × AreAccepted [] commands × g.stands_for ledger commands

  -- a ledger that held no commands holds the sample now, and the last revision counts its commands
  abbrev pub IsFilled : L → Result ℕ RegisterFault → L → Type 0
  IsFilled old result new =
      g.counts new → g.stands_for old [] → IfOk result (λ revision. (revision ≡ length sample_commands) × HoldsSample new)
