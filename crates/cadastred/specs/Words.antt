-- What the program prints about itself, and how a run ends without work on a file (own profile).
use Rattle.std.specs.Prelude.{◌≡◌, ◌++◌, ℕ, ⊤, List, codes, Option, None, Some, Result, Ok, Err}
use Rattle.std.specs.Io.KnownBytes.{Appends}
use Rattle.cadastred_run.specs.declared.invocation.Invocation.{Invocation}
use Rattle.cadastred_run.specs.declared.invocation.Invocation.TheVariants.{Help, Version, Serve, Journal, Check}
use Rattle.cadastred_run.specs.declared.outcome.Outcome.{Outcome}
use Rattle.cadastred_run.specs.declared.outcome.Outcome.TheVariants as outcome
use Rattle.cadastred_run.specs.Outcomes.{usage}
use Rattle.cadastred.specs.declared.words.Work.{Work}
use Rattle.cadastred.specs.declared.words.Work.TheVariants as work

abbrev pub version : List ℕ
version = codes "cadastred 0.1.0"

-- what standard output holds before and after
module _ (before after : Option (List ℕ)) where
  -- the line is written and the run ends well, or writing failed and so did the run
  abbrev pub IsLine : List ℕ → Outcome → Type 0
  IsLine line outcome.Good = Appends before after (line ++ codes "\n")
  IsLine line outcome.Failed = ⊤
  IsLine line other = ⊥

  -- the requested work begins, and nothing is written; or the run ends: by the usage or the version if one is requested, and else as one with
  -- wrong arguments
  abbrev pub Begins : Option Invocation → Result Work Outcome → Type 0
  Begins (Some (Serve service)) (Ok begun) = (begun ≡ work.Serve service) × (after ≡ before)
  Begins (Some (Journal file)) (Ok begun) = (begun ≡ work.PrintJournal file) × (after ≡ before)
  Begins (Some (Check file)) (Ok begun) = (begun ≡ work.CheckLines file) × (after ≡ before)
  Begins (Some Help) (Err ended) = IsLine usage ended
  Begins (Some Version) (Err ended) = IsLine version ended
  Begins None (Err ended) = (ended ≡ outcome.Usage) × (after ≡ before)
  Begins other result = ⊥
