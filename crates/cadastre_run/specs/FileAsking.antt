-- Serving a connection over a register's file, and how that ends a run (own profile).
use Rattle.std.specs.Prelude.{◌≡◌, ℕ, List, Option, Result, Ok, Err}
use Rattle.sqlite_disk.specs.declared.Disk as disk
use Rattle.sqlite_store.specs.declared.store.FileStore.{FileStore}
use Rattle.sqlite_trees.specs.declared.store.Store.{Ghosts}
use Rattle.sqlite.specs.Files.{over_files}
use Rattle.sqlite.specs.Held.{Held}
use Rattle.sqlite.specs.Recovery.{Image}
use Rattle.cad_versions.specs.declared.fault.RegisterFault.{RegisterFault}
use Rattle.cad_register.specs.declared.register.Register.{Register}
use Rattle.cad_register.specs.Registers.{connection_of}
use Rattle.cad_register.specs.Ledgers.{register_as_ledger}
use Rattle.cad_register.specs.Running.{RunsInFile}
use Rattle.cad_serve.specs.Statuses.{EndsWithout}
use Rattle.cadastre_run.specs.declared.outcome.Outcome.{Outcome}
use Rattle.cadastre_run.specs.declared.outcome.Outcome.TheVariants as outcome
use Rattle.cadastre_run.specs.Serving.{AnswersOver, IsUntouched}

module _ {S : Type 0} (g : Ghosts S) (from to before after : Option (List ℕ)) (AtEnd : Type 0) where
  -- there is no register: the run ends for this cause, nothing is read or written, and the database's connection is given back
  abbrev pub EndsUnfound : RegisterFault × Held S → Outcome × Held S → Type 0
  EndsUnfound refused ended = EndsWithout (IsUntouched (register_as_ledger g) from to before after AtEnd) (outcome.Register refused.0) refused.1 ended

  -- a connection is served over the register, and the database's connection is given back
  pub record AnswersRegister (register : Register S) (ended : Outcome × Held S) : Type 0 where
    pub left : Register S
    pub answers : AnswersOver (register_as_ledger g) from to before after AtEnd register (ended.0, left)
    pub back : ended.1 ≡ connection_of left

  abbrev pub AsksOver : Result (Register S) (RegisterFault × Held S) → Outcome × Held S → Type 0
  AsksOver (Err refused) ended = EndsUnfound refused ended
  AsksOver (Ok register) ended = AnswersRegister register ended

-- a connection over a file that held this at first: its register is found before anything is read, and none is made
abbrev pub AsksInFile : {D : Type 0} {d : disk.Ghosts D} → Image → (from to before after : Option (List ℕ)) → Type 0 → Outcome × Held (FileStore D d) → Type 0
AsksInFile image from to before after AtEnd ended = RunsInFile image (AsksOver over_files from to before after AtEnd) ended
