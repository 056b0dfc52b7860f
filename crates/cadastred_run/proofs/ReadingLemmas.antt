-- A run that reads the register of a file.
use Rattle.std.proofs.Common.{◌≤◌, List, length, Result, Ok, Err, sym, subst}
use Rattle.sqlite_disk.specs.declared.Disk as disk
use Rattle.sqlite_store.specs.declared.store.FileStore.{FileStore}
use Rattle.sqlite.specs.Files.{file_state, over_files}
use Rattle.sqlite.specs.Held.{Held}
use Rattle.sqlite.specs.Recovery.{Image}
use Rattle.sqlite.specs.State.{HasCleanDisk}
use Rattle.cad_tables.specs.Opening.{most_revision}
use Rattle.cad_versions.specs.declared.command.Command.{Command}
use Rattle.cad_versions.specs.declared.fault.RegisterFault.{RegisterFault}
use Rattle.cad_register.specs.declared.register.Register.{Register}
use Rattle.cad_register.specs.Images.{HoldsRegister, IsEmptyFile, FindsRegister}
use Rattle.cad_register.specs.Opening.{Opened}
use Rattle.cad_register.specs.Running.{RunsOver, IsFoundIn}
use Rattle.cad_register.specs.Stands.{IsStoreFault}
use Rattle.cad_register.specs.lemmas.RunningLemmas.{runs_in_file}
use Rattle.cadastred_run.specs.declared.outcome.Outcome.{Outcome}
use Rattle.cadastred_run.specs.declared.outcome.Outcome.TheVariants as outcome
use Rattle.cadastred_run.specs.Reading.{ReadsFound, ReadsInFile}

-- if a refusal by the database is one of the ends
module _ (MayEnd : Outcome → Type 0) (Does : List Command → Outcome → Type 0) (DoesNothing : Type 0)
    (refuses : (commands : List Command) (fault : RegisterFault) → IsStoreFault fault → DoesNothing → Does commands (outcome.Register fault))
    {D : Type 0} {d : disk.Ghosts D} (image : Image) (ended : Outcome × Held (FileStore D d)) where
  held : (found : Result (Register (FileStore D d)) (RegisterFault × Held (FileStore D d))) (lent : Held (FileStore D d)) → Opened over_files lent found → IsFoundIn over_files image found → ReadsFound MayEnd Does DoesNothing over_files found ended
      → HasCleanDisk (file_state ended.1) → (commands : List Command) → HoldsRegister image commands → length commands ≤ most_revision → Does commands ended.0
  held (Ok register) lent opened begins reads clean commands holds room =
      let clean = subst (λ l. HasCleanDisk (file_state l)) reads.1 clean in
      reads.2.does clean commands (begins.held (reads.2.clean clean) commands holds room)
  held (Err refused) lent opened begins reads clean commands holds room =
      let clean = subst (λ l. HasCleanDisk (file_state l)) reads.back clean in
      let other = begins.held clean commands holds room in
      subst (Does commands) (sym reads.ends) (refuses commands refused.0 (opened.cause other) reads.nothing)

  empty : (found : Result (Register (FileStore D d)) (RegisterFault × Held (FileStore D d))) → IsFoundIn over_files image found → ReadsFound MayEnd Does DoesNothing over_files found ended
      → HasCleanDisk (file_state ended.1) → IsEmptyFile image → DoesNothing
  empty (Ok register) begins reads clean none = absurd (begins.empty (reads.2.clean (subst (λ l. HasCleanDisk (file_state l)) reads.1 clean)) none)
  empty (Err refused) begins reads clean none = reads.nothing

  pub reads_in_file : (lent : Held (FileStore D d)) → FindsRegister image (file_state lent) → RunsOver (Opened over_files) (ReadsFound MayEnd Does DoesNothing over_files) lent ended → ReadsInFile MayEnd Does DoesNothing image ended
  reads_in_file lent finds over =
      let runs = runs_in_file image (ReadsFound MayEnd Does DoesNothing over_files) lent ended finds over in
      record {
        runs = runs;
        held = held runs.runs.found runs.lent runs.runs.opened runs.begins runs.runs.works;
        empty = empty runs.runs.found runs.begins runs.runs.works;
      }
