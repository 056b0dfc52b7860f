-- Serving a connection over the sample register in a database in memory, and how that ends a run (own profile).
use Rattle.std.specs.Prelude.{◌≡◌, ◌⊎◌, ℕ, List, Option, Result, Ok, Err}
use Rattle.sqlite_trees.specs.declared.memory.MemStore.{MemStore}
use Rattle.sqlite_trees.specs.declared.store.Store.{Ghosts}
use Rattle.sqlite.specs.Held.{Held}
use Rattle.sqlite.specs.Steps.{over_memory}
use Rattle.cad_tables.specs.Tables.{no_schema}
use Rattle.cad_versions.specs.declared.fault.RegisterFault.{RegisterFault}
use Rattle.cad_versions.specs.declared.fault.RegisterFault.TheVariants as register
use Rattle.cad_register.specs.declared.register.Register.{Register}
use Rattle.cad_register.specs.Registers.{connection_of}
use Rattle.cad_register.specs.Ledgers.{register_as_ledger}
use Rattle.cad_register.specs.Opening.{Created}
use Rattle.cad_register.specs.Running.{RunsOver}
use Rattle.cadastre_run.specs.declared.outcome.Outcome.{Outcome}
use Rattle.cadastre_run.specs.declared.outcome.Outcome.TheVariants as outcome
use Rattle.cadastre_run.specs.Serving.{AnswersSample}
use Rattle.cadastre_run.specs.FileAsking.{EndsUnfound}

module _ {S : Type 0} (g : Ghosts S) (from to before after : Option (List ℕ)) (AtEnd : Type 0) where
  -- the sample is entered into the register, a connection is served over it, and the database's connection is given back
  pub record AnswersSampleRegister (register : Register S) (ended : Outcome × Held S) : Type 0 where
    pub left : Register S
    pub answers : AnswersSample (register_as_ledger g) from to before after AtEnd register (ended.0, left)
    pub back : ended.1 ≡ connection_of left

  abbrev pub SamplesOver : Result (Register S) (RegisterFault × Held S) → Outcome × Held S → Type 0
  SamplesOver (Err refused) ended = EndsUnfound g from to before after AtEnd refused ended
  SamplesOver (Ok register) ended = AnswersSampleRegister register ended

module _ (from to before after : Option (List ℕ)) (AtEnd : Type 0) (ended : Outcome) where
  -- a connection over the sample in a database in memory, which is empty at first: its register is made before anything is read
  pub record SamplesInMemory : Type 0 where
    pub lent : Held MemStore
    pub last : Held MemStore
    pub empty : lent.schema ≡ no_schema
    pub runs : RunsOver (Created over_memory) (SamplesOver over_memory from to before after AtEnd) lent (ended, last)

  -- there is no memory for a database, and nothing is read or written; or a connection is served over the sample
  abbrev pub RunsSample : Type 0
  RunsSample = ((ended ≡ outcome.Register register.Memory) × (to ≡ from) × (after ≡ before)) ⊎ SamplesInMemory
