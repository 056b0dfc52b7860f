-- Clients and the land office over a register's file, and how that ends a run (own profile).
use Rattle.std.specs.Prelude.{◌≡◌, ◌≤◌, ⊤, ℕ, List, [], length, Option, None, Result, Ok, Err}
use Rattle.std.specs.Net.Grammar.{IsSocketText}
use Rattle.std.specs.declared.net.socket_addr.SocketAddr.{SocketAddr}
use Rattle.sqlite_disk.specs.declared.Disk as disk
use Rattle.sqlite_store.specs.declared.store.FileStore.{FileStore}
use Rattle.sqlite_trees.specs.declared.store.Store.{Ghosts}
use Rattle.sqlite.specs.Files.{file_state, over_files}
use Rattle.sqlite.specs.Held.{Held}
use Rattle.sqlite.specs.Recovery.{Image}
use Rattle.sqlite.specs.State.{HasCleanDisk}
use Rattle.cad_tables.specs.Opening.{most_revision}
use Rattle.cad_versions.specs.declared.command.Command.{Command}
use Rattle.cad_versions.specs.declared.fault.RegisterFault.{RegisterFault}
use Rattle.cad_register.specs.declared.register.Register.{Register}
use Rattle.cad_register.specs.Registers.{connection_of, state_of, IsRegisterOf}
use Rattle.cad_register.specs.Images.{FindsRegister, HoldsRegister, IsEmptyFile, IsOpeningFault}
use Rattle.cad_register.specs.Ledgers.{register_as_ledger}
use Rattle.cad_register.specs.Opening.{OpenedOrCreated}
use Rattle.cad_register.specs.Running.{RunsInFileOrNew, RunsOver}
use Rattle.cad_network.specs.Deeds.{Deed, Adds}
use Rattle.cad_serve.specs.Statuses.{EndsWithout}
use Rattle.cadastred_run.specs.declared.invocation.Service.{Service}
use Rattle.cadastred_run.specs.declared.outcome.Outcome.{Outcome}
use Rattle.cadastred_run.specs.declared.outcome.Outcome.TheVariants as outcome
use Rattle.cadastred_run.specs.Hosting.{HostsOver}
use Rattle.cadastred_run.specs.Keeping.{Keeps}
use Rattle.cadastred_run.specs.Readings.{register_as_journal}

-- the address that was requested, what standard output holds before and after, and what was done at the network before and after
module _ (asked : SocketAddr) (before after : Option (List ℕ)) (from to : Option (List Deed)) where
  -- the register is hosted, and the database's connection is given back
  pub record HostsRegister {S : Type 0} (g : Ghosts S) (register : Register S) (ended : Outcome × Held S) : Type 0 where
    pub left : Register S
    pub hosts : HostsOver asked before after from to (register_as_ledger g) (register_as_journal g) register (ended.0, left)
    pub back : ended.1 ≡ connection_of left
    -- if the disk is clean at the end, it was so at first
    pub clean : HasCleanDisk (state_of g left) → HasCleanDisk (state_of g register)
    -- and then the register holds what it held at first, and what the office entered
    pub keeps : HasCleanDisk (state_of g left) → (commands : List Command) → IsRegisterOf g register commands
        → Keeps asked before after from to (register_as_ledger g) (register_as_journal g) commands register (ended.0, left) hosts

  -- if no register is found or made, the run ends for this cause, and nothing is written, logged or done at the network
  abbrev pub HostsFound : {S : Type 0} → Type 0 → Ghosts S → Result (Register S) (RegisterFault × Held S) → Outcome × Held S → Type 0
  HostsFound NothingLogged g (Err refused) ended = EndsWithout ((after ≡ before) × Adds from to [] × NothingLogged) (outcome.Register refused.0) refused.1 ended
  HostsFound NothingLogged g (Ok register) ended = HostsRegister g register ended

  -- a file that held this at first is opened, and the register that it holds, or that is made in it, is hosted
  pub record HostsOpened {D : Type 0} {d : disk.Ghosts D} (NothingLogged : Type 0) (image : Image) (ended : Outcome × Held (FileStore D d)) : Type 0 where
    pub lent : Held (FileStore D d)
    pub finds : FindsRegister image (file_state lent)
    pub runs : RunsOver (OpenedOrCreated over_files) (HostsFound NothingLogged over_files) lent ended

  -- what the register holds at the end that was found or made and held these commands
  abbrev pub KeepsFound : {S : Type 0} (NothingLogged : Type 0) (g : Ghosts S) → List Command → (found : Result (Register S) (RegisterFault × Held S)) (ended : Outcome × Held S) → HostsFound NothingLogged g found ended → Type 0
  KeepsFound NothingLogged g commands (Err refused) ended hosts = ⊤
  KeepsFound NothingLogged g commands (Ok register) ended hosts =
      HasCleanDisk (state_of g hosts.left) → Keeps asked before after from to (register_as_ledger g) (register_as_journal g) commands register (ended.0, hosts.left) hosts.hosts

-- what standard output holds before and after, and what the file held at first
module _ (before after : Option (List ℕ)) (image : Image) where
  -- a run over the file at this address; what is done at the system's network and what is logged is not known
  pub record HostsInFile {D : Type 0} {d : disk.Ghosts D} (asked : SocketAddr) (ended : Outcome × Held (FileStore D d)) : Type 0 where
    -- the run finds the register that the file held, or makes one if it held none, before it writes the address; and hosts it
    pub runs : RunsInFileOrNew image (HostsFound asked before after None None ⊤ over_files) ended
    -- what the register holds at the end, if the file held one, and if it was empty
    pub held : (commands : List Command) → HoldsRegister image commands → length commands ≤ most_revision
        → KeepsFound asked before after None None ⊤ over_files commands runs.runs.found ended runs.runs.works
    pub empty : IsEmptyFile image → KeepsFound asked before after None None ⊤ over_files [] runs.runs.found ended runs.runs.works

  -- so at the address that the service names
  abbrev pub Serves : {D : Type 0} {d : disk.Ghosts D} → Service → Outcome × Held (FileStore D d) → Type 0
  Serves service ended = (asked : SocketAddr) × IsSocketText service.address.now asked × HostsInFile asked ended

-- how a run ends that hosts nothing: a socket is not opened, the system refuses, or the file is not opened
abbrev pub EndsUnopened : Outcome → Type 0
EndsUnopened outcome.Address = ⊤
EndsUnopened outcome.Office = ⊤
EndsUnopened outcome.Failed = ⊤
EndsUnopened (outcome.Register fault) = IsOpeningFault fault
EndsUnopened other = ⊥

-- how a run over a file ends: as its work did, or as it ended without one
abbrev pub outcome_of_run : {C : Type 0} → Result (Outcome × C) Outcome → Outcome
outcome_of_run (Ok ended) = ended.0
outcome_of_run (Err outcome) = outcome
