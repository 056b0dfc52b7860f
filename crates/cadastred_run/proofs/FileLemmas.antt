-- Hosting over what a file held.
use Rattle.std.proofs.Common.{subst}
use Rattle.std.specs.Prelude.{◌≡◌, ◌≤◌, ⊤, ℕ, List, [], length, Option, None, Result, Ok, Err, IfOk}
use Rattle.std.specs.declared.net.socket_addr.SocketAddr.{SocketAddr}
use Rattle.sqlite_disk.specs.declared.Disk as disk
use Rattle.sqlite_store.specs.declared.store.FileStore.{FileStore}
use Rattle.sqlite_trees.specs.declared.store.Store.{Ghosts}
use Rattle.sqlite.specs.Files.{file_state, over_files}
use Rattle.sqlite.specs.Held.{Held}
use Rattle.sqlite.specs.Recovery.{Image}
use Rattle.cad_tables.specs.Opening.{most_revision}
use Rattle.cad_versions.specs.declared.command.Command.{Command}
use Rattle.cad_versions.specs.declared.fault.RegisterFault.{RegisterFault}
use Rattle.cad_register.specs.declared.register.Register.{Register}
use Rattle.cad_register.specs.Images.{FindsRegister, HoldsRegister, IsEmptyFile}
use Rattle.cad_register.specs.Opening.{OpenedOrCreated}
use Rattle.cad_register.specs.Running.{RunsOver, IsFoundOrMadeIn}
use Rattle.cad_register.specs.lemmas.RunningLemmas.{runs_in_file_or_new}
use Rattle.cadastred_run.specs.declared.outcome.Outcome.{Outcome}
use Rattle.cadastred_run.specs.FileHosting.{HostsFound, KeepsFound, HostsInFile}

module _ (asked : SocketAddr) (before after : Option (List ℕ)) where
  -- what the log says is left out
  without_log : {S : Type 0} (A : Type 0) (g : Ghosts S) (found : Result (Register S) (RegisterFault × Held S)) (ended : Outcome × Held S) → HostsFound asked before after None None A g found ended → HostsFound asked before after None None ⊤ g found ended
  without_log A g (Ok register) ended hosts = hosts
  without_log A g (Err refused) ended hosts = record { ends = hosts.ends; back = hosts.back; nothing = (hosts.nothing.0, hosts.nothing.1, tt) }

  module _ {D : Type 0} {d : disk.Ghosts D} (image : Image) (ended : Outcome × Held (FileStore D d)) where
    keeps_held : (found : Result (Register (FileStore D d)) (RegisterFault × Held (FileStore D d))) → IsFoundOrMadeIn over_files image found → (works : HostsFound asked before after None None ⊤ over_files found ended)
        → (commands : List Command) → HoldsRegister image commands → length commands ≤ most_revision → KeepsFound asked before after None None ⊤ over_files commands found ended works
    keeps_held (Ok register) begins works commands holds room = λ clean. works.keeps clean commands (begins.held (works.clean clean) commands holds room)
    keeps_held (Err refused) begins works commands holds room = tt

    keeps_empty : (found : Result (Register (FileStore D d)) (RegisterFault × Held (FileStore D d))) → IsFoundOrMadeIn over_files image found → (works : HostsFound asked before after None None ⊤ over_files found ended)
        → IsEmptyFile image → KeepsFound asked before after None None ⊤ over_files [] found ended works
    keeps_empty (Ok register) begins works empty = λ clean. works.keeps clean [] (begins.empty (works.clean clean) empty)
    keeps_empty (Err refused) begins works empty = tt

-- over a file at the address that was requested
pub hosts_in_file : {D A : Type 0} {d : disk.Ghosts D} (before after : Option (List ℕ)) (image : Image) (asked requested : SocketAddr) (lent : Held (FileStore D d)) (ended : Outcome × Held (FileStore D d)) → asked ≡ requested → FindsRegister image (file_state lent)
    → RunsOver (OpenedOrCreated over_files) (HostsFound asked before after None None A over_files) lent ended → HostsInFile before after image requested ended
hosts_in_file {D} {A} {d} before after image asked requested lent ended same finds over =
    let works = without_log asked before after A over_files over.found ended over.works in
    let runs = runs_in_file_or_new image (HostsFound asked before after None None ⊤ over_files) lent ended finds (record { found = over.found; opened = over.opened; works = works }) in
    subst (λ (address : SocketAddr). HostsInFile before after image address ended) same (record {
      runs = runs;
      held = keeps_held asked before after image ended runs.runs.found runs.begins runs.runs.works;
      empty = keeps_empty asked before after image ended runs.runs.found runs.begins runs.runs.works;
    })

-- what follows of the value
pub ok_also : {C E : Type 0} {P Q : C → Type 0} (result : Result C E) → ((value : C) → P value → Q value) → IfOk result P → IfOk result Q
ok_also (Ok value) also holds = also value holds
ok_also (Err error) also holds = tt
