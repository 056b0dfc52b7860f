-- The register that is opened over what its files held.
use Rattle.std.proofs.Common.{Ok, Err, inl, inr, sym, subst}
use Rattle.sqlite_disk.specs.declared.Disk as disk
use Rattle.sqlite_store.specs.declared.store.FileStore.{FileStore}
use Rattle.sqlite_trees.specs.declared.store.Store.{Ghosts}
use Rattle.sqlite.specs.Files.{file_state, over_files}
use Rattle.sqlite.specs.Held.{Held, state}
use Rattle.sqlite.specs.Recovery.{Image}
use Rattle.cad_tables.specs.Opening.{LacksColumns}
use Rattle.cad_tables.specs.lemmas.SchemaLemmas.{no_schema_lacks}
use Rattle.cad_register.specs.Images.{FindsRegister}
use Rattle.cad_register.specs.Opening.{Outcome, Opened, OpenedOrCreated}
use Rattle.cad_register.specs.Running.{RunsOver, IsFoundIn, IsFoundOrMadeIn, RunsInFile, RunsInFileOrNew}

module _ {S : Type 0} (g : Ghosts S) (image : Image) (lent : Held S) (finds : FindsRegister image (state g lent)) where
  pub found_or_made_in : (found : Outcome S) → OpenedOrCreated g lent found → IsFoundOrMadeIn g image found
  found_or_made_in (Ok register) it = record {
    held = λ clean commands holds room. it.recovered clean commands (finds.held (it.later.clean clean) commands holds) room;
    empty = λ clean none. it.made clean (finds.empty (it.later.clean clean) none);
  }
  found_or_made_in (Err refused) it = record {
    held = λ clean commands holds room. it.recovered clean commands (finds.held (it.later.clean clean) commands holds) room;
    empty = λ clean none. tt;
  }

  pub found_in : (found : Outcome S) → Opened g lent found → IsFoundIn g image found
  found_in (Ok register) it = record {
    held = λ clean commands holds room. it.recovered clean commands (finds.held (it.leaves.later.clean clean) commands holds) room;
    empty = λ clean none.
        let lacks = subst LacksColumns (sym (finds.empty (it.leaves.later.clean clean) none)) no_schema_lacks in
        elim (it.found clean) [ inl told ↦ (let no = told.1 in cc) | inr told ↦ told.1 lacks ];
  }
  found_in (Err refused) it = record {
    held = λ clean commands holds room. it.recovered clean commands (finds.held (it.leaves.later.clean clean) commands holds) room;
    empty = λ clean none. tt;
  }

module _ {D O : Type 0} {d : disk.Ghosts D} (image : Image) (Works : Outcome (FileStore D d) → O × Held (FileStore D d) → Type 0) (lent : Held (FileStore D d)) (ended : O × Held (FileStore D d)) (finds : FindsRegister image (file_state lent)) where
  pub runs_in_file : RunsOver (Opened over_files) Works lent ended → RunsInFile image Works ended
  runs_in_file runs = record { lent = lent; finds = finds; runs = runs; begins = found_in over_files image lent finds runs.found runs.opened }

  pub runs_in_file_or_new : RunsOver (OpenedOrCreated over_files) Works lent ended → RunsInFileOrNew image Works ended
  runs_in_file_or_new runs = record { lent = lent; finds = finds; runs = runs; begins = found_or_made_in over_files image lent finds runs.found runs.opened }
