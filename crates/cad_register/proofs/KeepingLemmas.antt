-- What a call keeps of a register, by what it asks of the database and what it changes there.
use Rattle.std.proofs.Common.{◌≡◌, Result, Ok, Err, List, IsTrue, refl, ◌∙◌}
use Rattle.sqlite_trees.specs.Tree.{Trees}
use Rattle.sqlite_trees.specs.declared.store.Store.{Ghosts}
use Rattle.sqlite.specs.State.{State, HasCleanDisk}
use Rattle.sqlite.specs.Held.{Held}
use Rattle.cad_tables.specs.Steps.{KeepsAll}
use Rattle.cad_versions.specs.declared.command.Command.{Command}
use Rattle.cad_versions.specs.declared.fault.RegisterFault.{RegisterFault}
use Rattle.cad_register.specs.declared.register.Register.{Register}
use Rattle.cad_register.specs.Leaving.{IsLater, AsksOnly}
use Rattle.cad_register.specs.Registers.{state_of, IsRegisterOf}
use Rattle.cad_register.specs.Keeping.{Keeps}
use Rattle.cad_register.specs.Stands.{IsStoreFault}
use Rattle.cad_register.specs.Surviving.{Leaves, LeavesEither}
use Rattle.cad_register.proofs.LeavingLemmas.{not_answered}
use Rattle.cad_register.proofs.StandLemmas.{stands_kept}
use Rattle.cad_register.proofs.SurvivingLemmas.{leaves_standing, leaves_then, leaves_or}

-- it counts as many commands, over a connection that has moved on
module _ {S : Type 0} (g : Ghosts S) (old : Register S) (held : Held S) where
  abbrev pub new : Register S
  new = record old { connection = held }

  -- the rows stay, and so do the commands
  register_kept : KeepsAll (state_of g old) (state_of g new) → IsTrue (state_of g new).is_open → (cs : List Command) → IsRegisterOf g old cs → IsRegisterOf g new cs
  register_kept keeps live cs register = record {
    stands = stands_kept (state_of g old) (state_of g new) cs keeps live register.stands;
    counted = register.counted;
  }

  -- the database is asked alone, and leaves its last commit
  pub keeps_asked : {X : Type 0} (r : Result X RegisterFault) → ((trees : Trees) → IsTrue (state_of g old).is_open → (state_of g old).may_leave trees → trees ≡ (state_of g old).committed.trees)
      → AsksOnly (state_of g old) (state_of g new) r → Keeps g Leaves old new r
  keeps_asked (Ok x) settled asks = record {
    same = λ clean. tt;
    unchanged = λ clean live. tt;
    crash = λ clean cs register. leaves_then (state_of g old) (state_of g new) cs (asks.left clean) (leaves_standing (state_of g old) cs settled register.stands);
  }
  keeps_asked (Err cause) settled asks = record {
    same = λ clean own. (asks.same clean own, refl);
    unchanged = λ clean live cs register. register_kept (asks.kept clean live register.stands.settled) live cs register;
    crash = λ clean cs register. leaves_then (state_of g old) (state_of g new) cs (asks.left clean) (leaves_standing (state_of g old) cs settled register.stands);
  }

  -- so are the tables refused a change, once what it needs was answered
  pub keeps_refused : {X Y : Type 0} (mid : State) (x : X) (cause : RegisterFault) → IsStoreFault cause → AsksOnly {X = X} (state_of g old) mid (Ok x) → IsLater mid (state_of g new)
      → (HasCleanDisk (state_of g new) → IsTrue (state_of g new).is_open → KeepsAll mid (state_of g new)) → (May : State → List Command → Type 0) → (HasCleanDisk (state_of g new) → (cs : List Command) → IsRegisterOf g old cs → May (state_of g new) cs)
      → Keeps g May old new {X = Y} (Err cause)
  keeps_refused mid x cause is asks later keeps May left = record {
    same = λ clean own. absurd (not_answered cause is own);
    unchanged = λ clean live.
        let same = asks.same (later.clean clean) tt in
        let all = keeps clean live in
        register_kept (all.0 ∙ same.now, all.1 ∙ same.committed) live;
    crash = left;
  }

-- the commands alone are among what may be found
pub keeps_either : {S X : Type 0} (g : Ghosts S) (old new : Register S) (command : Command) (r : Result X RegisterFault) → Keeps g Leaves old new r → Keeps g (LeavesEither command) old new r
keeps_either g old new command r keeps = record {
  same = keeps.same;
  unchanged = keeps.unchanged;
  crash = λ clean cs register. leaves_or (state_of g new) cs command (keeps.crash clean cs register);
}
