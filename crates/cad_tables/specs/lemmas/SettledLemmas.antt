-- A database that is as it was, one question after another.
use Rattle.std.proofs.Common.{refl, ◌∙◌, IsTrue}
use Rattle.std.proofs.Math.Nat.{le_refl, le_trans}
use Rattle.sqlite_trees.specs.declared.store.Store.{Ghosts}
use Rattle.sqlite.specs.State.{IsUnchanged, Survives}
use Rattle.sqlite.specs.Held.{Held, state}
use Rattle.sqlite.proofs.StateLemmas.{unchanged}
use Rattle.sqlite.proofs.Callers.{unchanged_then}
use Rattle.cad_tables.specs.Opening.{IsSettled}

module _ {S : Type 0} (g : Ghosts S) where
  pub settled_here : (old : Held S) → IsTrue (state g old).is_open → IsSettled g old old
  settled_here old live = record { same = unchanged (state g old) live; limit = refl; faults = le_refl (state g old).faults }

  pub settled_by : (old new : Held S) (P : _) → IsUnchanged (state g old) (state g new) → Survives (state g old) (state g new) P → IsSettled g old new
  settled_by old new P same survives = record { same = same; limit = survives.limit; faults = survives.counts }

  pub settled_then : (old mid new : Held S) → IsSettled g old mid → IsSettled g mid new → IsSettled g old new
  settled_then old mid new p q = record {
    same = unchanged_then (state g old) (state g mid) (state g new) p.same q.same;
    limit = q.limit ∙ p.limit;
    faults = le_trans p.faults q.faults;
  }
