use Rattle.std.proofs.Common.{◌≡◌, ◌≤◌, List, length, refl}
use Rattle.sqlite.specs.Held.{state}
use Rattle.sqlite.specs.State.{HasCleanDisk}
use Rattle.cad_tables.specs.Opening.{most_revision}
use Rattle.cad_versions.specs.declared.command.Command.{Command}
use Rattle.cad_register.specs.Registers.{IsRegisterOf}
use Rattle.cad_register.specs.Stands.{StandsFor}
use Rattle.cad_register.proofs.StandLemmas.{stands_same}
use Rattle.cad_register.proofs.SurvivingLemmas.{leaves_standing, leaves_then, leaves_no_more, stands_opened}
use Rattle.cad_register.proofs.LeavingLemmas.{asks_answered, asks_refused, not_as_none}
use Rattle.cad_register.proofs.register.Register.open.Goals as goal

pub returns-in-Ok-Some : goal.returns-in-Ok-Some
returns-in-Ok-Some g c =
    let old = state g.S.Store c.args.connection in
    let new = state g.S.Store c.open.new.conn in
    let reads = c.in-Ok-Some.ensures.reads in
    let stands = λ (clean : HasCleanDisk new) (cs : List Command) (stood : StandsFor old cs) (low : length cs ≤ most_revision).
    let told = rw c.in-Ok-Some.field-0-is at (c.in-Ok-Some.ensures.stands clean (length cs) stood.holds.lines stood.holds.holds low) in
    let same : c.in-Ok-Some.revision ≡ length cs = cc told in
    let it : IsRegisterOf g.S.Store (record { connection = c.open.new.conn; revision = c.in-Ok-Some.revision; alloc = c.args.alloc }) cs = record { stands = stands_same old new cs (reads.same clean) stood; counted = same } in
    it in
    record {
      found = λ clean. rw c.in-Ok-Some.field-0-is at (c.in-Ok-Some.ensures.found clean);
      missing = λ clean. tt;
      cause = tt;
      store = λ clean. tt;
      stands = stands;
      recovered = λ clean cs opened low. stands clean cs (stands_opened old cs opened) low;
      leaves = asks_answered old new _ _ reads;
      crash = λ clean cs stood. leaves_then old new cs (leaves_no_more old new clean reads.survives) (leaves_standing old cs (g.met.S.Store.settled c.args.connection.store) stood);
    }

pub returns-in-Ok-None : goal.returns-in-Ok-None
returns-in-Ok-None g c =
    let old = state g.S.Store c.args.connection in
    let new = state g.S.Store c.open.new.conn in
    let reads = c.in-Ok-None.ensures.reads in
    let stands = λ (clean : HasCleanDisk new) (cs : List Command) (stood : StandsFor old cs) (low : length cs ≤ most_revision).
    let told = rw c.in-Ok-None.field-0-is at (c.in-Ok-None.ensures.stands clean (length cs) stood.holds.lines stood.holds.holds low) in
    absurd (cc told) in
    record {
      found = λ clean. tt;
      missing = λ clean is. rw c.in-Ok-None.field-0-is at (c.in-Ok-None.ensures.found clean);
      cause = λ other. absurd (other refl);
      store = λ clean other. absurd (other refl);
      stands = λ clean cs stood low is. stands clean cs stood low;
      recovered = λ clean cs opened low is. stands clean cs (stands_opened old cs opened) low;
      leaves = asks_answered old new _ _ reads;
      crash = λ clean cs stood. leaves_then old new cs (leaves_no_more old new clean reads.survives) (leaves_standing old cs (g.met.S.Store.settled c.args.connection.store) stood);
    }

pub returns-in-Err : goal.returns-in-Err
returns-in-Err g c =
    let old = state g.S.Store c.args.connection in
    let new = state g.S.Store c.open.new.conn in
    let reads = c.in-Err.ensures.reads in
    let cause = c.store_fault.ensures.cause in
    record {
      found = λ clean. tt;
      missing = λ clean is. absurd (not_as_none c.store_fault.result cause is);
      cause = λ other. cause;
      store = λ clean other. (c.in-Err.fault, c.store_fault.ensures.told, c.in-Err.ensures.refused clean);
      stands = λ clean cs stood low is. not_as_none c.store_fault.result cause is;
      recovered = λ clean cs opened low is. not_as_none c.store_fault.result cause is;
      leaves = asks_refused old new _ c.store_fault.result cause reads;
      crash = λ clean cs stood. leaves_then old new cs (leaves_no_more old new clean reads.survives) (leaves_standing old cs (g.met.S.Store.settled c.args.connection.store) stood);
    }
