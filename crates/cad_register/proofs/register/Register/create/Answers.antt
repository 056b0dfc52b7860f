use Rattle.std.proofs.Common.{ap, Ok, refl}
use Rattle.sqlite.specs.State.{HasCleanDisk}
use Rattle.sqlite.specs.Held.{state}
use Rattle.cad_register.proofs.SurvivingLemmas.{leaves_made}
use Rattle.cad_register.proofs.WriteLemmas.{no_entries}
use Rattle.cad_register.proofs.LeavingLemmas.{later_by, not_as_none}
use Rattle.cad_register.proofs.register.Register.create.Goals as goal

pub returns-in-Ok-Made : goal.returns-in-Ok-Made
returns-in-Ok-Made g c =
    let old = state g.S.Store c.args.connection in
    let new = state g.S.Store c.create.new.conn in
    let creates = λ (clean : HasCleanDisk new). c.in-Ok-Made.ensures.made clean (ap Ok c.in-Ok-Made.field-0-is) in
    record {
      made = λ clean none.
          let held = (creates clean).holds none in
          record {
            stands = record { accepted = tt; holds = no_entries new.now held.0; sound = held.1; settled = (creates clean).committed; live = (creates clean).is_open };
            counted = refl;
          };
      free = λ clean. (creates clean).free;
      taken = λ clean. tt;
      cause = tt;
      store = λ clean. tt;
      unchanged = λ clean. tt;
      later = later_by old new _ c.create.ensures.keeps.crash;
      crash = λ clean. leaves_made old new clean c.create.ensures.keeps.crash;
    }

pub returns-in-Ok-AlreadyExists : goal.returns-in-Ok-AlreadyExists
returns-in-Ok-AlreadyExists g c =
    let old = state g.S.Store c.args.connection in
    let new = state g.S.Store c.create.new.conn in
    let standing = λ (clean : HasCleanDisk new). c.in-Ok-AlreadyExists.ensures.standing clean (ap Ok c.in-Ok-AlreadyExists.field-0-is) in
    let survives = c.create.ensures.keeps.crash in
    record {
      made = λ clean. tt;
      free = λ clean. tt;
      taken = λ clean is. ((standing clean).0, record { same = (standing clean).1; limit = survives.limit; faults = survives.counts });
      cause = λ other. absurd (other refl);
      store = λ clean other. absurd (other refl);
      unchanged = λ clean still. ((standing clean).1.0.now_is, (standing clean).1.0.committed_is);
      later = later_by old new _ survives;
      crash = λ clean. leaves_made old new clean survives;
    }

pub returns-in-Err : goal.returns-in-Err
returns-in-Err g c =
    let old = state g.S.Store c.args.connection in
    let new = state g.S.Store c.create.new.conn in
    let survives = c.create.ensures.keeps.crash in
    record {
      made = λ clean. tt;
      free = λ clean. tt;
      taken = λ clean is. absurd (not_as_none c.store_fault.result c.store_fault.ensures.cause is);
      cause = λ other. c.store_fault.ensures.cause;
      store = λ clean other. let told = c.in-Err.ensures.keeps.refused clean in (told.0, rw told.1 at c.store_fault.ensures.told, told.2);
      unchanged = λ clean still. c.in-Err.ensures.keeps.neither clean still;
      later = later_by old new _ survives;
      crash = λ clean. leaves_made old new clean survives;
    }
