use Rattle.std.proofs.Common.{◌≡◌, ◌∙◌, length, map, subst, sym, ap}
use Rattle.std.proofs.lemmas.Result.{IfErr-weaker, IfOk-weaker}
use Rattle.sqlite.specs.Held.{state}
use Rattle.cad_tables.specs.Listing.{HaveNoTies, number_order, lines_of_object, history as known, outline_of}
use Rattle.cad_tables.specs.Texts.{history_text}
use Rattle.cad_tables.specs.Faults.{fault_of}
use Rattle.cad_versions.specs.Objects.{object_number}
use Rattle.cad_versions.specs.lemmas.HistoryLemmas.{histories}
use Rattle.cad_register.specs.Refusing.{asking, register_fault_of}
use Rattle.cad_register.proofs.OrderLemmas.{history_untied, history_rows}
use Rattle.cad_register.proofs.StandingLemmas.{standing_told}
use Rattle.cad_register.proofs.StandLemmas.{stands_kept, stands_same}
use Rattle.cad_tables.specs.lemmas.SettledLemmas.{settled_here, settled_by}
use Rattle.cad_register.proofs.RefusingLemmas.{not_for_memory}
use Rattle.cad_register.proofs.LeavingLemmas.{not_answered, as_before, asks_answered, asks_refused, store_known}
use Rattle.cad_register.proofs.NamingLemmas.{rows_named, rows_tell, rows_known, store_named, faults_settle}
use Rattle.cad_register.proofs.asking.standing_of.Goals as goal

pub returns-in-Ok-clause-inquires : goal.returns-in-Ok-clause-inquires
returns-in-Ok-clause-inquires g c =
    let held = c.args.connection.now in
    let later = c.history.new.conn in
    let old = state g.S.Store held in
    let new = state g.S.Store later in
    let object = c.args.object in
    let n : c.number.result ≡ object_number object = c.number.ensures.value in
    record {
      told = λ clean cs stands.
          let all = histories cs stands.accepted in
          let lines = stands.holds.lines in
          let stored = stands.holds.rows in
          let untied = subst (λ n. HaveNoTies number_order (lines_of_object n lines)) (sym n) (history_untied object lines cs stored all) in
          let rows = c.deref.ensures.value ∙ c.in-Ok.ensures.rows clean (length cs) lines stands.holds.holds untied ∙ ap (λ n. map outline_of (known n lines)) n ∙ history_rows object lines cs stored all in
          standing_told object cs c.deref.result.now new c.read.result (all object) rows (stands_same old new cs (c.in-Ok.ensures.reads.same clean) stands) c.read.ensures.known c.read.ensures.damaged;
      asked = λ clean cs stands. faults_settle g.S.Store held later object c.deref.result.now c.read.result (settled_by g.S.Store held later _ (c.in-Ok.ensures.reads.same clean) c.history.ensures.reads.survives) c.read.ensures.damaged;
      leaves = asks_answered old new _ _ c.in-Ok.ensures.reads;
      settled = λ clean live answered. settled_by g.S.Store held later _ (c.in-Ok.ensures.reads.same clean) c.in-Ok.ensures.reads.survives;
      known = IfErr-weaker c.read.result _ _ (rows_known object c.deref.result.now) c.read.ensures.damaged;
    }

pub returns-in-Err-clause-inquires : goal.returns-in-Err-clause-inquires
returns-in-Err-clause-inquires g c =
    let held = c.args.connection.now in
    let later = c.history.new.conn in
    let old = state g.S.Store held in
    let new = state g.S.Store later in
    let cause = c.store_fault.ensures.cause in
    record {
      told = λ clean cs stands. (cause, λ live. stands_kept old new cs (c.in-Err.ensures.reads.kept clean live stands.settled) live stands);
      asked = λ clean cs stands e.
          let told = c.in-Err.ensures.refused clean in
          record {
            mid = held;
            settled = settled_here g.S.Store held stands.live;
            question = asking history_text c.number.result;
            asked = ap (asking history_text) c.number.ensures.value;
            cause = told.0;
            told = not_for_memory (fault_of told.0) (ap register_fault_of (sym told.1) ∙ sym c.store_fault.ensures.told ∙ e);
            fails = told.2;
          };
      leaves = asks_refused old new _ c.store_fault.result cause c.in-Err.ensures.reads;
      settled = λ clean live answered. absurd (not_answered c.store_fault.result cause answered);
      known = store_known c.store_fault.result cause;
    }

pub returns-in-Ok-clause-shown : goal.returns-in-Ok-clause-shown
returns-in-Ok-clause-shown g c =
    let held = c.args.connection.now in
    let later = c.history.new.conn in
    IfOk-weaker c.read.result _ _
    (λ s tell. rows_tell g.S.Store held later c.args.object c.number.result c.number.ensures.value c.deref.result.now
    (λ clean. (as_before (state g.S.Store held) (state g.S.Store later) (c.in-Ok.ensures.reads.same clean), rw c.deref.ensures.value (c.in-Ok.ensures.shown clean))) tell) c.read.ensures.told

pub returns-in-Ok-clause-damaged : goal.returns-in-Ok-clause-damaged
returns-in-Ok-clause-damaged g c =
    let held = c.args.connection.now in
    let later = c.history.new.conn in
    IfErr-weaker c.read.result _ _
    (λ why bad. rows_named g.S.Store held later c.args.object c.number.result c.number.ensures.value c.deref.result.now
    (λ clean. (as_before (state g.S.Store held) (state g.S.Store later) (c.in-Ok.ensures.reads.same clean), rw c.deref.ensures.value (c.in-Ok.ensures.shown clean))) why bad) c.read.ensures.damaged

pub returns-in-Err-clause-damaged : goal.returns-in-Err-clause-damaged
returns-in-Err-clause-damaged g c = store_named _ c.store_fault.result c.store_fault.ensures.cause

pub returns-in-Ok-clause-still : goal.returns-in-Ok-clause-still
returns-in-Ok-clause-still g c clean answered =
    settled_by g.S.Store c.args.connection.now c.history.new.conn _ (c.in-Ok.ensures.reads.same clean) c.in-Ok.ensures.reads.survives

pub returns-in-Err-clause-still : goal.returns-in-Err-clause-still
returns-in-Err-clause-still g c clean answered = absurd (not_answered c.store_fault.result c.store_fault.ensures.cause answered)
