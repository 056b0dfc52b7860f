-- A database in which no register could be made, since one stands there.
use Rattle.std.proofs.Common.{◌≡◌, List, refl, true, false, true≢false, Ok, Err, inl, inr, sym, ap, subst, ◌∙◌}
use Rattle.sqlite_trees.specs.declared.store.Store.{Ghosts}
use Rattle.sqlite_schema.specs.Names.{same_name}
use Rattle.sqlite.specs.State.{State, HasCleanDisk}
use Rattle.sqlite.specs.Held.{Held, state}
use Rattle.cad_tables.specs.Opening.{IsSettled}
use Rattle.cad_tables.specs.Tables.{is_standing, register_schema, no_schema}
use Rattle.cad_versions.specs.declared.command.Command.{Command}
use Rattle.cad_versions.specs.declared.fault.RegisterFault.{RegisterFault}
use Rattle.cad_versions.specs.declared.fault.RegisterFault.TheVariants.{NotARegister}
use Rattle.cad_versions.specs.Keeping.{IsOfTheRegister}
use Rattle.cad_register.specs.Opening.{Outcome, Created, Opened, OpenedOrCreated}
use Rattle.cad_register.specs.declared.register.Register.{Register}
use Rattle.cad_register.specs.Stands.{StandsFor}
use Rattle.cad_register.proofs.StandLemmas.{stands_same}
use Rattle.cad_register.proofs.SurvivingLemmas.{stands_opened}
use Rattle.cad_register.proofs.LeavingLemmas.{later_then, as_before, before_then}

register_stands : is_standing register_schema ≡ true
unfolding same_name
register_stands = refl

nothing_stands : is_standing no_schema ≡ false
nothing_stands = refl

of_register : (cause : RegisterFault) → cause ≡ NotARegister → IsOfTheRegister cause
of_register cause is = subst IsOfTheRegister (sym is) tt

-- where neither table stands, they stand for nothing
stands_free : (s : State) (cs : List Command) → StandsFor s cs → is_standing s.now.schema ≡ false → ⊥
stands_free s cs stands free = true≢false (sym (ap is_standing stands.holds.holds.schema ∙ register_stands) ∙ free)

module _ {S : Type 0} (g : Ghosts S) (lent : Held S) where
  -- the register is made
  pub created_here : (register : Register S) → Created g lent (Ok register) → OpenedOrCreated g lent (Ok register)
  created_here register it = record {
    made = it.made;
    found = λ clean. inl (it.free clean);
    missing = λ clean. tt;
    cause = tt;
    store = λ clean. tt;
    stands = λ clean cs stands low. absurd (stands_free (state g lent) cs stands (it.free clean));
    recovered = λ clean cs opened low. absurd (stands_free (state g lent) cs (stands_opened (state g lent) cs opened) (it.free clean));
    same = λ clean. tt;
    kept = λ clean. tt;
    later = it.later;
    crash = it.crash;
  }

  -- a name is in use, and what stands there is opened
  module _ (mid : Held S) (created : Created g lent (Err (NotARegister, mid))) where
    standing : (clean : HasCleanDisk (state g mid)) → (is_standing lent.schema ≡ true) × IsSettled g lent mid
    standing clean = created.taken clean refl

    pub opened_later : (result : Outcome S) → Opened g mid result → OpenedOrCreated g lent result
    opened_later (Ok register) it =
        let early = it.leaves.later.clean in
        record {
          made = λ clean none. absurd (true≢false (sym (standing (early clean)).0 ∙ ap is_standing none ∙ nothing_stands));
          found = λ clean. let stood = standing (early clean) in inr (stood.0, mid, stood.1, it.found clean);
          missing = λ clean. tt;
          cause = tt;
          store = λ clean. tt;
          stands = λ clean cs stands low. it.stands clean cs (stands_same (state g lent) (state g mid) cs (standing (early clean)).1.same stands) low;
          recovered = λ clean cs opened low. it.stands clean cs (stands_same (state g lent) (state g mid) cs (standing (early clean)).1.same (stands_opened (state g lent) cs opened)) low;
          same = λ clean. tt;
          kept = λ clean. tt;
          later = later_then (state g lent) (state g mid) _ created.later it.leaves.later;
          crash = λ clean trees h. created.crash (early clean) trees (it.leaves.left clean trees h);
        }
    opened_later (Err refused) it =
        let early = it.leaves.later.clean in
        record {
          made = λ clean. tt;
          found = λ clean. tt;
          missing = λ clean is. let stood = standing (early clean) in (stood.0, mid, stood.1, it.missing clean is);
          cause = it.cause;
          store = λ clean other. let stood = standing (early clean) in inr (stood.0, mid, stood.1, it.store clean other);
          stands = λ clean cs stands low. it.stands clean cs (stands_same (state g lent) (state g mid) cs (standing (early clean)).1.same stands) low;
          recovered = λ clean cs opened low. it.stands clean cs (stands_same (state g lent) (state g mid) cs (standing (early clean)).1.same (stands_opened (state g lent) cs opened)) low;
          same = λ clean is. before_then (state g lent) (state g mid) (state g refused.1) (as_before (state g lent) (state g mid) (standing (early clean)).1.same) (it.leaves.same clean (of_register refused.0 is));
          kept = λ clean still settled.
              let same = (standing (early clean)).1.same in
              let later = it.leaves.kept clean still (same.0.committed_is ∙ settled ∙ sym same.0.now_is) in
              (later.0 ∙ same.0.now_is, later.1 ∙ same.0.committed_is);
          later = later_then (state g lent) (state g mid) _ created.later it.leaves.later;
          crash = λ clean trees h. created.crash (early clean) trees (it.leaves.left clean trees h);
        }
