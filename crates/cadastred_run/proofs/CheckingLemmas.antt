-- Lines that are checked on a register in memory.
use Rattle.std.proofs.Common.{◌≡◌, ◌≤◌, ◌<◌, inl, inr, ℕ, Bool, true, false, List, [], ◌∷◌, length, Option, Result, Ok, Err, IfErr, OnOk, ◌++◌, refl, sym, ap, subst, ◌∙◌, arith, length-append}
use Rattle.sqlite_trees.specs.declared.memory.MemStore.{MemStore}
use Rattle.sqlite_trees.specs.View.{doubt}
use Rattle.sqlite.specs.Held.{Held}
use Rattle.sqlite.specs.Steps.{over_memory}
use Rattle.cad_tables.specs.Opening.{most_revision}
use Rattle.cad_tables.specs.Tables.{no_schema, is_standing}
use Rattle.cad_versions.specs.declared.command.Command.{Command}
use Rattle.cad_versions.specs.declared.fault.RegisterFault.{RegisterFault}
use Rattle.cad_versions.specs.declared.fault.RegisterFault.TheVariants.{NotARegister, Store, Memory}
use Rattle.cad_versions.specs.Refusals.{AreAccepted}
use Rattle.cad_register.specs.declared.register.Register.{Register}
use Rattle.cad_register.specs.Ledgers.{register_as_ledger, IsCut}
use Rattle.cad_register.specs.Opening.{Created}
use Rattle.cad_register.specs.Registers.{IsRegisterOf}
use Rattle.cad_register.specs.Stands.{IsStoreFault}
use Rattle.cad_dry_run.specs.Copying.{IsOfStore}
use Rattle.cad_office.specs.declared.fault.OfficeFault.{OfficeFault}
use Rattle.cad_office.specs.declared.fault.OfficeFault.TheVariants as office
use Rattle.cadastred_run.specs.declared.outcome.Outcome.{Outcome}
use Rattle.cadastred_run.specs.Outcomes.{outcome_of_check}
use Rattle.cadastred_run.specs.Checking.{EndsCopied, ChecksOver}
use Rattle.cadastred_run.specs.FileChecking.{IsCheckEnd, IsUncopied, IsUnchecked, ChecksAfter}

pub store_uncopied : (commands : List Command) (fault : RegisterFault) → IsStoreFault fault → IsUncopied commands fault
store_uncopied commands Store why = tt
store_uncopied commands Memory why = tt
store_uncopied commands fault why = absurd why

-- one command more than a register holds
one_more : (commands before later : List Command) (command : Command) → commands ≡ before ++ command ∷ later → most_revision ≤ length before → most_revision < length commands
one_more commands before later command all most = omega (arith, most, ap length all, length-append before (command ∷ later))

cut_uncopied : (commands before later : List Command) (command : Command) (fault : RegisterFault) → commands ≡ before ++ command ∷ later → IsCut before command fault → IsUncopied commands fault
cut_uncopied commands before later command NotARegister all why = one_more commands before later command all why.1
cut_uncopied commands before later command Store all why = tt
cut_uncopied commands before later command Memory all why = tt
cut_uncopied commands before later command fault all why = absurd why

-- in memory no disk fails
is_clean : doubt true ≡ 0
unfolding doubt
is_clean = refl

pub made_empty : (lent : Held MemStore) (result : Result (Register MemStore) (RegisterFault × Held MemStore)) (register : Register MemStore) → Created over_memory lent result → result ≡ Ok register → lent.schema ≡ no_schema → IsRegisterOf over_memory register []
made_empty lent result register created is empty = (subst (Created over_memory lent) is created).made is_clean empty

-- why no register is made in a database without tables
pub unmade : (lent : Held MemStore) (result : Result (Register MemStore) (RegisterFault × Held MemStore)) (refused : RegisterFault × Held MemStore) → Created over_memory lent result → result ≡ Err refused → lent.schema ≡ no_schema → IsStoreFault refused.0
unmade lent result refused created is empty =
    let made = subst (Created over_memory lent) is created in
    made.cause (λ e. let standing : false ≡ true = sym (ap is_standing empty) ∙ (made.taken is_clean e).0 in cc)

check_ends : (result : Result Bool OfficeFault) → IsCheckEnd (outcome_of_check result)
check_ends (Ok true) = tt
check_ends (Ok false) = tt
check_ends (Err office.Read) = tt
check_ends (Err office.Write) = tt
check_ends (Err office.TurnsSpent) = tt
check_ends (Err office.Register) = tt

module _ (from to before after : Option (List ℕ)) (AtEnd : Type 0) where
  copied_ends : (copy last : Register MemStore) (entered : Result (Unit {0}) RegisterFault) (ended : Outcome) → EndsCopied from to before after AtEnd (register_as_ledger over_memory) copy entered ended last → IsCheckEnd ended
  copied_ends copy last (Ok done) ended checks = subst IsCheckEnd (sym checks.ends) (check_ends checks.result)
  copied_ends copy last (Err fault) ended checks = subst IsCheckEnd (sym checks.0) tt

  module _ (empty last : Register MemStore) (journal : List Command) (ended : Outcome) (over : ChecksOver from to before after AtEnd (register_as_ledger over_memory) empty journal ended last) where
    pub over_ends : IsCheckEnd ended
    over_ends = copied_ends over.copy last over.entered ended over.checks

    pub checks_after : IsRegisterOf over_memory empty [] → AreAccepted [] journal → ChecksAfter from to before after AtEnd journal ended
    checks_after stands accepted = go over.entered (over.enters.holds is_clean) (over.enters.refused is_clean) over.checks
      where
        go : (entered : Result (Unit {0}) RegisterFault) → OnOk entered ((held : List Command) → IsRegisterOf over_memory empty held → IsRegisterOf over_memory over.copy (held ++ journal))
            → IfErr entered (λ fault. (held : List Command) → IsRegisterOf over_memory empty held → AreAccepted [] (held ++ journal) → IsOfStore (register_as_ledger over_memory) (held ++ journal) fault) → EndsCopied from to before after AtEnd (register_as_ledger over_memory) over.copy entered ended last → ChecksAfter from to before after AtEnd journal ended
        go (Ok done) holds refused checks = inr (record { copy = over.copy; last = last; holds = holds [] stands; checks = checks })
        go (Err fault) holds refused checks =
            let why = refused [] stands accepted in
            inl (subst (IsUnchecked from to before after AtEnd journal) (sym checks.0) (cut_uncopied journal why.0 why.2 why.1 fault why.3 why.4, checks.1))
