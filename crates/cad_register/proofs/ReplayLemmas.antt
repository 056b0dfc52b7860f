-- Commands that are entered into a ledger, one after the other.
use Rattle.std.proofs.Common.{◌≡◌, ◌⊎◌, inl, inr, List, [], ◌∷◌, ◌++◌, Some, None, Err, sym, subst, append-nil, append_assoc, ◌∙◌}
use Rattle.cad_versions.specs.declared.command.Command.{Command}
use Rattle.cad_versions.specs.declared.fault.RegisterFault.{RegisterFault}
use Rattle.cad_versions.specs.declared.ledger.Ledger.{Ghosts}
use Rattle.cad_versions.specs.LedgerCalls.{Applies}
use Rattle.cad_versions.specs.Versions.{versions}
use Rattle.cad_versions.specs.Refusals.{refusal, AreAccepted}
use Rattle.cad_register.proofs.JournalLemmas.{accepted_back}
use Rattle.cad_register.specs.Laws.{Enters}

module _ {L : Type 0} (g : Ghosts L) where
  pub entered_stands : (before later : List Command) (old new : L) → g.stands_for old before → Enters g old later new → g.stands_for new (before ++ later)
  entered_stands before [] old new stands enters = subst (λ (l : L). g.stands_for l (before ++ [])) (sym enters) (subst (g.stands_for old) (sym (append-nil before)) stands)
  entered_stands before (c ∷ later) old new stands enters =
      let mid = enters.0 in
      let one = enters.2.accepted enters.3 before stands in
      subst (g.stands_for new) (append_assoc before (c ∷ []) later) (entered_stands (before ++ c ∷ []) later mid new one.2 enters.4)

  pub refused_by_keeper : (before : List Command) (c : Command) (later : List Command) (old new : L) (fault : RegisterFault) → AreAccepted [] (before ++ c ∷ later) → g.stands_for old before → Applies g old c (Err fault) new → g.counts new → g.fails_to_apply before c fault
  refused_by_keeper before c later old new fault accepted stands applies counts = go (applies.refused counts before stands)
    where
      go : (refusal (versions before) c ≡ Some fault) ⊎ g.fails_to_apply before c fault → g.fails_to_apply before c fault
      go (inl refused) = let fine : None ≡ Some fault = sym (accepted_back [] before (c ∷ later) accepted).0 ∙ refused in absurd cc
      go (inr fails) = fails
