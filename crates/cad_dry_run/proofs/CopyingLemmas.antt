-- One command of a journal more.
use Rattle.std.proofs.Common.{◌≡◌, ℕ, ◌⊎◌, inl, inr, List, [], ◌∷◌, ◌++◌, length, Some, None, Ok, Err, fold, refl, sym, ap, subst, ◌∙◌, arith, append-nil, append_assoc, length-append}
use Rattle.cad_versions.specs.declared.command.Command.{Command}
use Rattle.cad_versions.specs.declared.fault.RegisterFault.{RegisterFault}
use Rattle.cad_versions.specs.declared.ledger.Ledger.{Ghosts}
use Rattle.cad_versions.specs.LedgerCalls.{Applies}
use Rattle.cad_versions.specs.VersionedObject.{VersionedObject}
use Rattle.cad_versions.specs.Versions.{versions, versions_after}
use Rattle.cad_versions.specs.Refusals.{refusal, AreAccepted}
use Rattle.cad_dry_run.specs.Copying.{IsOfStore}

-- as many as all are all
pub all_of : (done rest all : List Command) → done ++ rest ≡ all → length done ≡ length all → done ≡ all
all_of done [] all e n = sym (append-nil done) ∙ e
all_of done (next ∷ rest) all e n = absurd (omega (arith, n, length-append done (next ∷ rest), ap length e))

accepted_next : (vs : List VersionedObject) (front back : List Command) → AreAccepted vs (front ++ back) → AreAccepted (fold versions_after vs front) back
accepted_next vs [] back all = all
accepted_next vs (c ∷ front) back all = accepted_next (versions_after vs c) front back all.1

module _ {L : Type 0} (g : Ghosts L) (mid new : L) (c : Command) where
  -- the ledger holds the command after those that it held
  pub holds_more : (commands : List Command) (revision : ℕ) → Applies g mid c (Ok revision) new → g.counts new → g.stands_for mid commands → g.stands_for new (commands ++ c ∷ [])
  holds_more commands revision applies counts stands = (applies.accepted counts commands stands).2

  -- commands that a journal has may be entered, so the ledger's store refused
  pub of_store : (commands later : List Command) (fault : RegisterFault) → AreAccepted [] (commands ++ c ∷ later) → Applies g mid c (Err fault) new → g.counts new → g.stands_for mid commands → IsOfStore g (commands ++ c ∷ later) fault
  of_store commands later fault accepted applies counts stands = (commands, c, later, refl, go (applies.refused counts commands stands))
    where
      go : (refusal (versions commands) c ≡ Some fault) ⊎ g.fails_to_apply commands c fault → g.fails_to_apply commands c fault
      go (inl refused) = let fine : None ≡ Some fault = sym (accepted_next [] commands (c ∷ later) accepted).0 ∙ refused in absurd cc
      go (inr fails) = fails
