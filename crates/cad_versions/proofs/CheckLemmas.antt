-- What a check answers is what the command gets next.
use Rattle.std.proofs.Common.{◌≡◌, ℕ, List, Option, Some, None, Result, Ok, Err, inl, inr, sym, ◌∙◌}
use Rattle.cad_versions.specs.declared.command.Command.{Command}
use Rattle.cad_versions.specs.declared.fault.RegisterFault.{RegisterFault}
use Rattle.cad_versions.specs.declared.ledger.Ledger.{Ghosts}
use Rattle.cad_versions.specs.LedgerCalls.{Applies, Checks, IsForetold}

-- no cause is not a cause
none_some : (cause : Option RegisterFault) (fault : RegisterFault) → cause ≡ None → cause ≡ Some fault → ⊥
none_some cause fault none some = absurd cc

same_some : (cause : Option RegisterFault) (fault other : RegisterFault) → cause ≡ Some fault → cause ≡ Some other → other ≡ fault
same_some cause fault other one two = cc

module _ {L : Type 0} (g : Ghosts L) where
  pub foretold : (commands : List Command) (command : Command) (old mid new : L) (told answer : Result ℕ RegisterFault) → g.stands_for old commands → g.stands_for mid commands
      → Checks g old command told mid → g.counts mid → Applies g mid command answer new → g.counts new
      → IsForetold (g.fails_to_apply commands command) told answer
  foretold commands command old mid new (Ok revision) (Ok other) so sm k cm a cn = (a.accepted cn commands sm).1 ∙ sym (k.accepted cm commands so).1
  foretold commands command old mid new (Ok revision) (Err fault) so sm k cm a cn = elim (a.refused cn commands sm) [
    | inl cause ↦ absurd (none_some _ fault (k.accepted cm commands so).0 cause)
    | inr of_store ↦ of_store
  ]
  foretold commands command old mid new (Err fault) (Ok revision) so sm k cm a cn = elim (k.refused cm commands so) [
    | inl cause ↦ absurd (none_some _ fault (a.accepted cn commands sm).0 cause)
    | inr of_store ↦ of_store
  ]
  foretold commands command old mid new (Err fault) (Err other) so sm k cm a cn = elim (k.refused cm commands so) [
    | inl cause ↦ elim (a.refused cn commands sm) [
      | inl next ↦ inl (same_some _ fault other cause next)
      | inr of_store ↦ inr (inr of_store)
    ]
    | inr of_store ↦ inr (inl of_store)
  ]
