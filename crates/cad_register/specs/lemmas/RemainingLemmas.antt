-- A register that remains as it was, one question after another, and what fails after them.
use Rattle.std.proofs.Common.{ℕ, ◌≤◌, refl, ◌∙◌, sym, subst, inl, inr, arith}
use Rattle.sqlite_disk.specs.Disk.{MoreFaults}
use Rattle.sqlite_trees.specs.declared.store.Store.{Ghosts}
use Rattle.cad_tables.specs.lemmas.SettledLemmas.{settled_then}
use Rattle.cad_register.specs.declared.register.Register.{Register}
use Rattle.cad_register.specs.Registers.{connection_of, IsStillSettled, Remains, HasFailed}

pub more_before : (a b c : ℕ) → a ≤ b → MoreFaults b c → MoreFaults a c
more_before a b c less more = omega (arith, less, more)

module _ {S : Type 0} (g : Ghosts S) where
  pub remains_here : (register : Register S) → Remains g register register
  remains_here register = inl refl

  pub remains_then : (old mid new : Register S) → Remains g old mid → Remains g mid new → Remains g old new
  remains_then old mid new (inl p) q = subst (λ (register : Register S). Remains g register new) p q
  remains_then old mid new (inr p) (inl q) = inr (subst (λ (register : Register S). IsStillSettled g old register) (sym q) p)
  remains_then old mid new (inr p) (inr q) = inr (settled_then g (connection_of old) (connection_of mid) (connection_of new) p.0 q.0, q.1 ∙ p.1)

  pub fails_before : (old mid new : Register S) → Remains g old mid → HasFailed g mid new → HasFailed g old new
  fails_before old mid new (inl same) fails = subst (λ (register : Register S). HasFailed g register new) same fails
  fails_before old mid new (inr still) fails = more_before _ _ _ still.0.faults fails
