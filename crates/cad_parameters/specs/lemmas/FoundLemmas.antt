-- The first fault of a list that passes a test.
use Rattle.std.specs.Prelude.{◌≡◌, ◌⊎◌, Bool, true, false, List, [], ◌∷◌, Some, None}
use Rattle.std.specs.List.{find}
use Rattle.std.proofs.Common.{cond, inl, inr, refl, ap, subst, ◌∙◌}
use Rattle.cad_parameters.specs.declared.fault.ParameterFault.{ParameterFault}

-- the fault is one of the list
abbrev pub IsAmong : ParameterFault → List ParameterFault → Type 0
IsAmong fault [] = ⊥
IsAmong fault (first ∷ faults) = (fault ≡ first) ⊎ IsAmong fault faults

module _ (p : ParameterFault → Bool) where
  -- what is found passes, and is one of the list
  pub found_holds : (faults : List ParameterFault) (fault : ParameterFault) → find p faults ≡ Some fault → (p fault ≡ true) × IsAmong fault faults
  found_holds [] fault e = absurd (let no_fault : None ≡ Some fault = e in cc)
  found_holds (first ∷ faults) fault e = go (p first) refl e (found_holds faults fault)
    where
      go : (t : Bool) → p first ≡ t → cond t (Some first) (find p faults) ≡ Some fault
          → (find p faults ≡ Some fault → (p fault ≡ true) × IsAmong fault faults) → (p fault ≡ true) × IsAmong fault (first ∷ faults)
      go true holds e later = let same : first ≡ fault = cc in (subst (λ f. p f ≡ true) same holds, inl (cc))
      go false fails e later = let found = later e in (found.0, inr found.1)

  -- if none is found, none of the list passes
  pub none_holds : (faults : List ParameterFault) (fault : ParameterFault) → find p faults ≡ None → IsAmong fault faults → p fault ≡ false
  none_holds [] fault e has = elim has [ ]
  none_holds (first ∷ faults) fault e has = go (p first) refl e has (none_holds faults fault)
    where
      go : (t : Bool) → p first ≡ t → cond t (Some first) (find p faults) ≡ None → IsAmong fault (first ∷ faults)
          → (find p faults ≡ None → IsAmong fault faults → p fault ≡ false) → p fault ≡ false
      go true holds e has later = absurd (let told : Some first ≡ None = e in cc)
      go false fails e (inl same) later = ap p same ∙ fails
      go false fails e (inr after) later = later e after

  pub none_is_found : (faults : List ParameterFault) → ((fault : ParameterFault) → IsAmong fault faults → p fault ≡ false) → find p faults ≡ None
  none_is_found [] fails = refl
  none_is_found (first ∷ faults) fails =
      ap (λ t. cond t (Some first) (find p faults)) (fails first (inl refl)) ∙ none_is_found faults (λ fault among. fails fault (inr among))
