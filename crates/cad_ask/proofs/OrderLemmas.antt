-- The first fault, by the numbers of faults.
use Rattle.std.proofs.Common.{◌≡◌, ℕ, ◌<◌, ◌≤◌, ◌⊎◌, inl, inr, Bool, true, false, cond, List, [], ◌∷◌, Option, Some, None, refl, sym, ap, subst, ◌∙◌, true≢false, arith}
use Rattle.std.specs.Prelude.{⊤, IfSome, option_map}
use Rattle.std.specs.List.{find}
use Rattle.cad_schema.specs.declared.collection.Collection.{Collection}
use Rattle.cad_schema.specs.Schema.{schema_of}
use Rattle.cql_filter.specs.declared.cause.Cause.{Cause}
use Rattle.cql_filter.specs.Causes.{place_of}
use Rattle.cql_filter.specs.Filters.{IsAccepted}
use Rattle.cql_filter.specs.Filters as filters
use Rattle.cql_filter.specs.Laws as filter_laws
use Rattle.cad_parameters.specs.declared.fault.ParameterFault.{ParameterFault}
use Rattle.cad_parameters.specs.declared.fault.ParameterFault.TheVariants as parameter
use Rattle.cad_parameters.specs.lemmas.FoundLemmas.{IsAmong, found_holds, none_holds, none_is_found}
use Rattle.cad_parameters.specs.Pairs.{PairText}
use Rattle.cad_parameters.specs.Parameters.{have, first_of, selection_faults, continuation_faults}
use Rattle.cad_ask.specs.declared.fault.AskFault.{AskFault}
use Rattle.cad_ask.specs.declared.fault.AskFault.TheVariants as fault
use Rattle.cad_ask.specs.Faults.{fault_number, of_parameter, selection_fault, continuation_fault}
use Rattle.cad_ask.specs.Answers.{filter_given, IsFilterFault, HasFault, IsLeastFault, FiltersWell, IsFirstFault, of_selection, of_filter, of_continuation}
use Rattle.cad_ask.specs.Laws.{TheFirstIsTheLeast}
use Rattle.cad_ask.proofs.AskLemmas.{refused_text, told_of_none}

abbrev number : ParameterFault → ℕ
number p = fault_number (of_parameter p)

-- the numbers ascend from above n
abbrev Ascends : ℕ → List ParameterFault → Type 0
Ascends n [] = ⊤
Ascends n (p ∷ ps) = (n < number p) × Ascends (number p) ps

above : (n : ℕ) (ps : List ParameterFault) (p : ParameterFault) → Ascends n ps → IsAmong p ps → n < number p
above n [] p up among = elim among [ ]
above n (first ∷ ps) p up (inl same) = omega (arith, up.0, ap number same)
above n (first ∷ ps) p up (inr later) = omega (arith, up.0, above (number first) ps p up.1 later)

-- ---- of a list of faults with ascending numbers

module _ (test : ParameterFault → Bool) where
  -- no fault that is had has a lower number than the one that is found
  none_lower : (n : ℕ) (ps : List ParameterFault) (p q : ParameterFault) → Ascends n ps → find test ps ≡ Some p → IsAmong q ps → test q ≡ true → number p ≤ number q
  none_lower n [] p q up e among had = elim among [ ]
  none_lower n (first ∷ ps) p q up e among had = go (test first) refl e among (none_lower (number first) ps p q up.1)
    where
      go : (t : Bool) → test first ≡ t → cond t (Some first) (find test ps) ≡ Some p → IsAmong q (first ∷ ps)
          → (find test ps ≡ Some p → IsAmong q ps → test q ≡ true → number p ≤ number q) → number p ≤ number q
      go true holds e (inl same) later = let is : first ≡ p = cc in omega (arith, ap number same, ap number is)
      go true holds e (inr after) later = let is : first ≡ p = cc in omega (arith, ap number is, above (number first) ps q up.1 after)
      go false fails e (inl same) later = absurd (true≢false (sym had ∙ ap test same ∙ fails))
      go false fails e (inr after) later = later e after had

  -- the one that is had, and no other with a lower number, is found
  least_found : (n : ℕ) (ps : List ParameterFault) (p : ParameterFault) → Ascends n ps → IsAmong p ps → test p ≡ true
      → ((q : ParameterFault) → test q ≡ true → number p ≤ number q) → find test ps ≡ Some p
  least_found n [] p up among had least = elim among [ ]
  least_found n (first ∷ ps) p up (inl same) had least =
      ap (λ t. cond t (Some first) (find test ps)) (sym (ap test same) ∙ had) ∙ ap Some (sym same)
  least_found n (first ∷ ps) p up (inr after) had least = go (test first) refl (least_found (number first) ps p up.1 after had least)
    where
      go : (t : Bool) → test first ≡ t → find test ps ≡ Some p → cond t (Some first) (find test ps) ≡ Some p
      go true holds later = absurd (omega (arith, least first holds, above (number first) ps p up.1 after))
      go false fails later = later

-- ---- the faults before the filter's and behind it

selection_ascends : Ascends 0 selection_faults
selection_ascends = (omega arith, (omega arith, (omega arith, (omega arith, (omega arith, (omega arith, tt))))))

continuation_ascends : Ascends 7 continuation_faults
continuation_ascends = (omega arith, (omega arith, tt))

before_filter : (p : ParameterFault) → IsAmong p selection_faults → number p < 7
before_filter p (inl is) = omega (arith, ap number is)
before_filter p (inr (inl is)) = omega (arith, ap number is)
before_filter p (inr (inr (inl is))) = omega (arith, ap number is)
before_filter p (inr (inr (inr (inl is)))) = omega (arith, ap number is)
before_filter p (inr (inr (inr (inr (inl is))))) = omega (arith, ap number is)
before_filter p (inr (inr (inr (inr (inr (inl is)))))) = omega (arith, ap number is)
before_filter p (inr (inr (inr (inr (inr (inr none)))))) = absurd none

on_a_side : (p : ParameterFault) → IsAmong p selection_faults ⊎ IsAmong p continuation_faults
on_a_side parameter.Unknown = inl (inl refl)
on_a_side parameter.Repeated = inl (inr (inl refl))
on_a_side parameter.Limit = inl (inr (inr (inl refl)))
on_a_side parameter.Datetime = inl (inr (inr (inr (inl refl))))
on_a_side parameter.Bbox = inl (inr (inr (inr (inr (inl refl)))))
on_a_side parameter.FilterLang = inl (inr (inr (inr (inr (inr (inl refl))))))
on_a_side parameter.Revision = inr (inl refl)
on_a_side parameter.After = inr (inr (inl refl))

-- a fault of a list, and the parameter's fault that it is made of
made_of : (o : Option ParameterFault) (f : AskFault) → option_map of_parameter o ≡ Some f → (p : ParameterFault) × (o ≡ Some p) × (f ≡ of_parameter p)
made_of None f e = absurd (let no_fault : None ≡ Some f = e in cc)
made_of (Some p) f e = (p, refl, sym (let is : Some (of_parameter p) ≡ Some f = e in cc))

of_the_filter : (c : Collection) (text : Option (List ℕ)) (f : AskFault) → IsFilterFault c text f → fault_number f ≡ 7
of_the_filter c text f refused = ap fault_number refused.told

module _ (c : Collection) (pairs : List PairText) where
  abbrev had : ParameterFault → Bool
  had p = have p pairs

  not_both : (p : ParameterFault) → had p ≡ true → had p ≡ false → ⊥
  not_both p holds fails = true≢false (sym holds ∙ fails)

  -- ---- the first has the lowest number

  -- of a list that has the numbers from above n on, what else is had has a number that is no lower
  least_of : (p : ParameterFault) (f : AskFault) → f ≡ of_parameter p → ((q : ParameterFault) → had q ≡ true → number p ≤ number q)
      → ((g : AskFault) → IsFilterFault c (filter_given pairs) g → number p ≤ 7) → (g : AskFault) → HasFault c pairs g → fault_number f ≤ fault_number g
  least_of p f is of_pairs of_text g (inl (q, made, holds)) = omega (arith, ap fault_number is, ap fault_number made, of_pairs q holds)
  least_of p f is of_pairs of_text g (inr refused) = omega (arith, ap fault_number is, of_the_filter c (filter_given pairs) g refused, of_text g refused)

  module _ (excludes : filter_laws.HasFaultOrFilter) where
    first_is_least : (f : AskFault) → IsFirstFault c pairs f → IsLeastFault c pairs f
    first_is_least f (of_selection told) =
        let made = made_of (first_of selection_faults pairs) f told in
        let p = made.0 in
        let found = found_holds had selection_faults p made.1 in
        let low = before_filter p found.1 in
        record {
          is_had = inl (p, made.2, found.0);
          least = least_of p f made.2 (λ q holds. of_pairs q holds p made.1 low (on_a_side q)) (λ g refused. omega (arith, low));
        }
      where
        of_pairs : (q : ParameterFault) → had q ≡ true → (p : ParameterFault) → first_of selection_faults pairs ≡ Some p → number p < 7
            → IsAmong q selection_faults ⊎ IsAmong q continuation_faults → number p ≤ number q
        of_pairs q holds p e low (inl among) = none_lower had 0 selection_faults p q selection_ascends e among holds
        of_pairs q holds p e low (inr among) = omega (arith, low, above 7 continuation_faults q continuation_ascends among)
    first_is_least f (of_filter none refused) = record {
      is_had = inr refused;
      least = λ g has. least_text g has;
    }
      where
        seven : fault_number f ≡ 7
        seven = of_the_filter c (filter_given pairs) f refused

        behind : (q : ParameterFault) → had q ≡ true → IsAmong q selection_faults ⊎ IsAmong q continuation_faults → 7 ≤ number q
        behind q holds (inl among) = absurd (not_both q holds (none_holds had selection_faults q (told_of_none (first_of selection_faults pairs) none) among))
        behind q holds (inr among) = omega (arith, above 7 continuation_faults q continuation_ascends among)

        least_text : (g : AskFault) → HasFault c pairs g → fault_number f ≤ fault_number g
        least_text g (inl (q, made, holds)) = omega (arith, seven, ap fault_number made, behind q holds (on_a_side q))
        least_text g (inr other) = omega (arith, seven, of_the_filter c (filter_given pairs) g other)
    first_is_least f (of_continuation none well told) =
        let made = made_of (first_of continuation_faults pairs) f told in
        let p = made.0 in
        let found = found_holds had continuation_faults p made.1 in
        record {
          is_had = inl (p, made.2, found.0);
          least = least_of p f made.2 (λ q holds. of_pairs q holds p made.1 (on_a_side q)) (λ g refused. absurd (refused_text excludes c pairs g refused well));
        }
      where
        of_pairs : (q : ParameterFault) → had q ≡ true → (p : ParameterFault) → first_of continuation_faults pairs ≡ Some p
            → IsAmong q selection_faults ⊎ IsAmong q continuation_faults → number p ≤ number q
        of_pairs q holds p e (inl among) = absurd (not_both q holds (none_holds had selection_faults q (told_of_none (first_of selection_faults pairs) none) among))
        of_pairs q holds p e (inr among) = none_lower had 7 continuation_faults p q continuation_ascends e among holds

  -- ---- that of the lowest number is the first

  module _ (f : AskFault) (least : (g : AskFault) → HasFault c pairs g → fault_number f ≤ fault_number g) where
    -- where it is not among those before the filter's, none of these is had
    none_selected : 7 ≤ fault_number f → selection_fault pairs ≡ None
    none_selected high = ap (option_map of_parameter) (none_is_found had selection_faults (λ q among. not_had q among (had q) refl))
      where
        not_had : (q : ParameterFault) → IsAmong q selection_faults → (t : Bool) → had q ≡ t → t ≡ false
        not_had q among true holds = absurd (omega (arith, high, before_filter q among, least (of_parameter q) (inl (q, refl, holds))))
        not_had q among false fails = refl

  module _ (f : AskFault) (p : ParameterFault) (is : f ≡ of_parameter p) (holds : had p ≡ true) (least : (g : AskFault) → HasFault c pairs g → fault_number f ≤ fault_number g) where
    lowest : (q : ParameterFault) → had q ≡ true → number p ≤ number q
    lowest q other = omega (arith, ap fault_number is, least (of_parameter q) (inl (q, refl, other)))

    selected : IsAmong p selection_faults → IsFirstFault c pairs f
    selected among =
        of_selection (ap (option_map of_parameter) (least_found had 0 selection_faults p selection_ascends among holds lowest) ∙ ap Some (sym is))

    -- the text of the filter, if one is given, is accepted, since its fault has a lower number
    module _ (decided : filter_laws.HasFilterOrFault) where
      continued : IsAmong p continuation_faults → ¬ ¬ IsFirstFault c pairs f
      continued among other = given (filter_given pairs) refl
        where
          high : 7 < fault_number f
          high = omega (arith, ap fault_number is, above 7 continuation_faults p continuation_ascends among)

          told : continuation_fault pairs ≡ Some f
          told = ap (option_map of_parameter) (least_found had 7 continuation_faults p continuation_ascends among holds lowest) ∙ ap Some (sym is)

          first : FiltersWell c pairs → IsFirstFault c pairs f
          first well = of_continuation (none_selected f least (omega (arith, high))) well told

          is_given : (o : Option (List ℕ)) → filter_given pairs ≡ o → IfSome o (IsAccepted (schema_of c)) → FiltersWell c pairs
          is_given o e well = subst (λ p. IfSome p (IsAccepted (schema_of c))) (sym e) well

          decide : (text : List ℕ) → filter_given pairs ≡ Some text
              → IsAccepted (schema_of c) text ⊎ ((cause : Cause) × filters.IsFirstFault (schema_of c) text cause) → ⊥
          decide text e (inl accepted) = other (first (is_given (Some text) e accepted))
          decide text e (inr refused) =
              let features_given = fault.Filter (place_of refused.0) refused.0 in
              let has : HasFault c pairs features_given = inr (record { content = text; cause = refused.0; content_is = e; first = refused.1; told = refl }) in
              omega (arith, high, least features_given has)

          given : (o : Option (List ℕ)) → filter_given pairs ≡ o → ⊥
          given None e = other (first (is_given None e tt))
          given (Some text) e = decided (schema_of c) text (decide text e)

  least_is_first : filter_laws.HasFilterOrFault → (f : AskFault) → IsLeastFault c pairs f → ¬ ¬ IsFirstFault c pairs f
  least_is_first decided f is_least = go is_least.is_had
    where
      side : (p : ParameterFault) → f ≡ of_parameter p → had p ≡ true → IsAmong p selection_faults ⊎ IsAmong p continuation_faults → ¬ ¬ IsFirstFault c pairs f
      side p is holds (inl among) = λ other. other (selected f p is holds is_least.least among)
      side p is holds (inr among) = continued f p is holds is_least.least decided among

      go : HasFault c pairs f → ¬ ¬ IsFirstFault c pairs f
      go (inl (p, is, holds)) = side p is holds (on_a_side p)
      go (inr refused) =
          let seven = of_the_filter c (filter_given pairs) f refused in
          λ other. other (of_filter (none_selected f is_least.least (omega (arith, seven))) refused)

pub the_first_is_the_least : filter_laws.HasFaultOrFilter → filter_laws.HasFilterOrFault → TheFirstIsTheLeast
the_first_is_the_least excludes decided c pairs f = (first_is_least c pairs excludes f, least_is_first c pairs decided f)
