-- What is answered to a query.
use Rattle.std.proofs.Common.{◌≡◌, ℕ, ◌⊎◌, inl, inr, List, Option, Some, None, Result, Ok, Err, refl, sym, ap, subst, ◌∙◌}
use Rattle.std.specs.Prelude.{IfSome, IsOk, option_map}
use Rattle.std.specs.Option.{option_or}
use Rattle.std.specs.Result.{result_err}
use Rattle.std.proofs.lemmas.List.Folds.{find-append}
use Rattle.cad_schema.specs.declared.collection.Collection.{Collection}
use Rattle.cad_schema.specs.Schema.{schema_of}
use Rattle.cql_types.specs.declared.filter.Filter.{Filter}
use Rattle.cql_filter.specs.declared.cause.Cause.{Cause}
use Rattle.cql_filter.specs.Causes.{place_of}
use Rattle.cql_filter.specs.Filters.{IsAccepted}
use Rattle.cql_filter.specs.Filters as filters
use Rattle.cql_filter.specs.Answer as Answer
use Rattle.cql_filter.specs.declared.cause.FilterFault.{FilterFault}
use Rattle.cql_filter.specs.declared.cause.FilterFault.TheVariants as filter_fault
use Rattle.cql_filter.specs.Laws as filter_laws
use Rattle.cad_parameters.specs.declared.fault.ParameterFault.{ParameterFault}
use Rattle.cad_parameters.specs.Pairs.{PairText}
use Rattle.cad_parameters.specs.Parameters.{have, first_of, selection_faults, continuation_faults, first_fault}
use Rattle.cad_parameters.specs.Links.{continued}
use Rattle.cad_parameters.specs.Laws.{ContinuedGoesOn}
use Rattle.cad_ask.specs.declared.ask.Ask.{Ask}
use Rattle.cad_ask.specs.declared.fault.AskFault.{AskFault}
use Rattle.cad_ask.specs.declared.fault.AskFault.TheVariants as fault
use Rattle.cad_ask.specs.Faults.{of_filter as fault_of_filter, of_parameter, selection_fault}
use Rattle.cad_ask.specs.Answers.{filter_given, IsFilterFault, FiltersWell, AsksWell, IsFirstFault, of_selection, of_filter, of_continuation, AnswersFilter, Answers, OrMemory}
use Rattle.cad_ask.specs.Laws.{HasOneFirstFault, HasFaultOrAsks, NextAsksTheSame}
use Rattle.cad_ask.specs.lemmas.AnswerLemmas.{asks_well}

-- ---- answers

pub answered : (c : Collection) (pairs : List PairText) (result : Result Ask AskFault) (f : AskFault) → result_err result ≡ Some f
    → (f ≡ fault.Memory) ⊎ IsFirstFault c pairs f → Answers c pairs result
answered c pairs (Ok ask) f told first = absurd (let no_more : None ≡ Some f = told in cc)
answered c pairs (Err g) f told first =
    let same : f ≡ g = sym (let e : Some g ≡ Some f = told in cc) in
    subst (λ h. (h ≡ fault.Memory) ⊎ IsFirstFault c pairs h) same first

-- a text that is no filter is refused with its first fault
pub filter_told : (c : Collection) (text : List ℕ) (result : Result (Option Filter) AskFault) (f : FilterFault) → result_err result ≡ Some (fault_of_filter f)
    → Answer.Answers (schema_of c) text (Err f) → AnswersFilter c (Some text) result
filter_told c text (Ok filter) f told answer = absurd (let no_more : None ≡ Some (fault_of_filter f) = told in cc)
filter_told c text (Err g) filter_fault.Memory told answer = let same : g ≡ fault.Memory = (let e : Some g ≡ Some fault.Memory = told in cc) in inl same
filter_told c text (Err g) (filter_fault.Refused cause) told answer =
    let same : g ≡ fault.Filter (place_of cause) cause = (let e : Some g ≡ Some (fault.Filter (place_of cause) cause) = told in cc) in
    inr (record { content = text; cause = cause; content_is = refl; first = answer; told = same })

pub filter_refused : (c : Collection) (pairs : List PairText) (text : Option (List ℕ)) (f : AskFault) → selection_fault pairs ≡ None → text ≡ filter_given pairs
    → (f ≡ fault.Memory) ⊎ IsFilterFault c text f → (f ≡ fault.Memory) ⊎ IsFirstFault c pairs f
filter_refused c pairs text f none is (inl memory) = inl memory
filter_refused c pairs text f none is (inr refused) = inr (of_filter none (subst (λ t. IsFilterFault c t f) is refused))

-- ---- laws

accepted_text : (c : Collection) (o : Option (List ℕ)) (text : List ℕ) → o ≡ Some text → IfSome o (IsAccepted (schema_of c)) → IsAccepted (schema_of c) text
accepted_text c o text is well = let here : IfSome (Some text) (IsAccepted (schema_of c)) = subst (λ p. IfSome p (IsAccepted (schema_of c))) is well in here

module _ (excludes : filter_laws.HasFaultOrFilter) where
  pub refused_text : (c : Collection) (pairs : List PairText) (f : AskFault) → IsFilterFault c (filter_given pairs) f → FiltersWell c pairs → ⊥
  refused_text c pairs f refused well =
      excludes (schema_of c) refused.content refused.cause refused.first (accepted_text c (filter_given pairs) refused.content refused.content_is well)

  pub fault_or_asks : HasFaultOrAsks
  fault_or_asks c pairs f (of_selection told) well = let no_more : None ≡ Some f = sym well.selects ∙ told in cc
  fault_or_asks c pairs f (of_filter none refused) well = refused_text c pairs f refused well.filters_well
  fault_or_asks c pairs f (of_continuation none filters told) well = let no_more : None ≡ Some f = sym well.continues ∙ told in cc

  module _ (one : filter_laws.HasOneFirstFault) where
    same_refusal : (c : Collection) (pairs : List PairText) (f g : AskFault) → IsFilterFault c (filter_given pairs) f → IsFilterFault c (filter_given pairs) g → f ≡ g
    same_refusal c pairs f g a b =
        let content : b.content ≡ a.content = let e : Some b.content ≡ Some a.content = sym b.content_is ∙ a.content_is in cc in
        let cause = one (schema_of c) a.content a.cause b.cause a.first (subst (λ t. filters.IsFirstFault (schema_of c) t b.cause) content b.first) in
        a.told ∙ ap (λ (x : Cause). fault.Filter (place_of x) x) cause ∙ sym b.told

    pub one_first_fault : HasOneFirstFault
    one_first_fault c pairs f g (of_selection told) (of_selection other) = let e : Some f ≡ Some g = sym told ∙ other in cc
    one_first_fault c pairs f g (of_selection told) (of_filter none refused) = absurd (let e : None ≡ Some f = sym none ∙ told in cc)
    one_first_fault c pairs f g (of_selection told) (of_continuation none filters other) = absurd (let e : None ≡ Some f = sym none ∙ told in cc)
    one_first_fault c pairs f g (of_filter none refused) (of_selection other) = absurd (let e : None ≡ Some g = sym none ∙ other in cc)
    one_first_fault c pairs f g (of_filter none refused) (of_filter none' other) = same_refusal c pairs f g refused other
    one_first_fault c pairs f g (of_filter none refused) (of_continuation none' filters other) = absurd (refused_text c pairs f refused filters)
    one_first_fault c pairs f g (of_continuation none filters told) (of_selection other) = absurd (let e : None ≡ Some g = sym none ∙ other in cc)
    one_first_fault c pairs f g (of_continuation none filters told) (of_filter none' refused) = absurd (refused_text c pairs g refused filters)
    one_first_fault c pairs f g (of_continuation none filters told) (of_continuation none' filters' other) = let e : Some f ≡ Some g = sym told ∙ other in cc

-- where nothing is wrong something is asked
pub asked : HasFaultOrAsks → (c : Collection) (pairs : List PairText) (result : Result Ask AskFault) → Answers c pairs result
    → AsksWell c pairs → OrMemory result (IsOk result)
asked excludes c pairs (Ok ask) answer well = inr refl
asked excludes c pairs (Err f) (inl memory) well = inl (ap Err memory)
asked excludes c pairs (Err f) (inr first) well = absurd (excludes c pairs f first well)

-- the first fault is told
pub refused : HasFaultOrAsks → HasOneFirstFault → (c : Collection) (pairs : List PairText) (result : Result Ask AskFault) → Answers c pairs result
    → (f : AskFault) → IsFirstFault c pairs f → OrMemory result (result ≡ Err f)
refused excludes one c pairs (Ok ask) answer f first = absurd (excludes c pairs f first (asks_well c pairs ask answer))
refused excludes one c pairs (Err g) (inl memory) f first = inl (ap Err memory)
refused excludes one c pairs (Err g) (inr other) f first = inr (ap Err (one c pairs g f other first))

-- ---- the next page

pub told_of_none : (o : Option ParameterFault) → option_map of_parameter o ≡ None → o ≡ None
told_of_none None e = refl
told_of_none (Some f) e = absurd (let no_more : Some (of_parameter f) ≡ None = e in cc)

whole_order : (pairs : List PairText)
    → first_fault pairs ≡ option_or (first_of selection_faults pairs) (first_of continuation_faults pairs)
whole_order pairs = find-append (λ f. have f pairs) selection_faults continuation_faults

both_none : (o p : Option ParameterFault) → option_or o p ≡ None → (o ≡ None) × (p ≡ None)
both_none None p e = (refl, e)
both_none (Some f) p e = absurd (let no_more : Some f ≡ None = e in cc)

pub next_asks_the_same : ContinuedGoesOn → NextAsksTheSame
next_asks_the_same goes_on c pairs revision last small is well =
    let again = continued revision last pairs in
    let selects = told_of_none (first_of selection_faults pairs) well.selects in
    let continues = told_of_none (first_of continuation_faults pairs) well.continues in
    let none = whole_order pairs ∙ ap (λ o. option_or o (first_of continuation_faults pairs)) selects ∙ continues in
    let goes = goes_on pairs revision last small is none in
    let later = both_none (first_of selection_faults again) (first_of continuation_faults again) (sym (whole_order again) ∙ goes.no_fault) in (
      record {
        selects = ap (option_map of_parameter) later.0;
        filters_well = subst (λ o. IfSome o (IsAccepted (schema_of c))) (sym goes.same_filter) well.filters_well;
        continues = ap (option_map of_parameter) later.1;
      },
      goes,
    )
