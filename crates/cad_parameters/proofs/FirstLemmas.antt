-- Pairs that have no fault.
use Rattle.std.proofs.Common.{inl, inr, ◌++◌, refl}
use Rattle.cad_parameters.specs.declared.fault.ParameterFault.{ParameterFault}
use Rattle.cad_parameters.specs.declared.fault.ParameterFault.TheVariants.{Unknown, Repeated, Limit, Datetime, Bbox, FilterLang, Revision, After}
use Rattle.cad_parameters.specs.lemmas.FoundLemmas.{IsAmong, none_holds, none_is_found}
use Rattle.cad_parameters.specs.Parameters.{have, selection_faults, continuation_faults}
use Rattle.cad_parameters.specs.Laws.{NoFirstFaultMeansNoFault}

-- each fault is looked for
looked_for : (fault : ParameterFault) → IsAmong fault (selection_faults ++ continuation_faults)
looked_for Unknown = inl refl
looked_for Repeated = inr (inl refl)
looked_for Limit = inr (inr (inl refl))
looked_for Datetime = inr (inr (inr (inl refl)))
looked_for Bbox = inr (inr (inr (inr (inl refl))))
looked_for FilterLang = inr (inr (inr (inr (inr (inl refl)))))
looked_for Revision = inr (inr (inr (inr (inr (inr (inl refl))))))
looked_for After = inr (inr (inr (inr (inr (inr (inr (inl refl)))))))

pub no_first_fault_means_no_fault : NoFirstFaultMeansNoFault
no_first_fault_means_no_fault pairs =
    let p = λ (f : ParameterFault). have f pairs in
    let faults = selection_faults ++ continuation_faults in
    ((λ told fault. none_holds p faults fault told (looked_for fault)), (λ fails. none_is_found p faults (λ fault among. fails fault)))
