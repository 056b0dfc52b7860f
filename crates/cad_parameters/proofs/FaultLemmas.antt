-- The first fault of several lists of faults, one after the other.
use Rattle.std.proofs.Common.{◌≡◌, List, [], ◌∷◌, ◌++◌, Option, sym}
use Rattle.std.specs.Option.{option_or}
use Rattle.std.proofs.lemmas.List.Folds.{find-append}
use Rattle.cad_parameters.specs.declared.fault.ParameterFault.{ParameterFault}
use Rattle.cad_parameters.specs.declared.fault.ParameterFault.TheVariants.{Unknown, Repeated, Limit, Datetime, Bbox, FilterLang}
use Rattle.cad_parameters.specs.Pairs.{PairText}
use Rattle.cad_parameters.specs.Parameters.{have, first_of, selection_faults}

-- what is found in the first list, else in the second
either : (pairs : List PairText) (faults others : List ParameterFault) (o p : Option ParameterFault)
    → o ≡ first_of faults pairs → p ≡ first_of others pairs → option_or o p ≡ first_of (faults ++ others) pairs
either pairs faults others o p e f = rw (e, f) (sym (find-append (λ fault. have fault pairs) faults others))

-- the faults of names, then of each parameter of a selection
pub in_turn : (pairs : List PairText) (names limit datetime bbox language : Option ParameterFault)
    → names ≡ first_of (Unknown ∷ Repeated ∷ []) pairs → limit ≡ first_of (Limit ∷ []) pairs
    → datetime ≡ first_of (Datetime ∷ []) pairs → bbox ≡ first_of (Bbox ∷ []) pairs
    → language ≡ first_of (FilterLang ∷ []) pairs
    → option_or names (option_or limit (option_or datetime (option_or bbox language))) ≡ first_of selection_faults pairs
in_turn pairs names limit datetime bbox language a b c d e =
    either pairs (Unknown ∷ Repeated ∷ []) (Limit ∷ Datetime ∷ Bbox ∷ FilterLang ∷ []) _ _ a
    (either pairs (Limit ∷ []) (Datetime ∷ Bbox ∷ FilterLang ∷ []) _ _ b
    (either pairs (Datetime ∷ []) (Bbox ∷ FilterLang ∷ []) _ _ c
    (either pairs (Bbox ∷ []) (FilterLang ∷ []) _ _ d e)))
