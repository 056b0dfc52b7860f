-- The pairs of the next page, written.
use Rattle.std.proofs.Common.{◌≡◌, ℕ, List, [], ◌∷◌, sym}
use Rattle.std.specs.Prelude.{filter, not, codes, decimal}
use Rattle.std.proofs.lemmas.List.Sums.{fold-append}
use Rattle.form_urlencoded.specs.Form.{append_pair}
use Rattle.cad_parameters.specs.Pairs.{PairText, written}
use Rattle.cad_parameters.specs.Identifiers.{Numbers, identifier_text}
use Rattle.cad_parameters.specs.Links.{is_beginning, continued}

-- the pairs that stay, then the revision, then the identifier
pub continued_is : (revision : ℕ) (last : Numbers) (pairs : List PairText)
    → append_pair (append_pair (written (filter (λ pair. not (is_beginning pair)) pairs)) (codes "revision") (decimal revision)) (codes "after") (identifier_text last)
    ≡ written (continued revision last pairs)
continued_is revision last pairs =
    sym (fold-append (λ (text : List ℕ) (pair : PairText). append_pair text pair.0 pair.1) [] (filter (λ pair. not (is_beginning pair)) pairs)
    ((codes "revision", decimal revision) ∷ (codes "after", identifier_text last) ∷ []))
