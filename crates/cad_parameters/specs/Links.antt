-- The targets of the links of a page (OGC 17-069r4, 7.15.5: links self and next; revision and after: own profile).
use Rattle.std.specs.Prelude.{ℕ, ◌||◌, not, Bool, List, [], ◌∷◌, ◌++◌, filter, codes, decimal}
use Rattle.std.specs.Str.{bytes_eq}
use Rattle.cad_parameters.specs.Pairs.{PairText, written}
use Rattle.cad_parameters.specs.Identifiers.{Numbers, identifier_text}

-- the path, and the pairs if there are any
abbrev pub self_target : List ℕ → List PairText → List ℕ
self_target path [] = path
self_target path (pair ∷ pairs) = path ++ codes "?" ++ written (pair ∷ pairs)

-- the parameters that say where a page begins: the revision that it shows, and the identifier that it starts after
abbrev pub is_beginning : PairText → Bool
is_beginning pair = bytes_eq pair.0 (codes "revision") || bytes_eq pair.0 (codes "after")

-- the same pairs, to begin at this revision after this identifier
abbrev pub continued : ℕ → Numbers → List PairText → List PairText
continued revision last pairs =
    filter (λ pair. not (is_beginning pair)) pairs
    ++ (codes "revision", decimal revision) ∷ (codes "after", identifier_text last) ∷ []

abbrev pub next_target : List ℕ → List PairText → ℕ → Numbers → List ℕ
next_target path pairs revision last = path ++ codes "?" ++ written (continued revision last pairs)
