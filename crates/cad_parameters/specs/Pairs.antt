-- The parameters of a request (application/x-www-form-urlencoded, as in the URL standard, section 5).
use Rattle.std.specs.Prelude.{ℕ, List, [], map, option_map, Option, string_bytes}
use Rattle.std.specs.List.{find}
use Rattle.std.specs.Str.{bytes_eq}
use Rattle.std.specs.Str.Lossy.{utf8_lossy}
use Rattle.form_urlencoded.specs.Form.{raw_pairs, decode, extend_pairs}
use Rattle.cad_parameters.specs.declared.pairs.Pair.{Pair}

-- a parameter's name and value
abbrev pub PairText : Type 0
PairText = List ℕ × List ℕ

-- a name or a value, decoded, with U+FFFD for what is not UTF-8
abbrev pub text_of : List ℕ → List ℕ
text_of bytes = utf8_lossy (decode bytes)

-- a pair, both sides decoded
abbrev pub pair_of : List ℕ × List ℕ → PairText
pair_of raw = (text_of raw.0, text_of raw.1)

-- the pairs of a query, in their order
abbrev pub pairs_of : List ℕ → List PairText
pairs_of query = map pair_of (raw_pairs query)

-- the pairs written as a query
abbrev pub written : List PairText → List ℕ
written pairs = extend_pairs [] pairs

-- the texts of a pair
abbrev pub pair_text : Pair → PairText
pair_text pair = (string_bytes pair.name, string_bytes pair.value)

-- the value that is given under a name, if there is one
abbrev pub given : List ℕ → List PairText → Option (List ℕ)
given name pairs = option_map (λ (pair : PairText). pair.1) (find (λ pair. bytes_eq pair.0 name) pairs)
