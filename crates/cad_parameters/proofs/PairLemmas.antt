-- Pairs that are written and read again.
use Rattle.std.proofs.Common.{◌≡◌, ℕ, List, [], ◌∷◌, All, map, refl, ap, ◌∙◌}
use Rattle.std.proofs.lemmas.List.Elements.{All-nil, All-cons, All-head, All-tail, All-weaker}
use Rattle.std.proofs.lemmas.Str.{utf8_lossy-IsUtf8}
use Rattle.std.specs.Str.Lossy.{utf8_lossy}
use Rattle.form_urlencoded.specs.Form.{raw_pairs, decode}
use Rattle.form_urlencoded.proofs.FormLemmas.{IsBytePair, round_trip}
use Rattle.cad_parameters.specs.Pairs.{PairText, pair_of, written}
use Rattle.cad_parameters.specs.Laws.{IsPairOfTexts, PairsAreTexts, PairsAreReadBack}
use Rattle.cad_parameters.proofs.TextLemmas.{text_bytes, IsUtf8-lossy}

-- the bytes that a pair stands for, before they are read as text
abbrev decoded : List ℕ × List ℕ → PairText
decoded raw = (decode raw.0, decode raw.1)

abbrev as_text : PairText → PairText
as_text pair = (utf8_lossy pair.0, utf8_lossy pair.1)

read_raw : (raws : List (List ℕ × List ℕ)) → map pair_of raws ≡ map as_text (map decoded raws)
read_raw [] = refl
read_raw (raw ∷ raws) = ap (λ (pairs : List PairText). pair_of raw ∷ pairs) (read_raw raws)

texts_stay : (pairs : List PairText) → All IsPairOfTexts pairs → map as_text pairs ≡ pairs
texts_stay [] texts = refl
texts_stay (pair ∷ pairs) texts =
    let first = All-head IsPairOfTexts pair pairs texts in
    rw (utf8_lossy-IsUtf8 pair.0 first.0, utf8_lossy-IsUtf8 pair.1 first.1, texts_stay pairs (All-tail IsPairOfTexts pair pairs texts)) refl

byte_pairs : (pairs : List PairText) → All IsPairOfTexts pairs → All IsBytePair pairs
byte_pairs = All-weaker IsPairOfTexts IsBytePair (λ pair texts. (text_bytes pair.0 texts.0, text_bytes pair.1 texts.1))

pub pairs_are_read_back : PairsAreReadBack
pairs_are_read_back pairs texts =
    read_raw (raw_pairs (written pairs)) ∙ ap (map as_text) (round_trip pairs (byte_pairs pairs texts)) ∙ texts_stay pairs texts

read_texts : (raws : List (List ℕ × List ℕ)) → All IsPairOfTexts (map pair_of raws)
read_texts [] = All-nil IsPairOfTexts
read_texts (raw ∷ raws) =
    All-cons IsPairOfTexts (pair_of raw) (map pair_of raws) (IsUtf8-lossy (decode raw.0), IsUtf8-lossy (decode raw.1)) (read_texts raws)

pub pairs_are_texts : PairsAreTexts
pairs_are_texts query = read_texts (raw_pairs query)
