-- The targets of links, read again.
use Rattle.std.proofs.Common.{◌≡◌, ℕ, ◌+◌, ◌^◌, ◌<◌, false, not, map, List, [], ◌∷◌, ◌++◌, All, length, take, drop, refl, ap, ◌∙◌, arith, append_assoc, take_all, IsUtf8}
use Rattle.std.specs.Prelude.{◌==◌, filter, decimal, codes}
use Rattle.std.specs.List.{list_all, position_or_len}
use Rattle.std.proofs.lemmas.Bool.{and_parts, and_from}
use Rattle.std.proofs.lemmas.List.{drop_all}
use Rattle.std.proofs.lemmas.List.Elements.{All-nil, All-cons, All-head, All-tail, All-append, All-filter}
use Rattle.std.proofs.lemmas.Str.{IsUtf8-append, IsUtf8-from_ascii}
use Rattle.std.specs.Char.{encode_utf8}
use Rattle.std.proofs.lemmas.Fmt.{IsAscii-decimal}
use Rattle.form_urlencoded.proofs.FormLemmas.{raw_pairs-nil}
use Rattle.cad_parameters.specs.Pairs.{PairText, pair_of, pairs_of, written}
use Rattle.cad_parameters.specs.Parts.{is_byte}
use Rattle.cad_parameters.specs.Identifiers.{Numbers, Identifies, identifier_text}
use Rattle.cad_parameters.specs.Links.{is_beginning, continued}
use Rattle.cad_parameters.specs.Laws.{IsPairOfTexts, IsPath, path_of, target_pairs, SelfIsReadBack, NextIsReadBack}
use Rattle.cad_parameters.proofs.PairLemmas.{pairs_are_read_back}
use Rattle.cad_parameters.proofs.IdentifierLemmas.{Lacks, parted_by}

-- a path without `?`, as a test
path_lacks : (path : List ℕ) → IsPath path → Lacks 63 path
path_lacks [] is_path = refl
path_lacks (b ∷ path) is_path =
    and_from _ _ (ap not (All-head (λ x. (x == 63) ≡ false) b path is_path)) (path_lacks path (All-tail (λ x. (x == 63) ≡ false) b path is_path))

with_query : (path query : List ℕ) → path ++ codes "?" ++ query ≡ path ++ 63 ∷ query
with_query path query = append_assoc path (63 ∷ []) query

-- a path and a query, read again
target_read : (path query : List ℕ) (pairs : List PairText) → IsPath path → pairs_of query ≡ pairs
    → (path_of (path ++ codes "?" ++ query) ≡ path) × (target_pairs (path ++ codes "?" ++ query) ≡ pairs)
target_read path query pairs is_path same =
    let parts = parted_by 63 path query (path_lacks path is_path) in
    let whole = with_query path query in
    (ap path_of whole ∙ parts.0, ap target_pairs whole ∙ ap pairs_of parts.1 ∙ same)

-- a path alone
no_place : (path : List ℕ) → Lacks 63 path → position_or_len (is_byte 63) path ≡ length path
no_place [] lacks = refl
no_place (b ∷ path) lacks =
    let both = and_parts (not (b == 63)) (list_all (λ x. not (is_byte 63 x)) path) lacks in
    rw (both.0, no_place path both.1) (omega arith)

path_alone : (path : List ℕ) → IsPath path → (path_of path ≡ path) × (target_pairs path ≡ [])
path_alone path is_path =
    let place = no_place path (path_lacks path is_path) in (
      ap (λ n. take n path) place ∙ take_all (length path) path (omega arith),
      ap pairs_of (ap (λ n. drop (n + 1) path) place ∙ drop_all (length path + 1) path (omega arith)) ∙ ap (map pair_of) raw_pairs-nil,
    )

pub self_is_read_back : SelfIsReadBack
self_is_read_back path [] is_path texts = path_alone path is_path
self_is_read_back path (pair ∷ pairs) is_path texts =
    target_read path (written (pair ∷ pairs)) (pair ∷ pairs) is_path (pairs_are_read_back (pair ∷ pairs) texts)

point_text : IsUtf8 (codes ".")
unfolding encode_utf8
point_text = (codes ".", (refl, refl))

revision_text : IsUtf8 (codes "revision")
unfolding encode_utf8
revision_text = (codes "revision", (refl, refl))

after_text : IsUtf8 (codes "after")
unfolding encode_utf8
after_text = (codes "after", (refl, refl))

text_of_decimal : (n : ℕ) → n < 2 ^ 64 → IsUtf8 (decimal n)
text_of_decimal n small = IsUtf8-from_ascii (decimal n) (IsAscii-decimal n small)

identifier_is_text : (last : Numbers) → Identifies (identifier_text last) last → IsUtf8 (identifier_text last)
identifier_is_text last is =
    IsUtf8-append (decimal last.0) (codes "." ++ decimal last.1) (text_of_decimal last.0 (omega (arith, is.object.1)))
    (IsUtf8-append (codes ".") (decimal last.1) point_text (text_of_decimal last.1 (omega (arith, is.number.1))))

continued_texts : (pairs : List PairText) (revision : ℕ) (last : Numbers) → All IsPairOfTexts pairs → revision < 10 ^ 18
    → Identifies (identifier_text last) last → All IsPairOfTexts (continued revision last pairs)
continued_texts pairs revision last texts small is =
    All-append IsPairOfTexts (filter (λ pair. not (is_beginning pair)) pairs)
    ((codes "revision", decimal revision) ∷ (codes "after", identifier_text last) ∷ [])
    (All-filter (λ pair. not (is_beginning pair)) IsPairOfTexts pairs texts)
    (All-cons IsPairOfTexts (codes "revision", decimal revision) ((codes "after", identifier_text last) ∷ []) (revision_text, text_of_decimal revision (omega arith))
    (All-cons IsPairOfTexts (codes "after", identifier_text last) [] (after_text, identifier_is_text last is) (All-nil IsPairOfTexts)))

pub next_is_read_back : NextIsReadBack
next_is_read_back path pairs revision last is_path texts small is =
    let again = continued revision last pairs in
    target_read path (written again) again is_path (pairs_are_read_back again (continued_texts pairs revision last texts small is))
