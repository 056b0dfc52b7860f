use Rattle.std.proofs.Common.{◌∙◌, ◌∷◌, [], ◌++◌, ℕ, List, ap, sym}
use Rattle.std.specs.Prelude.{chars}
use Rattle.std.proofs.lemmas.List.{append-nil, nil_from_length}
use Rattle.std.proofs.lemmas.Str.{chars_from_encodes, chars-nil, encodes-append}
use Rattle.std.proofs.Math.Utf8.{encode}
use Rattle.cql_text.proofs.ends.last_char.Goals as goal

pub returns-in-None : goal.returns-in-None
returns-in-None c = ap chars (sym c.chars-all.ensures.rest ∙ nil_from_length _ c.in-None.ensures.steps.0) ∙ chars-nil

pub returns-in-Some : goal.returns-in-Some
returns-in-Some c =
    let last = c.in-Some.last in
    let u = c.as_str.utf8 in
    let parts = encodes-append u.0 (last ∷ []) ∙ (λ i. (u.1.1 ∙ c.as_str.ensures) i ++ append-nil (encode last) i) in
    let whole = chars_from_encodes (u.0 ++ last ∷ []) c.args.text.now c.utf8.text (parts ∙ sym c.in-Some.ensures.steps ∙ c.chars-all.ensures.rest) in
    sym whole ∙ ap (λ (r : List ℕ). r ++ last ∷ []) (chars_from_encodes u.0 c.as_str.result.now u u.1.1)
