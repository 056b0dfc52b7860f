use Rattle.std.proofs.Common.{◌∙◌, ◌∷◌, ◌++◌, ℕ, List, ap, sym}
use Rattle.std.proofs.lemmas.Str.{chars_from_encodes}
use Rattle.std.proofs.Math.Utf8.{encode}
use Rattle.cql_text.proofs.pattern.first_char.Goals as goal

pub returns-in-Some : goal.returns-in-Some
returns-in-Some c =
    let first = c.in-Some.first in
    let u = c.as_str.utf8 in
    let whole = chars_from_encodes (first ∷ u.0) c.args.text.now c.utf8.text (ap (λ (r : List ℕ). encode first ++ r) (u.1.1 ∙ c.as_str.ensures) ∙ sym c.in-Some.ensures.steps.0 ∙ c.chars-all.ensures.rest) in
    sym whole ∙ ap (λ (r : List ℕ). first ∷ r) (chars_from_encodes u.0 c.as_str.result.now u u.1.1)
