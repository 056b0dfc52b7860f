use Rattle.std.proofs.Common.{◌≡◌, Some, chars, refl}
use Rattle.std.specs.Prelude.{string_bytes}
use Rattle.cql_meaning.specs.lemmas.TermLemmas.{text_Folded}
use Rattle.cql_meaning.specs.Values.{text_value}
use Rattle.cql_meaning.proofs.constant.+constant_text.Goals as goal

pub returns-in_ok-text-in-Some : goal.returns-in_ok-text-in-Some
returns-in_ok-text-in-Some m c = λ x.
    let term : Some (chars (string_bytes c.in-Some.text)) ≡ text_value x c.deref.result.now = rw c.in-Some.is at (c.in_ok-text-in-Folded.ensures x) in
    rw (c.in-Folded.is, text_Folded x c.in-Folded.term, ← c.deref.ensures, ← term, c.in_ok-text-in-Some.ensures, c.as_str-in-Some.ensures.value) refl
