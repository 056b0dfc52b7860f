use Rattle.std.proofs.Common.{◌≡◌, Some, refl}
use Rattle.cql_text.specs.Fronts.{text_of}
use Rattle.cql_meaning.specs.Values.{text_value}
use Rattle.cql_rewrite.proofs.Turns.{flipped_texts}
use Rattle.cql_rewrite.proofs.terms.computed_texts.Goals as goal

pub returns-in-Some-Some : goal.returns-in-Some-Some
returns-in-Some-Some c = λ x.
    let k = c.in-Some-Some in
    let a : Some (text_of k.a) ≡ text_value x c.args.left.now = rw k.is-0 at (c.in_ok-first.ensures x) in
    let b : Some (text_of k.b) ≡ text_value x c.args.right.now = rw k.is-1 at (c.in_ok-second.ensures x) in
    rw (← a, ← b, c.stands.ensures, c.compare.ensures, c.as_str.ensures.value, c.as_str-in-Some-Some.ensures.value) refl

pub returns-in-Some-None : goal.returns-in-Some-None
returns-in-Some-None c = λ x.
    let k = c.in-Some-None in
    let known : Some (text_of k.known) ≡ text_value x c.args.left.now = rw k.is-0 at (c.in_ok-first.ensures x) in
    rw (← (flipped_texts c.args.by (text_value x c.args.left.now) (text_value x c.args.right.now)), ← c.turned.ensures, ← known) (c.against_text.ensures x)

pub returns-in-None-Some : goal.returns-in-None-Some
returns-in-None-Some c = λ x.
    let k = c.in-None-Some in
    let known : Some (text_of k.known) ≡ text_value x c.args.right.now = rw k.is-1 at (c.in_ok-second.ensures x) in
    rw (← known) (c.against_text-in-None-Some.ensures x)
