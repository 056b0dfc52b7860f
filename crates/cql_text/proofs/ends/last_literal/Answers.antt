use Rattle.std.proofs.Common.{◌∙◌, ◌∷◌, [], ◌++◌, ap}
use Rattle.std.specs.Prelude.{chars}
use Rattle.cql_text.specs.Patterns.{pieces}
use Rattle.cql_text.specs.inner.Parts.{piece_of}
use Rattle.cql_text.proofs.EndLemmas.{ends_alike}
use Rattle.cql_text.proofs.ends.last_literal.Goals as goal

pub returns-in-Some-Exactly-clause-alike : goal.returns-in-Some-Exactly-clause-alike
returns-in-Some-Exactly-clause-alike c = λ text h.
    let part = c.in-Some-Exactly.ensures in
    ends_alike c.in-Some-Exactly.last (pieces (chars c.args.pattern.now)) text (part.0, part.1 ∙ ap (λ p. part.0 ++ piece_of p ∷ []) c.in-Some-Exactly.field-0-is) h
