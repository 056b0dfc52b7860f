use Rattle.std.proofs.Common.{◌∙◌, ap, sym, subst}
use Rattle.std.specs.Iterator.{Yields}
use Rattle.std.specs.Prelude.{chars}
use Rattle.std.specs.Str.Iter.{chars_steps}
use Rattle.std.proofs.lemmas.Str.{Chars-Drains, encodes-chars}
use Rattle.cql_text.specs.Hashes.{hash_of_text}
use Rattle.cql_text.proofs.hash.hash_of.Goals as goal

pub returns-clause-hash : goal.returns-clause-hash
returns-clause-hash c =
    let l = c.loop-character in
    let drained = Chars-Drains (chars c.args.text.now) l.yielded c.chars-character-items.result (encodes-chars c.args.text.now c.utf8.text ∙ sym c.chars-character-items.ensures.rest) (c.next.new.self, (l.character-iterator, subst (λ s. Yields chars_steps s l.yielded l.character-iterator) c.into_iter-character-iterator.ensures.into_iter_gives l.yielded_by, c.in-None.ensures.steps)) in
    l.invariant.hash ∙ ap hash_of_text drained
