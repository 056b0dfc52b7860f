use Rattle.std.proofs.Common.{◌∙◌, ap, sym, subst}
use Rattle.std.specs.Iterator.{Yields}
use Rattle.std.specs.Str.Iter.{chars_steps}
use Rattle.std.proofs.lemmas.Iterator.{items_from_drains}
use Rattle.std.proofs.lemmas.List.{map-id}
use Rattle.unicode_normalization.proofs.IterLemmas.{Spells-chars}
use Rattle.caseless.specs.CaseFold.{CaseFoldSteps}
use Rattle.caseless.proofs.CaselessLemmas.{Spells-CaseFold}
use Rattle.cql_text.specs.Hashes.{hash_of_text}
use Rattle.cql_text.proofs.hash.hash_of_folded.Goals as goal

pub returns-clause-hash : goal.returns-clause-hash
returns-clause-hash c =
    let l = c.loop-character in
    let spells = Spells-CaseFold (c.default_case_fold-character-items.ensures.text _ (Spells-chars _ _ c.utf8.text c.chars.ensures.rest)) in
    let yields = subst (λ s. Yields (CaseFoldSteps chars_steps) s l.yielded l.character-iterator) c.into_iter-character-iterator.ensures.into_iter_gives l.yielded_by in
    let same = items_from_drains {steps = CaseFoldSteps chars_steps} {v = λ x. x} {s = c.default_case_fold-character-items.result} l.yielded (l.character-iterator, yields, λ _. (c.next.new.self, c.in-None.ensures.steps)) (record { runs = spells }) in
    l.invariant.hash ∙ ap hash_of_text (sym (map-id l.yielded) ∙ same)
