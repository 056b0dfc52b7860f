-- Commands that were accepted one after the other, and one more command.
use Rattle.std.proofs.Common.{◌≡◌, ◌+◌, List, [], ◌∷◌, ◌++◌, length, fold, None, ap, ◌∙◌, zero-add}
use Rattle.cad_versions.specs.declared.command.Command.{Command}
use Rattle.cad_versions.specs.VersionedObject.{VersionedObject}
use Rattle.cad_versions.specs.Versions.{versions_after}
use Rattle.cad_versions.specs.Refusals.{refusal, AreAccepted}
use Rattle.cad_versions.specs.Entries.{entries_of, entries_after}
use Rattle.cad_versions.specs.lemmas.EntryLemmas.{entries_append}

-- those, and one that is accepted after them
pub accepted_then : (vs : List VersionedObject) (cs : List Command) (c : Command) → AreAccepted vs cs → refusal (fold versions_after vs cs) c ≡ None → AreAccepted vs (cs ++ c ∷ [])
accepted_then vs [] c all fine = (fine, tt)
accepted_then vs (d ∷ cs) c all fine = (all.0, accepted_then (versions_after vs d) cs c all.1 fine)

-- the first of them
pub accepted_front : (vs : List VersionedObject) (cs more : List Command) → AreAccepted vs (cs ++ more) → AreAccepted vs cs
accepted_front vs [] more all = tt
accepted_front vs (c ∷ cs) more all = (all.0, accepted_front (versions_after vs c) cs more all.1)

-- what one more command does to the entries
pub entries_then : (cs : List Command) (c : Command) → entries_of (cs ++ c ∷ []) ≡ entries_after (length cs + 1) (entries_of cs) c
entries_then cs c = entries_append 0 [] cs (c ∷ []) ∙ ap (λ m. entries_after (m + 1) (entries_of cs) c) (zero-add (length cs))
