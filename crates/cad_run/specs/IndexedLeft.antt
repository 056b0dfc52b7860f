-- The remaining candidates of indexed features.
use Rattle.std.specs.Prelude.{◌≡◌, true, List, [], ◌∷◌}
use Rattle.cad_feature.specs.Features.{Item}
use Rattle.cad_layer.specs.Walks.{all_in}
use Rattle.cad_run.specs.declared.indexed_candidates.IndexedCandidates.{IndexedCandidates}
use Rattle.cad_run.specs.Bases.{rows_left}
use Rattle.cad_run.specs.Peeked.{peeked_left}
use Rattle.cad_run.specs.Standing.{standing, stands}

-- of indexed features: those of the base that no older change replaces, and the older changes
abbrev pub indexed_left : IndexedCandidates → List Item
indexed_left i = all_in (standing i.older.now (peeked_left rows_left i.bases)) (peeked_left rows_left i.olders)

-- no older change replaces the first of a list
abbrev pub FirstStands : List Item → List Item → Type 0
FirstStands cs [] = Unit {0}
FirstStands cs (x ∷ xs) = stands cs x ≡ true

-- nor the first of the rest of the base
abbrev pub BaseStandsFirst : IndexedCandidates → Type 0
BaseStandsFirst i = FirstStands i.older.now (peeked_left rows_left i.bases)
