-- The numbers of every sixteenth text.
use Rattle.std.specs.Prelude.{◌≡◌, ℕ, ◌+◌, ◌*◌, ◌/◌, ◌<◌, List, [], length, get_or}
use Rattle.cad_ordered.specs.TwoFronts.{AreFrontsOf}
use Rattle.cad_ordered.specs.declared.text_key.Fronts.{Fronts}

-- the texts at the places 0, 16, 32 .. have these numbers
pub record AreSamples (samples : List Fronts) (texts : List (List ℕ)) : Type 0 where
  pub counted : length samples ≡ (length texts + 15) / 16
  pub fronted : (i : ℕ) (none : Fronts) → i < length samples → AreFrontsOf (get_or samples i none) (get_or texts (16 * i) [])
