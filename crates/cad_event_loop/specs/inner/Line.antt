-- The clients whose replies are worked on, as the code keeps them (own profile).
use Rattle.std.specs.Prelude.{◌≡◌, ℕ, Bool, true, false, not, ◌&&◌, List, [], ◌∷◌, Option, None, Some, if◌then◌else◌}
use Rattle.cad_clients.specs.Channels.{is_working}
use Rattle.cad_clients.specs.declared.client.Client.{Client}
use Rattle.cad_clients.specs.declared.clients.Clients.{Clients}
use Rattle.cad_clients.specs.Slots.{client_at}
use Rattle.cad_event_loop.specs.Turns.{Standing, absent, waiting, ready, working, is_among}

abbrev pub standing_of : {S W : Type 0} → Option (Client S W) → Standing
standing_of None = absent
standing_of (Some client) = if is_working client.channel then working else (if client.is_ready then ready else waiting)

abbrev pub standing_at : {S W : Type 0} → Clients S W → ℕ → Standing
standing_at clients c = standing_of (client_at clients c)

-- the first of the line
abbrev pub first_of : List ℕ → Option ℕ
first_of [] = None
first_of (first ∷ rest) = Some first

-- no number is in the line twice
abbrev pub is_once : List ℕ → Bool
is_once [] = true
is_once (first ∷ rest) = not (is_among first rest) && is_once rest

-- a reply is worked on
abbrev pub is_worked_on : Standing → Bool
is_worked_on working = true
is_worked_on other = false

-- these are in the line whose replies are worked on, each once
pub record IsLineOf (stands : ℕ → Standing) (line : List ℕ) : Type 0 where
  pub once : is_once line ≡ true
  pub each : (c : ℕ) → is_among c line ≡ is_worked_on (stands c)
