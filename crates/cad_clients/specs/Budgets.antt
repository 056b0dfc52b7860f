-- How much work a turn may do for a reply (own profile).
use Rattle.std.specs.Prelude.{◌≡◌, ℕ, ◌+◌, ◌<◌, List, [], ◌∷◌}
use Rattle.cad_stream.specs.declared.working_responder.Part.{Part}
use Rattle.cad_stream.specs.Beginning.{pieces_left}
use Rattle.cad_clients.specs.declared.budget.Budget.{Budget}
use Rattle.cad_clients.specs.declared.budget.Budget.TheVariants.{First, Later}
use Rattle.cad_clients.specs.declared.channel.Channel.{Channel}
use Rattle.cad_clients.specs.declared.turned.Ending.TheVariants.{Unmade}
use Rattle.cad_clients.specs.declared.turned.Turned.{Turned}
use Rattle.cad_clients.specs.declared.turned.Turned.TheVariants.{Worked, Over}

-- the most units of work of a first piece, which is made in a visit, and of a later one
abbrev pub first_piece : ℕ
first_piece = 819

abbrev pub later_piece : ℕ
later_piece = 8192

abbrev pub units_of : Budget → ℕ
units_of First = first_piece
units_of Later = later_piece

-- how many pieces of work a turn with this result is: only such a turn does any
abbrev pub worked_by : Turned → ℕ
worked_by Worked = 1
worked_by (Over Unmade) = 1
worked_by other = 0

-- how much is left to do for these replies, at most, where this much is left of the work: the pieces of work for each, and to pass it on
abbrev pub to_do : {W : Type 0} → (W → ℕ) → List (Part W) → ℕ
to_do remaining [] = 0
to_do remaining (part ∷ parts) = pieces_left remaining part + 1 + to_do remaining parts

-- after a piece of work, less is left to do for the replies of the channel: so each of them is made after some pieces
abbrev pub GetsLess : {W : Type 0} → (W → ℕ) → Turned → Channel W → Channel W → Type 0
GetsLess remaining turned channel next = turned ≡ Worked → to_do remaining next.parts.items < to_do remaining channel.parts.items
