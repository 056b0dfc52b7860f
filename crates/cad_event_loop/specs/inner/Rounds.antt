-- Who is here, as the code holds them (own profile).
use Rattle.std.specs.Prelude.{◌≡◌, ℕ, [], None}
use Rattle.cad_clients.specs.Slots.{client_at}
use Rattle.cad_event_loop.specs.declared.rounds.Rounds.{Rounds}
use Rattle.cad_event_loop.specs.inner.Offices.{seat_at, offices_at}
use Rattle.cad_event_loop.specs.inner.Standing.{standings}
use Rattle.cad_event_loop.specs.Turns.{Standings}
use Rattle.cad_event_loop.specs.Works.{Place, place_of}

-- the clients and the land office's connections, if sockets of this type have these names
abbrev pub here : {S J W : Type 0} → (S → ℕ) → Rounds S J W → Place J W
here name rounds = place_of name rounds.peers.clients (offices_at name rounds.offices)

-- their states
abbrev pub standing : {S J W : Type 0} → (S → ℕ) → Rounds S J W → Standings
standing name rounds = standings rounds.peers (offices_at name rounds.offices)

-- none of them
abbrev pub IsNobody : {S J W : Type 0} → Rounds S J W → Type 0
IsNobody rounds = ((c : ℕ) → client_at rounds.peers.clients c ≡ None) × ((k : ℕ) → seat_at rounds.offices k ≡ None) × (rounds.peers.line.numbers.items ≡ [])
