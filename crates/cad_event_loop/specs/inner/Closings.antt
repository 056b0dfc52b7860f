-- What is written before all are let go (own profile).
use Rattle.std.specs.Prelude.{◌⊎◌, ℕ, ◌+◌, ◌<◌, ◌≤◌, IsSomeAnd}
use Rattle.cad_clients.specs.Notes.{IsSending}
use Rattle.cad_clients.specs.Slots.{client_at}
use Rattle.cad_event_loop.specs.declared.rounds.Rounds.{Rounds}
use Rattle.cad_event_loop.specs.inner.Offices.{seat_at, IsOfficeSending}
use Rattle.cad_event_loop.specs.Works.{most_offices}

-- nothing is left of a reply that is made, or of an answer to the land office
pub record IsAllSent {S J W : Type 0} (rounds : Rounds S J W) : Type 0 where
  pub clients : (c : ℕ) → IsSomeAnd (client_at rounds.peers.clients c) IsSending → ⊥
  pub offices : (k : ℕ) → k < most_offices → IsOfficeSending (seat_at rounds.offices k) → ⊥

-- for how many seconds they are written
abbrev pub last_seconds : ℕ
last_seconds = 5

-- all is sent, or the time for it is over
abbrev pub IsLastSent : {S J W : Type 0} → Rounds S J W → Rounds S J W → Type 0
IsLastSent old new = IsAllSent new ⊎ (old.peers.now + last_seconds ≤ new.peers.now)
