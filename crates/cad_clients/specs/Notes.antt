-- What is kept of a connection in addition to its channel, and what follows from it (own profile).
use Rattle.std.specs.Prelude.{◌≡◌, ◌⊎◌, ℕ, ◌-◌, ◌<◌, ◌≤◌, ◌==◌, Bool, true, false, IsTrue, length, Option, None, Some, IsSomeAnd, if◌then◌else◌}
use Rattle.std.specs.Option.{option_or}
use Rattle.cad_clients.specs.declared.budget.Budget.{Budget}
use Rattle.cad_clients.specs.declared.budget.Budget.TheVariants.{First, Later}
use Rattle.cad_clients.specs.declared.turned.Turned.{Turned}
use Rattle.cad_clients.specs.declared.turned.Turned.TheVariants.{Wrote, Took, Fed, Worked, Waits, Over}
use Rattle.cad_clients.specs.declared.channel.Channel.{Channel}
use Rattle.cad_clients.specs.Channels as channels
use Rattle.cad_clients.specs.Channels.{at_hand, is_working}
use Rattle.cad_clients.specs.declared.client.Client.{Client}
use Rattle.cad_clients.specs.declared.limits.Limits.{Limits}

-- whether its socket may give or take something, when something was last done for it, and since when the time of a request runs
pub record Notes : Type 0 where
  pub is_ready : Bool
  pub moved : ℕ
  pub begun : Option ℕ

-- what is kept of this connection
abbrev pub notes_of : {S W : Type 0} → Client S W → Notes
notes_of client = record { is_ready = client.is_ready; moved = client.moved; begun = client.begun }

-- what is kept of a connection that is opened at this moment
abbrev pub first_notes : ℕ → Notes
first_notes now = record { is_ready = true; moved = now; begun = None }

-- the time of a request runs from its first bytes on. It does not run while the reply waits for its first later piece of work, and runs again
-- from that piece on.
abbrev pub begun_after : ℕ → Budget → Bool → Option ℕ → Option ℕ
begun_after now First working begun = if working then None else option_or begun (Some now)
begun_after now Later working begun = option_or begun (Some now)

module _ {W : Type 0} where
  -- what is kept after a turn at this moment, by this budget, that left this channel: its socket may be ready, unless the turn waited
  abbrev pub noted : ℕ → Budget → Turned → Channel W → Notes → Notes
  -- bytes went out: if all at hand did, no time runs until the next reply is made
  noted now budget Wrote next notes = record notes { is_ready = true; moved = now; begun = if length (at_hand next) == 0 then None else notes.begun }
  -- bytes came: the time of a request runs already, or from now on
  noted now budget Took next notes = record notes { is_ready = true; moved = now; begun = option_or notes.begun (Some now) }
  noted now budget Fed next notes = record notes { is_ready = true; begun = begun_after now First (is_working next) notes.begun }
  noted now budget Worked next notes = record { is_ready = true; moved = now; begun = begun_after now budget (is_working next) notes.begun }
  noted now budget Waits next notes = record notes { is_ready = false }
  noted now budget (Over ending) next notes = notes

module _ {S W : Type 0} where
  -- the connection, whose socket may give or take something
  abbrev pub marked : Client S W → Client S W
  marked client = record client { is_ready = true }

  -- bytes at hand have not gone out
  abbrev pub IsSending : Client S W → Type 0
  IsSending client = channels.IsSending client.channel

  -- the same, or replies are owed
  abbrev pub IsOwing : Client S W → Type 0
  IsOwing client = IsSending client ⊎ (0 < length client.channel.parts.items)

  -- its next reply is worked on
  abbrev pub IsWorking : Client S W → Type 0
  IsWorking client = channels.IsWorking client.channel

  -- its socket may give or take something, and no reply has to be worked on first
  abbrev pub MayGoOn : Client S W → Type 0
  MayGoOn client = IsTrue client.is_ready × (is_working client.channel ≡ false)

  -- nothing was done for too long, and that is not the server's doing, since no reply is worked on; or the time of a request ran for too long.
  -- If the clock went back, no time has passed.
  abbrev pub IsOverdue : ℕ → Limits → Client S W → Type 0
  IsOverdue now limits client =
      ((is_working client.channel ≡ false) × (limits.idle ≤ now - client.moved)) ⊎ IsSomeAnd client.begun (λ begun. limits.request ≤ now - begun)
