-- What happens to a connection in a whole round (own profile).
use Rattle.std.specs.Prelude.{◌≡◌, ◌⊎◌, ℕ, ◌≤◌, nat_eq, Bool, true, false, List, [], ◌∷◌, ◌++◌, Some}
use Rattle.cad_stream.specs.declared.responder.Responder.{Ghosts}
use Rattle.cad_stream.specs.declared.journal_responder.JournalResponder.{Ghosts as JournalGhosts}
use Rattle.cad_desk.specs.declared.desk.Desk.{Desk}
use Rattle.cad_clients.specs.declared.channel.Channel.{Channel}
use Rattle.cad_clients.specs.Channels.{MayWait}
use Rattle.cad_event_loop.specs.Turns.{absent, waiting, working, nobody, is_among, stands_in, line_in, any_of, turns_of, Replies, WorksOn, AreRounds, all_works}
use Rattle.cad_event_loop.specs.Works.{Place, IsEmpty, Work, waits, ends, Goes}

-- connection c is let go: it is over by a turn of its own, or it was overdue
abbrev pub is_leaving : ℕ → Work → Bool
is_leaving c (ends s d cause deeds said) = nat_eq d c
is_leaving c other = false

module _ {R J W : Type 0} (g : Ghosts R) (jg : JournalGhosts R J) (owes : W → List ℕ) where
  -- Among these works connection c has a turn at which its socket gives or takes nothing.
  -- Then all that was read was taken, and all that the desk sent was written; or something is to be written.
  pub record RestsIn (c s : ℕ) (works : List Work) (old : Desk R) (here : Place J W) : Type 0 where
    pub before : List Work
    pub later : List Work
    pub mid : Desk R
    pub between : Place J W
    pub channel : Channel W
    pub all : works ≡ before ++ waits s c ∷ later
    pub goes : Goes g jg owes old here before mid between
    pub held : between.slots c ≡ Some (s, channel)
    pub rests : MayWait channel

  -- For a connection that is open when a round begins, after other rounds that began with nobody: it waits since before; or a reply of it is
  -- worked on since before, and it is in the line; or it waits at a turn in this round; or it is let go; or the desk takes a piece of what was
  -- read, and all that it sends for that is written; or a reply is worked on, and one is to be worked on after that; or it has four turns.
  abbrev pub EachIsServed : Type 0
  EachIsServed = (c s : ℕ) (channel : Channel W) (rounds : List (List Work)) (round : List Work) (old mid new : Desk R) (first here next : Place J W)
      → IsEmpty first → AreRounds nobody (rounds ++ round ∷ []) → Goes g jg owes old first (all_works rounds) mid here → Goes g jg owes mid here round new next → here.slots c ≡ Some (s, channel)
      → ((stands_in c absent (all_works rounds) ≡ waiting) × MayWait channel)
      ⊎ (((stands_in c absent (all_works rounds) ≡ working) × (is_among c (line_in [] (all_works rounds)) ≡ true))
      ⊎ (RestsIn c s round mid here ⊎ ((any_of (is_leaving c) round ≡ true) ⊎ (Replies c round ⊎ (WorksOn c round ⊎ (4 ≤ turns_of c round))))))
