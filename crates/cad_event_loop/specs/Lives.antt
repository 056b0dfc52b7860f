-- What happens to one connection among all that is done (own profile).
use Rattle.std.specs.Prelude.{◌≡◌, ℕ, nat_eq, List, [], ◌∷◌, ◌++◌, Option, None, Some, Ok, if◌then◌else◌}
use Rattle.cad_stream.specs.declared.responder.Responder.{Ghosts}
use Rattle.cad_stream.specs.declared.journal_responder.JournalResponder.{Ghosts as JournalGhosts}
use Rattle.cad_desk.specs.declared.desk.Desk.{Desk}
use Rattle.cad_desk.specs.declared.event.Event.TheVariants.{Open, Bytes}
use Rattle.cad_desk.specs.declared.event.Reply.TheVariants.{Opened, Sent}
use Rattle.cad_desk.specs.Desks.{responder_of}
use Rattle.cad_network.specs.Deeds.{Deed, given_by, taken_by}
use Rattle.cad_clients.specs.declared.channel.Channel.{Channel}
use Rattle.cad_clients.specs.declared.turned.Ending.{Ending}
use Rattle.cad_clients.specs.Channels.{Act, wrote, took, fed, worked}
use Rattle.cad_clients.specs.Acts.{Happening, own, other, checked, read_of, written_of, Lives}
use Rattle.cad_event_loop.specs.Works.{Held, Place, event, question, rows, Said, Work, wakes, opens, acts, waits, ends, office_comes, enters, office_leaves, aside, deeds_in, Goes, Leaves, MayGoOn}

-- an act of another connection
abbrev pub by_another : ℕ → Act → List Happening → List Happening
by_another d (wrote bytes) later = later
by_another d (took bytes) later = later
by_another d (fed piece out over) later = other (Bytes d piece) (Ok (Sent out over)) ∷ later
by_another d worked later = later

-- what the desk gets for others
abbrev pub by_desk : Said → List Happening → List Happening
by_desk None later = later
by_desk (Some (event e answer)) later = other e answer ∷ later
by_desk (Some (question command answer)) later = checked ∷ later
by_desk (Some (rows answer)) later = checked ∷ later

-- what happens to connection c up to its end
abbrev pub life_of : ℕ → List Work → List Happening
life_of c [] = []
life_of c (wakes places ∷ later) = life_of c later
life_of c (opens s d ∷ later) = other (Open d) (Ok Opened) ∷ life_of c later
life_of c (acts s d act owing ∷ later) = if nat_eq d c then own act ∷ life_of c later else by_another d act (life_of c later)
life_of c (waits s d ∷ later) = life_of c later
life_of c (ends s d cause deeds said ∷ later) = if nat_eq d c then [] else by_desk said (life_of c later)
life_of c (office_comes o k ∷ later) = life_of c later
life_of c (enters o k text turned deeds said ∷ later) = by_desk said (life_of c later)
life_of c (office_leaves o k overdue ∷ later) = life_of c later
life_of c (aside deeds said ∷ later) = by_desk said (life_of c later)

-- the deeds that are its own, up to its end
abbrev pub own_deeds : ℕ → List Work → List Deed
own_deeds c [] = []
own_deeds c (wakes places ∷ later) = own_deeds c later
own_deeds c (opens s d ∷ later) = own_deeds c later
own_deeds c (acts s d act owing ∷ later) = if nat_eq d c then deeds_in s act ++ own_deeds c later else own_deeds c later
own_deeds c (waits s d ∷ later) = own_deeds c later
own_deeds c (ends s d cause deeds said ∷ later) = if nat_eq d c then deeds else own_deeds c later
own_deeds c (office_comes o k ∷ later) = own_deeds c later
own_deeds c (enters o k text turned deeds said ∷ later) = own_deeds c later
own_deeds c (office_leaves o k overdue ∷ later) = own_deeds c later
own_deeds c (aside deeds said ∷ later) = own_deeds c later

-- the cause and the deeds of its end, if it ends
abbrev pub end_of : ℕ → List Work → Option (Option Ending × List Deed)
end_of c [] = None
end_of c (wakes places ∷ later) = end_of c later
end_of c (opens s d ∷ later) = end_of c later
end_of c (acts s d act owing ∷ later) = end_of c later
end_of c (waits s d ∷ later) = end_of c later
end_of c (ends s d cause deeds said ∷ later) = if nat_eq d c then Some (cause, deeds) else end_of c later
end_of c (office_comes o k ∷ later) = end_of c later
end_of c (enters o k text turned deeds said ∷ later) = end_of c later
end_of c (office_leaves o k overdue ∷ later) = end_of c later
end_of c (aside deeds said ∷ later) = end_of c later

abbrev pub last_deeds : Option (Option Ending × List Deed) → List Deed
last_deeds None = []
last_deeds (Some ended) = ended.1

module _ {R J W : Type 0} (g : Ghosts R) (jg : JournalGhosts R J) (owes : W → List ℕ) (c s : ℕ) where
  -- it is open at the end, with this channel; or it left, for this cause and with these deeds
  abbrev pub IsLeft : Desk R → Channel W → Option (Option Ending × List Deed) → Held W → Type 0
  IsLeft mid last None next = next c ≡ Some (s, last)
  IsLeft mid last (Some ended) next = (after : Desk R) × Leaves g c s mid last ended.0 ended.1 after

  -- This happens to it. Its own deeds read and wrote what was read and written in what happens and by the deeds of its end.
  abbrev pub IsLifeBy : Desk R → Channel W → List Happening → List Deed → Option (Option Ending × List Deed) → Desk R → Held W → Type 0
  IsLifeBy old channel happenings deeds ended new next =
      (mid : Desk R) × (last : Channel W) × Lives g owes c old channel happenings mid last × IsLeft mid last ended next
      × (given_by s deeds ≡ read_of happenings ++ given_by s (last_deeds ended))
      × (taken_by s deeds ≡ written_of happenings ++ taken_by s (last_deeds ended))
      × (g.counts (responder_of new) → g.counts (responder_of mid))

  -- what is done is a life of connection c, whose socket is s
  abbrev pub IsLife : Desk R → Channel W → List Work → Desk R → Place J W → Type 0
  IsLife old channel works new next = IsLifeBy old channel (life_of c works) (own_deeds c works) (end_of c works) new next.slots

module _ {R J W : Type 0} (g : Ghosts R) (jg : JournalGhosts R J) (owes : W → List ℕ) where
  abbrev pub EachHasItsLife : Type 0
  EachHasItsLife = (c s : ℕ) (works : List Work) (old new : Desk R) (here next : Place J W) (channel : Channel W)
      → (goes : Goes g jg owes old here works new next) → MayGoOn g jg owes works old new here next goes → here.slots c ≡ Some (s, channel)
      → IsLife g jg owes c s old channel works new next
