-- What a connection holds between its socket and the desk, and what a turn does (own profile).
use Rattle.std.specs.Prelude.{◌≡◌, ◌⊎◌, ℕ, ◌-◌, ◌<◌, ◌==◌, Bool, true, false, not, ◌&&◌, IsTrue, List, [], ◌∷◌, ◌++◌, length, take, drop, Result, Ok, Err}
use Rattle.std.specs.Global.{Vec}
use Rattle.cad_stream.specs.declared.responder.Responder.{Ghosts}
use Rattle.cad_stream.specs.declared.working_responder.Part.{Part}
use Rattle.cad_stream.specs.declared.working_responder.Part.TheVariants.{Made}
use Rattle.cad_stream.specs.Beginning.{told_all}
use Rattle.cad_desk.specs.declared.desk.Desk.{Desk}
use Rattle.cad_desk.specs.declared.event.Event.TheVariants.{Bytes, Close}
use Rattle.cad_desk.specs.declared.event.Reply.{Reply}
use Rattle.cad_desk.specs.declared.event.Reply.TheVariants.{Sent}
use Rattle.cad_desk.specs.declared.fault.DeskFault.{DeskFault}
use Rattle.cad_desk.specs.declared.fault.DeskFault.TheVariants.{Memory}
use Rattle.cad_desk.specs.Desks.{Steps}
use Rattle.cad_io.specs.Writing.{IsFront}
use Rattle.cad_network.specs.Deeds.{Deed, blocked, failed}
use Rattle.cad_network.specs.Deeds as deed
use Rattle.cad_serve.specs.Serving.{IsPiece}
use Rattle.cad_serve.specs.Writing.{fixed_head}
use Rattle.cad_clients.specs.declared.channel.Channel.{Channel}
use Rattle.cad_clients.specs.declared.turned.Ending.{Ending}
use Rattle.cad_clients.specs.declared.turned.Ending.TheVariants.{PeerEnded, WeEnded, Refused, Unmade, ReadFailed, WriteFailed}
use Rattle.cad_clients.specs.declared.turned.Turned.{Turned}
use Rattle.cad_clients.specs.declared.turned.Turned.TheVariants.{Wrote, Took, Fed, Worked, Waits, Over}

-- bytes that were read and that the desk has not taken
abbrev pub unfed : {W : Type 0} → Channel W → List ℕ
unfed channel = drop channel.input_at channel.input.items

-- bytes that the desk sends, that are made and that were not written
abbrev pub at_hand : {W : Type 0} → Channel W → List ℕ
at_hand channel = drop channel.output_at channel.output.items

-- all bytes that the desk sends and that were not written: those at hand, and those of the replies that are owed after them
abbrev pub unsent : {W : Type 0} → (W → List ℕ) → Channel W → List ℕ
unsent owes channel = at_hand channel ++ told_all owes channel.parts.items

-- the piece that the desk took last
abbrev pub last_fed : {W : Type 0} → Channel W → List ℕ
last_fed channel = take (channel.input_at - channel.fed_at) (drop channel.fed_at channel.input.items)

-- a reply ended the connection
abbrev pub has_ended : {W : Type 0} → Channel W → Bool
has_ended channel = channel.ends

-- all that the desk sends was written
pub record IsSent {W : Type 0} (channel : Channel W) : Type 0 where
  pub none_at_hand : at_hand channel ≡ []
  pub none_owed : channel.parts.items ≡ []

-- the same, and the connection stays open: only then more is taken from it
pub record IsReady {W : Type 0} (channel : Channel W) : Type 0 where
  pub sent : IsSent channel
  pub goes_on : has_ended channel ≡ false

-- the same, and the desk took all that was read
pub record IsIdle {W : Type 0} (channel : Channel W) : Type 0 where
  pub ready : IsReady channel
  pub all_fed : unfed channel ≡ []

-- bytes at hand are to be written
abbrev pub IsSending : {W : Type 0} → Channel W → Type 0
IsSending channel = 0 < length (at_hand channel)

-- all bytes at hand were written, and a reply is owed that is not made: it is worked on next
abbrev pub is_working : {W : Type 0} → Channel W → Bool
is_working channel = (length (at_hand channel) == 0) && not (length channel.parts.items == 0)

abbrev pub IsWorking : {W : Type 0} → Channel W → Type 0
IsWorking channel = IsTrue (is_working channel)

-- the first of these replies is made
abbrev pub is_first_made : {W : Type 0} → List (Part W) → Bool
is_first_made (Made bytes ∷ parts) = true
is_first_made other = false

-- the next step is a write or a read, which the socket may not be able to do at the moment
abbrev pub MayWait : {W : Type 0} → Channel W → Type 0
MayWait channel = IsSending channel ⊎ IsIdle channel

-- what a turn does to a connection that stays open: it writes bytes, reads bytes, gives a piece to the desk, which sends something, or works on
-- a reply
pub data Act : Type 0 where
  wrote : List ℕ → Act
  took : List ℕ → Act
  fed : Vec ℕ → List ℕ → Bool → Act
  worked : Act

abbrev pub read_in : Act → List ℕ
read_in (wrote bytes) = []
read_in (took bytes) = bytes
read_in (fed piece out ends) = []
read_in worked = []

abbrev pub written_in : Act → List ℕ
written_in (wrote bytes) = bytes
written_in (took bytes) = []
written_in (fed piece out ends) = []
written_in worked = []

module _ {R : Type 0} (g : Ghosts R) (c : ℕ) where
  -- the connection is closed at the desk
  abbrev pub Closes : Desk R → Desk R → Type 0
  Closes old new = (answer : Result Reply DeskFault) × Steps g old (Close c) answer new

module _ {R W : Type 0} (g : Ghosts R) (owes : W → List ℕ) (c : ℕ) where
  -- the act leads from this channel and desk to those
  abbrev pub Does : Desk R → Channel W → Act → Desk R → Channel W → Type 0
  Does old channel (wrote bytes) new next =
      (unsent owes channel ≡ bytes ++ unsent owes next) × (unfed next ≡ unfed channel) × (has_ended next ≡ has_ended channel) × (new ≡ old)
  Does old channel (took bytes) new next =
      IsIdle channel × IsPiece bytes × (unfed next ≡ bytes) × IsReady next × (new ≡ old)
  Does old channel (fed piece out ends) new next =
      IsReady channel × IsPiece piece.items × (unfed channel ≡ piece.items ++ unfed next) × (unsent owes next ≡ out) × (has_ended next ≡ ends)
      × Steps g old (Bytes c piece) (Ok (Sent out ends)) new
  -- the work that is left owes what it owed
  Does old channel worked new next =
      (unsent owes next ≡ unsent owes channel) × (unfed next ≡ unfed channel) × (has_ended next ≡ has_ended channel) × (new ≡ old)

module _ {R W : Type 0} (g : Ghosts R) (c : ℕ) where
  -- the desk refused the next piece of what it has not taken
  abbrev pub IsRefusedPiece : Desk R → Channel W → DeskFault → Desk R → Type 0
  IsRefusedPiece old channel fault new =
      (piece : Vec ℕ) × (rest : List ℕ) × IsPiece piece.items × (unfed channel ≡ piece.items ++ rest) × Steps g old (Bytes c piece) (Err fault) new

-- the deeds at socket s: the head that reports the fault is written, or a front of it, or that can't be done
abbrev pub SendsFault : ℕ → DeskFault → List Deed → Type 0
SendsFault s fault deeds =
    (deeds ≡ blocked s ∷ []) ⊎ ((deeds ≡ failed s ∷ []) ⊎ ((front : List ℕ) × IsFront front (fixed_head fault) × (deeds ≡ deed.took s front ∷ [])))

-- a write to socket s failed, or took nothing
abbrev pub IsUnwritten : ℕ → List Deed → Type 0
IsUnwritten s deeds = (deeds ≡ failed s ∷ []) ⊎ (deeds ≡ deed.took s [] ∷ [])

-- for connection c at the desk, whose socket is s
module _ {R W : Type 0} (g : Ghosts R) (c s : ℕ) where
  -- there was no memory: to give the desk a piece of what it has not taken, or to keep what a read gave
  abbrev pub HasNoRoom : Desk R → Channel W → Desk R → List Deed → List Deed → Type 0
  HasNoRoom old channel new told deeds =
      (((deeds ≡ told) × (0 < length (unfed channel))) ⊎ ((bytes : List ℕ) × (deeds ≡ deed.gave s bytes ∷ told) × IsIdle channel × IsPiece bytes)) × Closes g c old new

  -- the desk refused the next piece, or there was no memory; and the fault was reported to the peer
  abbrev pub IsNotTaken : Desk R → Channel W → DeskFault → Desk R → List Deed → Type 0
  IsNotTaken old channel fault new deeds =
      (told : List Deed) × SendsFault s fault told
      × (((deeds ≡ told) × IsRefusedPiece g c old channel fault new) ⊎ ((fault ≡ Memory) × HasNoRoom old channel new told deeds))

  -- how the connection is over
  abbrev pub EndsSo : Desk R → Channel W → Ending → Desk R → List Deed → Type 0
  -- all replies were written
  EndsSo old channel PeerEnded new deeds = (deeds ≡ deed.gave s [] ∷ []) × IsIdle channel × Closes g c old new
  -- all replies were written, and the last of them ended the connection
  EndsSo old channel WeEnded new deeds = (deeds ≡ []) × IsSent channel × (has_ended channel ≡ true) × (new ≡ old)
  -- all replies before the refusal were written
  EndsSo old channel (Refused fault) new deeds = IsReady channel × IsNotTaken old channel fault new deeds
  -- all replies were written
  EndsSo old channel ReadFailed new deeds = (deeds ≡ failed s ∷ []) × IsIdle channel × Closes g c old new
  -- a reply was to be written
  EndsSo old channel WriteFailed new deeds = IsUnwritten s deeds × IsSending channel × Closes g c old new
  -- no reply is cut: all that was made was written, and there was no memory to make the next one; this is reported to the peer
  EndsSo old channel Unmade new deeds = IsWorking channel × SendsFault s Memory deeds × Closes g c old new

-- the same, and the replies that are owed are what their work owes
module _ {R W : Type 0} (g : Ghosts R) (owes : W → List ℕ) (c s : ℕ) where
  -- the result of a turn, and the deeds at its socket
  abbrev pub IsTurn : Desk R → Channel W → Turned → Desk R → Channel W → List Deed → Type 0
  IsTurn old channel Wrote new next deeds =
      (bytes : List ℕ) × (deeds ≡ deed.took s bytes ∷ []) × (0 < length bytes) × IsSending channel × Does g owes c old channel (wrote bytes) new next
  IsTurn old channel Took new next deeds = (bytes : List ℕ) × (deeds ≡ deed.gave s bytes ∷ []) × Does g owes c old channel (took bytes) new next
  IsTurn old channel Fed new next deeds =
      (deeds ≡ []) × ((piece : Vec ℕ) × (out : List ℕ) × (ends : Bool) × Does g owes c old channel (fed piece out ends) new next × (last_fed next ≡ piece.items))
  IsTurn old channel Worked new next deeds = (deeds ≡ []) × IsWorking channel × Does g owes c old channel worked new next
  IsTurn old channel Waits new next deeds = (deeds ≡ blocked s ∷ []) × MayWait channel × (new ≡ old) × (next ≡ channel)
  IsTurn old channel (Over ending) new next deeds = EndsSo g c s old channel ending new deeds
