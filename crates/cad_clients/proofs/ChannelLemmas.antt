-- What one turn does.
use Rattle.std.proofs.Common.{◌≡◌, inl, inr, ℕ, ◌+◌, ◌-◌, ◌<◌, ◌≤◌, List, [], ◌∷◌, ◌++◌, append_assoc, Option, length, take, drop, refl, sym, ap, subst, ◌∙◌, arith, length-drop, take-append-drop}
use Rattle.std.proofs.Math.Seq.{drop-drop}
use Rattle.std.specs.Prelude.{slice_index_or, remove}
use Rattle.cad_stream.specs.declared.working_responder.Part.{Part}
use Rattle.cad_stream.specs.Beginning.{told, told_all}
use Rattle.cad_stream.specs.declared.responder.Responder.{Ghosts}
use Rattle.cad_desk.specs.declared.desk.Desk.{Desk}
use Rattle.cad_desk.specs.declared.fault.DeskFault.{DeskFault}
use Rattle.cad_network.specs.Deeds.{Deed, gave, AddsSome}
use Rattle.cad_desk.specs.declared.fault.DeskFault.TheVariants.{Memory}
use Rattle.cad_serve.specs.Serving.{IsPiece}
use Rattle.cad_clients.specs.declared.channel.Channel.{Channel}
use Rattle.cad_clients.specs.declared.turned.Ending.TheVariants.{Refused}
use Rattle.cad_clients.specs.declared.turned.Turned.{Turned}
use Rattle.cad_clients.specs.declared.turned.Turned.TheVariants.{Over}
use Rattle.cad_clients.specs.Channels.{unfed, IsReady, IsIdle, SendsFault, IsRefusedPiece, Closes, IsTurn}

-- what follows a place is so many bytes and what follows them
pub goes_on_at : (at count : ℕ) (bytes : List ℕ) → drop at bytes ≡ take count (drop at bytes) ++ drop (at + count) bytes
goes_on_at at count bytes =
    sym (take-append-drop count (drop at bytes)) ∙ ap (λ (l : List ℕ). take count (drop at bytes) ++ l) (drop-drop count at bytes)

-- the same, with what is behind
pub goes_on_before : (at count : ℕ) (bytes behind : List ℕ) → drop at bytes ++ behind ≡ take count (drop at bytes) ++ (drop (at + count) bytes ++ behind)
goes_on_before at count bytes behind = ap (λ (l : List ℕ). l ++ behind) (goes_on_at at count bytes) ∙ append_assoc (take count (drop at bytes)) (drop (at + count) bytes) behind

-- the first of some
pub first_of : {A : Type 0} (xs : List A) (x : A) (rest : List A) → 0 < length xs → x ≡ slice_index_or xs 0 x → rest ≡ remove xs 0 → xs ≡ x ∷ rest
first_of [] x rest some e f = absurd (omega (arith, some))
first_of (y ∷ ys) x rest some e f = rw (f, e) refl

module _ {W : Type 0} (owes : W → List ℕ) where
  -- the next reply is made: what is unsent is the same
  pub made_next : (hand : List ℕ) (parts rest : List (Part W)) (part : Part W) (bytes : List ℕ) → hand ≡ [] → parts ≡ part ∷ rest → bytes ≡ told owes part
      → drop 0 bytes ++ told_all owes rest ≡ hand ++ told_all owes parts
  made_next hand parts rest part bytes none first same = rw (none, first, same) refl

  -- it is not made yet, and owes the same
  pub left_next : (hand : List ℕ) (parts rest next : List (Part W)) (part more : Part W) → parts ≡ part ∷ rest → next ≡ more ∷ rest → told owes more ≡ told owes part
      → hand ++ told_all owes next ≡ hand ++ told_all owes parts
  left_next hand parts rest next part more first last same = rw (first, last, same) refl

-- a front of what is not taken yet is a piece
pub is_piece : {W : Type 0} (channel : Channel W) (piece part rest : List ℕ) → piece ≡ part → rest ≡ unfed channel → 0 < length (unfed channel) → (0 < length rest → 0 < length part) → length part ≤ length rest → IsPiece piece
is_piece channel piece part rest e f some more few =
    let most = channel.few in
    let left = length-drop channel.input_at channel.input.items in
    let whole = ap length f in
    let same = ap length e in
    let long = more (subst (λ (l : List ℕ). 0 < length l) (sym f) some) in
    (omega (arith, long, same), omega (arith, same, few, whole, left, most))

-- and what follows it is left
pub is_left : {W : Type 0} (channel : Channel W) (piece part rest : List ℕ) → piece ≡ part → rest ≡ unfed channel → part ≡ take (length part) rest → unfed channel ≡ piece ++ drop (channel.input_at + length part) channel.input.items
is_left channel piece part rest e f front =
    goes_on_at channel.input_at (length part) channel.input.items
    ∙ ap (λ (l : List ℕ). l ++ drop (channel.input_at + length part) channel.input.items) (ap (take (length part)) (sym f) ∙ sym front ∙ sym e)

-- and it is what stands between both places
pub is_last : {W : Type 0} (channel : Channel W) (piece part rest : List ℕ) → piece ≡ part → rest ≡ unfed channel → part ≡ take (length part) rest
    → take (channel.input_at + length part - channel.input_at) (drop channel.input_at channel.input.items) ≡ piece
is_last channel piece part rest e f front =
    let count : channel.input_at + length part - channel.input_at ≡ length part = omega arith in
    rw count (ap (take (length part)) (sym f) ∙ sym front ∙ sym e)

module _ {R W : Type 0} (g : Ghosts R) (owes : W → List ℕ) (c s : ℕ) where
  -- the desk refused the next piece, and that was told
  pub refused : (a b : Option (List Deed)) (old new : Desk R) (channel next : Channel W) (fault : DeskFault) (result : Turned) → result ≡ Over (Refused fault) → IsReady channel
      → AddsSome a b (SendsFault s fault) → IsRefusedPiece g c old channel fault new → AddsSome a b (IsTurn g owes c s old channel result new next)
  refused a b old new channel next fault result e ready head piece =
      subst (λ (t : Turned). AddsSome a b (IsTurn g owes c s old channel t new next)) (sym e) (head.0, head.1, (ready, (head.0, head.2, inl (refl, piece))))

  -- there was no memory for the next piece
  pub unfed_refused : (a b : Option (List Deed)) (old new : Desk R) (channel next : Channel W) (result : Turned) → result ≡ Over (Refused Memory) → IsReady channel
      → AddsSome a b (SendsFault s Memory) → 0 < length (unfed channel) → Closes g c old new → AddsSome a b (IsTurn g owes c s old channel result new next)
  unfed_refused a b old new channel next result e ready head some closes =
      subst (λ (t : Turned). AddsSome a b (IsTurn g owes c s old channel t new next)) (sym e) (head.0, head.1, (ready, (head.0, head.2, inr (refl, (inl (refl, some), closes)))))

  -- there was no memory for what was read
  pub unkept : (a b : Option (List Deed)) (old new : Desk R) (channel next : Channel W) (bytes : List ℕ) (result : Turned) → result ≡ Over (Refused Memory) → IsIdle channel → IsPiece bytes
      → AddsSome a b (SendsFault s Memory) → Closes g c old new → AddsSome a b (λ told. IsTurn g owes c s old channel result new next (gave s bytes ∷ told))
  unkept a b old new channel next bytes result e idle piece head closes =
      subst (λ (t : Turned). AddsSome a b (λ told. IsTurn g owes c s old channel t new next (gave s bytes ∷ told))) (sym e)
      (head.0, head.1, (idle.ready, (head.0, head.2, inr (refl, (inr (bytes, refl, idle, piece), closes)))))
