-- What follows from the state of a channel.
use Rattle.std.proofs.Common.{◌≡◌, inl, inr, ℕ, ◌<◌, ◌==◌, Bool, true, false, not, ◌&&◌, List, [], ◌∷◌, ◌++◌, length, refl, ap, ap₂, arith}
use Rattle.std.proofs.lemmas.Bool.{eqb-true}
use Rattle.cad_stream.specs.Beginning.{told_all}
use Rattle.cad_clients.specs.declared.channel.Channel.{Channel}
use Rattle.cad_clients.specs.Channels.{at_hand, unsent, IsSent, IsSending, MayWait, IsWorking}

-- if all was written, no byte is left to be written
pub all_sent : {W : Type 0} (owes : W → List ℕ) (channel : Channel W) → IsSent channel → unsent owes channel ≡ []
all_sent owes channel sent = ap₂ ◌++◌ sent.none_at_hand (ap (told_all owes) sent.none_owed)

none_of : {A : Type 0} (xs : List A) → (length xs == 0) ≡ true → xs ≡ []
none_of [] e = refl
none_of (x ∷ xs) e = let zero = eqb-true (length (x ∷ xs)) 0 e in absurd (omega (arith, zero))

some_of : {A : Type 0} (xs : List A) → not (length xs == 0) ≡ true → 0 < length xs
some_of [] e = absurd (let clash : false ≡ true = e in cc)
some_of (x ∷ xs) e = omega arith

both_true : (a b : Bool) → (a && b) ≡ true → (a ≡ true) × (b ≡ true)
both_true true b e = (refl, e)
both_true false b e = absurd (let clash : false ≡ true = e in cc)

-- what a channel holds whose next reply is worked on
pub working_is : {W : Type 0} (channel : Channel W) → IsWorking channel → (at_hand channel ≡ []) × (0 < length channel.parts.items)
working_is channel working =
    let both = both_true (length (at_hand channel) == 0) (not (length channel.parts.items == 0)) working in
    (none_of (at_hand channel) both.0, some_of channel.parts.items both.1)

-- then bytes at hand are not to be written
pub working_not_sending : {W : Type 0} (channel : Channel W) → IsWorking channel → IsSending channel → ⊥
working_not_sending channel working sending =
    let none = ap length (working_is channel working).0 in
    omega (arith, sending, none)

-- nor is all written
pub working_not_sent : {W : Type 0} (channel : Channel W) → IsWorking channel → IsSent channel → ⊥
working_not_sent channel working sent =
    let none = ap length sent.none_owed in
    let some = (working_is channel working).1 in
    omega (arith, some, none)

-- so its next step is neither a write nor a read
pub working_not_waiting : {W : Type 0} (channel : Channel W) → IsWorking channel → MayWait channel → ⊥
working_not_waiting channel working may = elim may [
  | inl sending ↦ working_not_sending channel working sending
  | inr idle ↦ working_not_sent channel working idle.ready.sent
]
