-- What is owed to requests whose answers were begun.
use Rattle.std.specs.Prelude.{ℕ, ◌+◌, List, Bool}
use Rattle.std.specs.List.{flat_map}
use Rattle.cad_stream.specs.declared.working_responder.Part.{Part}
use Rattle.cad_stream.specs.declared.working_responder.Part.TheVariants.{Made, Left}
use Rattle.cad_stream.specs.declared.working_responder.Begun.{Begun}

module _ {W : Type 0} (owes : W → List ℕ) where
  -- the reply, or what the work owes
  abbrev pub told : Part W → List ℕ
  told (Made bytes) = bytes.items
  told (Left work) = owes work

  -- all of them, one after the other
  abbrev pub told_all : List (Part W) → List ℕ
  told_all parts = flat_map told parts

  abbrev pub told_begun : Begun W → List ℕ
  told_begun begun = told begun.part

abbrev pub ends_begun : {W : Type 0} → Begun W → Bool
ends_begun begun = begun.ends

-- this holds of the work that is left, if the reply is not made
abbrev pub IfLeft : {W : Type 0} → Part W → (W → Type 0) → Type 0
IfLeft (Made bytes) P = Unit {0}
IfLeft (Left work) P = P work

-- how many pieces are left at most until the reply is made, where this much is left of the work
abbrev pub pieces_left : {W : Type 0} → (W → ℕ) → Part W → ℕ
pieces_left remaining (Made bytes) = 0
pieces_left remaining (Left work) = remaining work + 1
