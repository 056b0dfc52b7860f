-- The result of a piece of a connection's bytes, where answers are begun: what is owed counts as what goes out.
use Rattle.std.specs.Prelude.{ℕ, List, Option, Result}
use Rattle.std.specs.Global.{Vec}
use Rattle.cad_versions.specs.declared.fault.RegisterFault.{RegisterFault}
use Rattle.cad_stream.specs.declared.next.Next.{Next}
use Rattle.cad_stream.specs.declared.next.Replies.{Replies}
use Rattle.cad_stream.specs.declared.working_responder.Begun.{Begun}
use Rattle.cad_stream.specs.declared.working_responder.Part.{Part}
use Rattle.cad_stream.specs.declared.connection.FedBegun.{FedBegun}
use Rattle.cad_stream.specs.declared.responder.Responder.{Ghosts}
use Rattle.cad_stream.specs.Feeding.{bytes_left, IsNextBy, RepliesBy, FeedsBy}
use Rattle.cad_stream.specs.Beginning.{told_begun, ends_begun, told_all}

-- the replies that are owed, in a list or by a piece, and the bytes that no request took after it
module _ {W : Type 0} (owes : W → List ℕ) where
  abbrev pub owed : Vec (Part W) → List ℕ
  owed parts = told_all owes parts.items

  abbrev pub owed_by : FedBegun W → List ℕ
  owed_by fed = told_all owes fed.parts.items

abbrev pub left_begun : {W : Type 0} → FedBegun W → Option (List ℕ)
left_begun fed = bytes_left fed.connection

module _ {R W : Type 0} (g : Ghosts R) (owes : W → List ℕ) where
  -- the first request that the bytes come to
  abbrev pub BeginsNext : List ℕ → R → Result (Next (Begun W)) RegisterFault → R → Type 0
  BeginsNext = IsNextBy g (told_begun owes) ends_begun

  -- all requests that the bytes come to
  abbrev pub BeginsAll : List ℕ → R → Result (Replies (Vec (Part W))) RegisterFault → R → Type 0
  BeginsAll = RepliesBy g (owed owes)

  -- a piece that follows the bytes held
  abbrev pub Begins : List ℕ → List ℕ → R → Result (FedBegun W) RegisterFault → R → Type 0
  Begins = FeedsBy g (owed_by owes) left_begun
