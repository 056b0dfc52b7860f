-- A request that is begun to be answered (own profile).
use Rattle.std.specs.Prelude.{ℕ, Bool, List, Result}
use Rattle.cad_versions.specs.declared.fault.RegisterFault.{RegisterFault}
use Rattle.cad_versions.specs.declared.ledger.Ledger.{Ghosts}
use Rattle.cad_head.specs.Request.{Request}
use Rattle.cad_resource.specs.Requested.{ends_after}
use Rattle.cad_stream.specs.Answering.{AnsweredBy}
use Rattle.cad_stream.specs.Beginning.{told_begun, ends_begun}
use Rattle.cad_stream.specs.declared.working_responder.Begun.{Begun}
use Rattle.cad_server.specs.declared.page_work.PageWork.{PageWork}
use Rattle.cad_server.specs.declared.server.Server.{Server}
use Rattle.cad_server.specs.Replies.{IsReply, Asks, FailsToAnswer}
use Rattle.cad_server.specs.Servers.{ledger_of, IsServerOf, SeeksOf, RefusesToAnswer, DamagedForAnswer}
use Rattle.cad_server.specs.Works.{reply_owed}

module _ {L : Type 0} (g : Ghosts L) where
  -- an answer of a server, whose bytes are these
  abbrev pub IsAnsweredAs : {A : Type 0} → (A → List ℕ) → (A → Bool) → Server L → Request → Result A RegisterFault → Server L → Type 0
  IsAnsweredAs bytes_in ends_in old request result new =
      AnsweredBy (IsServerOf g) (λ (s : Server L). g.counts (ledger_of s)) (λ (s : Server L). g.lives (ledger_of s)) (λ (o n : Server L). g.fails (ledger_of o) (ledger_of n))
      bytes_in ends_in IsReply ends_after Asks (SeeksOf g) (FailsToAnswer g.fails_to_list) (RefusesToAnswer g) (DamagedForAnswer g) (λ (o n : Server L). g.remains (ledger_of o) (ledger_of n)) old request result new

  -- an answer that was begun: what is owed is the reply
  abbrev pub IsBegun : Server L → Request → Result (Begun PageWork) RegisterFault → Server L → Type 0
  IsBegun = IsAnsweredAs (told_begun reply_owed) ends_begun
