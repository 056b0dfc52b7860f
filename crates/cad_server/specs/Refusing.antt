-- The faults for which a server fails (own profile).
use Rattle.std.proofs.Common.{inl, inr, ℕ, List}
use Rattle.cad_versions.specs.declared.command.Command.{Command}
use Rattle.cad_versions.specs.declared.fault.RegisterFault.{RegisterFault}
use Rattle.cad_versions.specs.Keeping.{IsOfKeeping}
use Rattle.cad_head.specs.Request.{Request}
use Rattle.cad_request.specs.declared.request.ParsedRequest.{ParsedRequest}
use Rattle.cad_request.specs.declared.request.ParsedRequest.TheVariants as parsed
use Rattle.cad_server.specs.Replies.{AsksForFeatures, Asks, SeeksFeatures, SeeksUpTo, FailsToTell, FailsToAnswer}

-- a request fails to be answered only for a fault of the ledger
module _ {FailsToList : ℕ → List Command → RegisterFault → Type 0} (keeps : (revision : ℕ) (commands : List Command) (fault : RegisterFault) → FailsToList revision commands fault → IsOfKeeping fault) where
  failing_to_tell : (commands : List Command) (wanted : ParsedRequest) (fault : RegisterFault) → FailsToTell FailsToList commands wanted fault → IsOfKeeping fault
  failing_to_tell commands (parsed.Immediate response) fault f = absurd f
  failing_to_tell commands (parsed.Features sought) fault f = elim f.1 [
    | inl newest ↦ keeps _ commands fault newest
    | inr listed ↦ keeps _ commands fault listed
  ]

  pub failing_keeps : (commands : List Command) (request : Request) (fault : RegisterFault) → FailsToAnswer FailsToList commands request fault → IsOfKeeping fault
  failing_keeps commands request fault f = failing_to_tell commands f.0 fault f.2

-- what is sought in the ledger is asked of it
seeking_features : (newest : ℕ) (wanted : ParsedRequest) → SeeksFeatures newest wanted → AsksForFeatures wanted
seeking_features newest (parsed.Immediate response) s = absurd s
seeking_features newest (parsed.Features sought) s = tt

pub seeking_asks : (newest : ℕ) (request : Request) → SeeksUpTo newest request → Asks request
seeking_asks newest request s = (s.0, s.1, seeking_features newest s.0 s.2)
