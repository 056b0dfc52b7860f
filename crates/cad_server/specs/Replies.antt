-- The reply to a request with the commands in force (OGC 17-069r4, section 7; RFC 9110, section 15).
use Rattle.std.specs.Prelude.{◌≡◌, ◌≤◌, ◌⊎◌, ℕ, true, List, length, ⊤}
use Rattle.cad_versions.specs.declared.command.Command.{Command}
use Rattle.cad_versions.specs.declared.fault.RegisterFault.{RegisterFault}
use Rattle.cad_head.specs.Request.{Request}
use Rattle.cad_resource.specs.Requested.{requested, ends_after}
use Rattle.cad_resource.specs.declared.check.Check.TheVariants.{BadHead}
use Rattle.cad_resource.specs.Checks.{status_of, word_of}
use Rattle.cad_head.specs.Replies.{reply_text}
use Rattle.cad_request.specs.ParsedRequests.{IsParsedRequest}
use Rattle.cad_request.specs.declared.request.ParsedRequest.{ParsedRequest}
use Rattle.cad_request.specs.declared.request.ParsedRequest.TheVariants as parsed
use Rattle.cad_request.specs.declared.feature_request.FeatureRequest.{FeatureRequest}
use Rattle.cad_server.specs.Contents.{Content, refusal, revision_sought, content_requested}

-- the bytes of a reply
abbrev pub reply_of : Request → Content → List ℕ
reply_of request content = reply_text content.0 (ends_after request) content.1

-- the reply gives what the request wants, with the commands in force
abbrev pub IsReply : List Command → Request → List ℕ → Type 0
IsReply commands request bytes =
    (wanted : ParsedRequest) × IsParsedRequest (requested request) wanted × (bytes ≡ reply_of request (content_requested wanted commands))

-- the reply to bytes that no request can begin with
abbrev pub bad_head_reply : List ℕ
bad_head_reply = reply_text (status_of BadHead) true (refusal (status_of BadHead) (word_of BadHead)).1

-- ---- requests that query the ledger

-- a page or a feature is wanted, so a revision is listed
abbrev pub AsksForFeatures : ParsedRequest → Type 0
AsksForFeatures (parsed.Immediate response) = ⊥
AsksForFeatures (parsed.Features sought) = ⊤

-- the same at a revision up to the newest, which is this one
abbrev pub SeeksFeatures : ℕ → ParsedRequest → Type 0
SeeksFeatures newest (parsed.Immediate response) = ⊥
SeeksFeatures newest (parsed.Features sought) = revision_sought sought newest ≤ newest

-- the request passes all checks but those of its revision and its identifier, and is for items or for a feature
abbrev pub Asks : Request → Type 0
Asks request = (wanted : ParsedRequest) × IsParsedRequest (requested request) wanted × AsksForFeatures wanted

-- it passes that of its revision, too, where this one is the newest
abbrev pub SeeksUpTo : ℕ → Request → Type 0
SeeksUpTo newest request = (wanted : ParsedRequest) × IsParsedRequest (requested request) wanted × SeeksFeatures newest wanted

-- ---- why there is no reply

module _ (FailsToList : ℕ → List Command → RegisterFault → Type 0) where
  -- the ledger fails to list the newest revision, or this one
  abbrev pub FailsFor : ℕ → List Command → RegisterFault → Type 0
  FailsFor revision commands fault = FailsToList (length commands) commands fault ⊎ FailsToList revision commands fault

  -- the revision exists, and the ledger fails for it
  abbrev pub FailsToFind : List Command → FeatureRequest → RegisterFault → Type 0
  FailsToFind commands sought fault =
      (revision_sought sought (length commands) ≤ length commands) × FailsFor (revision_sought sought (length commands)) commands fault

  -- only what is sought in the ledger can fail
  abbrev pub FailsToTell : List Command → ParsedRequest → RegisterFault → Type 0
  FailsToTell commands (parsed.Immediate response) fault = ⊥
  FailsToTell commands (parsed.Features sought) fault = FailsToFind commands sought fault

  abbrev pub FailsToAnswer : List Command → Request → RegisterFault → Type 0
  FailsToAnswer commands request fault = (wanted : ParsedRequest) × IsParsedRequest (requested request) wanted × FailsToTell commands wanted fault
