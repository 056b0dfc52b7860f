-- The result of a piece of a connection's bytes (RFC 9112, section 9.3.2: pipelining; own profile: refusals).
use Rattle.std.specs.Prelude.{◌≡◌, ◌⊎◌, ℕ, ℤ, ◌≤◌, Bool, false, List, [], ◌++◌, length, drop, Option, Some, option_map, Result, IfOk, IfErr, OnOk}
use Rattle.std.specs.Global.{Vec}
use Rattle.httparse.specs.Grammar.{RequestHead, print_request}
use Rattle.cad_head.specs.Heads.{Fits, IsHopeless, IsIncomplete}
use Rattle.cad_head.specs.Pieces.{may_settle}
use Rattle.cad_versions.specs.declared.command.Command.{Command}
use Rattle.cad_versions.specs.declared.fault.RegisterFault.{RegisterFault}
use Rattle.cad_versions.specs.declared.fault.RegisterFault.TheVariants.{Store, Memory}
use Rattle.cad_versions.specs.Keeping.{IsAnswered, IsShut, NamesDamage}
use Rattle.cad_head.specs.Request.{request_of}
use Rattle.cad_stream.specs.declared.connection.Connection.{Connection}
use Rattle.cad_stream.specs.declared.connection.Fed.{Fed}
use Rattle.cad_stream.specs.declared.answer.Answer.{Answer}
use Rattle.cad_stream.specs.declared.next.Next.{Next}
use Rattle.cad_stream.specs.declared.next.Next.TheVariants.{Waiting, Hopeless, Answered}
use Rattle.cad_stream.specs.declared.next.Replies.{Replies}
use Rattle.cad_stream.specs.declared.responder.Responder.{Ghosts}
use Rattle.cad_stream.specs.Answering.{bytes_of_answer, ends_of_answer}
use Rattle.cad_stream.specs.Streams.{Outcome, rest_of, IsStream}
use Rattle.cad_stream.specs.Replies.{IsPlainReply, AreReplies, ArePlainReplies, last_reply, ComeTo, Fails}
use Rattle.cad_stream.specs.Conversations.{heads_at}

-- the bytes that no request took yet
abbrev pub bytes_held : Connection → List ℕ
bytes_held connection = connection.held.items

-- the same, if the connection did not end
abbrev pub bytes_left : Option Connection → Option (List ℕ)
bytes_left connection = option_map bytes_held connection

-- the replies that are made, in a list or by a piece, and the bytes that no request took after it
abbrev pub made : Vec ℕ → List ℕ
made bytes = bytes.items

abbrev pub sent_by : Fed → List ℕ
sent_by fed = fed.bytes.items

abbrev pub left_by : Fed → Option (List ℕ)
left_by fed = bytes_left fed.connection

module _ {R : Type 0} (g : Ghosts R) where
  -- if what is answered counts, this holds of all commands that the responder holds before
  abbrev pub Under : R → R → (List Command → Type 0) → Type 0
  Under old new Holds = g.counts new → (commands : List Command) → g.stands_for old commands → Holds commands

  -- the bytes come to a request that the ledger refuses to answer, after the requests before it were answered. At that request the
  -- responder holds the same commands and remains what it was.
  abbrev pub RefusesLater : List ℕ → R → R → Type 0
  RefusesLater bytes old new =
      (before : R) × ((commands : List Command) → g.stands_for old commands → g.stands_for before commands) × g.remains old before
      × ComeTo g.closes (g.refuses_answer before new) bytes

  -- the bytes come to a request for which a damaged row of this object and this number is shown, after the requests before it were answered
  -- and changed nothing
  abbrev pub DamagedLater : List ℕ → R → R → ℤ → ℤ → Type 0
  DamagedLater bytes old new object number =
      (before : R) × (g.counts new → g.remains old before)
      × ComeTo g.closes (λ request. g.damaged_for_answer before new request object number) bytes

  -- the bytes come to a request that asks for what the ledger has, after the requests before it were answered and changed nothing
  abbrev pub SeeksLater : List ℕ → R → R → Type 0
  SeeksLater bytes old new = (before : R) × (g.counts new → g.remains old before) × ComeTo g.closes (g.seeks before) bytes

  -- a call for the requests of these bytes keeps the commands, or the ledger failed and is closed. What is answered counts if what is
  -- answered later does.
  pub record Stays {T : Type 0} (bytes : List ℕ) (old : R) (result : Result T RegisterFault) (new : R) : Type 0 where
    pub kept : g.counts new → OnOk result ((commands : List Command) → g.stands_for old commands → g.stands_for new commands)
    pub unchanged : g.counts new → IfErr result (λ fault. (commands : List Command) → g.stands_for old commands → g.stands_for new commands ⊎ IsShut g.lives g.fails old fault new)
    pub store : g.counts new → IfErr result (λ fault. fault ≡ Store → RefusesLater bytes old new)
    pub damaged : IfErr result (NamesDamage (DamagedLater bytes old new))
    pub still : g.counts new → IsAnswered result → g.remains old new
    pub clean : g.counts new → g.counts old

  -- these are the replies, and this is the outcome of the connection. Replies to requests that do not query the ledger are replies with any
  -- commands.
  abbrev pub IsReplied : R → R → List ℕ → List ℕ → Outcome → Type 0
  IsReplied old new bytes out last =
      (heads : List RequestHead) × IsStream g.closes heads bytes last
      × Under old new (λ commands. AreReplies g.replies (heads_at commands heads) (last_reply g.bad_head last) out)
      × ArePlainReplies g.asks g.replies heads (last_reply g.bad_head last) out

  -- a piece that follows the bytes held; if it cannot settle a head, nothing goes out, and all bytes are held
  pub record FeedsBy {F : Type 0} (out : F → List ℕ) (left : F → Option (List ℕ)) (held piece : List ℕ) (old : R) (result : Result F RegisterFault) (new : R) : Type 0 where
    pub replied : IfOk result (λ fed. (last : Outcome) × IsReplied old new (held ++ piece) (out fed) last × (left fed ≡ rest_of last))
    pub cause : IfErr result (λ fault. Under old new (λ commands. (fault ≡ Memory) ⊎ Fails g.closes g.fails_to_answer (held ++ piece) fault commands))
    pub held_back : may_settle held piece ≡ false → IfOk result (λ fed. (out fed ≡ []) × (left fed ≡ Some (held ++ piece)))
    pub asking : IfErr result (λ fault. (fault ≡ Memory) ⊎ SeeksLater (held ++ piece) old new)
    pub stays : Stays (held ++ piece) old result new

  -- the same of replies that are made at once
  abbrev pub Feeds : List ℕ → List ℕ → R → Result Fed RegisterFault → R → Type 0
  Feeds = FeedsBy sent_by left_by

  -- all requests that the bytes come to
  pub record RepliesBy {O : Type 0} (replies_in : O → List ℕ) (bytes : List ℕ) (old : R) (result : Result (Replies O) RegisterFault) (new : R) : Type 0 where
    pub replied : IfOk result (λ replies. (last : Outcome) × IsReplied old new bytes (replies_in replies.out) last × (option_map (λ used. drop used bytes) replies.used ≡ rest_of last))
    pub within : IfOk result (λ replies. (used : ℕ) → replies.used ≡ Some used → used ≤ length bytes)
    pub cause : IfErr result (λ fault. Under old new (λ commands. (fault ≡ Memory) ⊎ Fails g.closes g.fails_to_answer bytes fault commands))
    pub asking : IfErr result (λ fault. (fault ≡ Memory) ⊎ SeeksLater bytes old new)
    pub stays : Stays bytes old result new

  -- what the bytes begin with
  abbrev pub IsNextOf : {A : Type 0} → (A → List ℕ) → (A → Bool) → List ℕ → R → Next A → R → Type 0
  IsNextOf bytes_in ends_in bytes old Waiting new = IsIncomplete bytes
  IsNextOf bytes_in ends_in bytes old (Hopeless reply) new = IsHopeless bytes × (reply.items ≡ g.bad_head)
  IsNextOf bytes_in ends_in bytes old (Answered answer used) new =
      (head : RequestHead) × Fits bytes head (drop used bytes) × (used ≡ length (print_request head))
      × (ends_in answer ≡ g.closes (request_of head))
      × Under old new (λ commands. g.replies commands (request_of head) (bytes_in answer))
      × IsPlainReply g.asks g.replies (request_of head) (bytes_in answer)

  -- the first request that the bytes come to
  pub record IsNextBy {A : Type 0} (bytes_in : A → List ℕ) (ends_in : A → Bool) (bytes : List ℕ) (old : R) (result : Result (Next A) RegisterFault) (new : R) : Type 0 where
    pub next : IfOk result (λ next. IsNextOf bytes_in ends_in bytes old next new)
    pub cause : IfErr result (λ fault. Under old new (λ commands. (fault ≡ Memory) ⊎ Fails g.closes g.fails_to_answer bytes fault commands))
    pub asking : IfErr result (λ fault. (fault ≡ Memory) ⊎ SeeksLater bytes old new)
    pub stays : Stays bytes old result new

  -- the same of answers that are made at once
  abbrev pub RepliesTo : List ℕ → R → Result (Replies (Vec ℕ)) RegisterFault → R → Type 0
  RepliesTo = RepliesBy made

  abbrev pub IsNext : List ℕ → R → Result (Next Answer) RegisterFault → R → Type 0
  IsNext = IsNextBy bytes_of_answer ends_of_answer
