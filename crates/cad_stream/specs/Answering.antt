-- What answering a request does (RFC 9110, section 3.4: messages; own profile: revisions and refusals).
use Rattle.std.specs.Prelude.{◌≡◌, ◌⊎◌, ℕ, ℤ, List, Bool, Result, IfOk, IfErr, OnOk}
use Rattle.cad_versions.specs.declared.command.Command.{Command}
use Rattle.cad_versions.specs.declared.fault.RegisterFault.{RegisterFault}
use Rattle.cad_versions.specs.declared.fault.RegisterFault.TheVariants.{Store, Memory}
use Rattle.cad_versions.specs.Keeping.{IsAnswered, IsShut, NamesDamage}
use Rattle.cad_head.specs.Request.{Request}
use Rattle.cad_stream.specs.Replies.{IsPlainReply}
use Rattle.cad_stream.specs.declared.answer.Answer.{Answer}

-- the reply of an answer, and whether the connection ends after it
abbrev pub bytes_of_answer : Answer → List ℕ
bytes_of_answer answer = answer.bytes.items

abbrev pub ends_of_answer : Answer → Bool
ends_of_answer answer = answer.ends

module _ {R : Type 0} (StandsFor : R → List Command → Type 0) (Counts Lives : R → Type 0) (Fails : R → R → Type 0) where
  -- the answer is a reply with the commands in force; if the request does not query the ledger, it is a reply with any commands. An answer is
  -- missing only if memory runs out, or if the request seeks what the ledger has and the ledger fails. Then nothing changes, or the ledger
  -- failed and is closed. Unless the store or memory is the cause, the responder remains what it was. A row that is named as damaged is a
  -- damaged one, for any commands.
  pub record AnsweredBy {A : Type 0} (bytes_in : A → List ℕ) (ends_in : A → Bool) (IsReply : List Command → Request → List ℕ → Type 0) (Closes : Request → Bool) (Asks : Request → Type 0) (Seeks : R → Request → Type 0) (FailsToAnswer : List Command → Request → RegisterFault → Type 0) (Refuses : R → R → Request → Type 0) (IsDamaged : R → R → Request → ℤ → ℤ → Type 0) (Remains : R → R → Type 0) (old : R) (request : Request) (result : Result A RegisterFault) (new : R) : Type 0 where
    pub replied : Counts new → IfOk result (λ answer. (commands : List Command) → StandsFor old commands → IsReply commands request (bytes_in answer))
    pub plain : IfOk result (λ answer. IsPlainReply Asks IsReply request (bytes_in answer))
    pub ends : IfOk result (λ answer. ends_in answer ≡ Closes request)
    pub cause : Counts new → IfErr result (λ fault. (commands : List Command) → StandsFor old commands → (fault ≡ Memory) ⊎ FailsToAnswer commands request fault)
    pub asking : IfErr result (λ fault. (fault ≡ Memory) ⊎ Seeks old request)
    pub store : Counts new → IfErr result (λ fault. fault ≡ Store → Refuses old new request)
    pub damaged : IfErr result (NamesDamage (IsDamaged old new request))
    pub still : Counts new → IsAnswered result → Remains old new
    pub kept : Counts new → OnOk result ((commands : List Command) → StandsFor old commands → StandsFor new commands)
    pub unchanged : Counts new → IfErr result (λ fault. (commands : List Command) → StandsFor old commands → StandsFor new commands ⊎ IsShut Lives Fails old fault new)
    pub clean : Counts new → Counts old

  -- the same of an answer that is made at once
  abbrev pub Answered : (List Command → Request → List ℕ → Type 0) → (Request → Bool) → (Request → Type 0) → (R → Request → Type 0) → (List Command → Request → RegisterFault → Type 0) → (R → R → Request → Type 0) → (R → R → Request → ℤ → ℤ → Type 0) → (R → R → Type 0) → R → Request → Result Answer RegisterFault → R → Type 0
  Answered = AnsweredBy bytes_of_answer ends_of_answer
