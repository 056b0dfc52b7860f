-- An answer that tells what another one tells.
use Rattle.std.proofs.Common.{◌≡◌, ℕ, ℤ, Bool, List, Result, Ok, Err, sym, subst, ◌∙◌}
use Rattle.cad_versions.specs.declared.command.Command.{Command}
use Rattle.cad_versions.specs.declared.fault.RegisterFault.{RegisterFault}
use Rattle.cad_head.specs.Request.{Request}
use Rattle.cad_stream.specs.Replies.{IsPlainReply}
use Rattle.cad_stream.specs.Answering.{AnsweredBy}

module _ {R A B : Type 0} (StandsFor : R → List Command → Type 0) (Counts Lives : R → Type 0) (Fails : R → R → Type 0)
    (one : A → List ℕ) (one_ends : A → Bool) (other : B → List ℕ) (other_ends : B → Bool)
    (IsReply : List Command → Request → List ℕ → Type 0) (Closes : Request → Bool) (Asks : Request → Type 0) (Seeks : R → Request → Type 0) (FailsToAnswer : List Command → Request → RegisterFault → Type 0) (Refuses : R → R → Request → Type 0) (IsDamaged : R → R → Request → ℤ → ℤ → Type 0) (Remains : R → R → Type 0)
    (old : R) (request : Request) (new : R) where
  -- the same reply is one, whether it is made or begun
  pub answered_as : (a : A) (b : B) → other b ≡ one a → other_ends b ≡ one_ends a
      → AnsweredBy StandsFor Counts Lives Fails one one_ends IsReply Closes Asks Seeks FailsToAnswer Refuses IsDamaged Remains old request (Ok a) new
      → AnsweredBy StandsFor Counts Lives Fails other other_ends IsReply Closes Asks Seeks FailsToAnswer Refuses IsDamaged Remains old request (Ok b) new
  answered_as a b same ends it = record {
    replied = λ counts commands stands. subst (λ (bytes : List ℕ). IsReply commands request bytes) (sym same) (it.replied counts commands stands);
    plain = subst (λ (bytes : List ℕ). IsPlainReply Asks IsReply request bytes) (sym same) it.plain;
    ends = ends ∙ it.ends;
    cause = λ counts. tt;
    asking = tt;
    store = λ counts. tt;
    damaged = tt;
    still = it.still;
    kept = it.kept;
    unchanged = λ counts. tt;
    clean = it.clean;
  }

  -- and so is the same failure
  pub failed_as : (fault : RegisterFault)
      → AnsweredBy StandsFor Counts Lives Fails one one_ends IsReply Closes Asks Seeks FailsToAnswer Refuses IsDamaged Remains old request (Err fault) new
      → AnsweredBy StandsFor Counts Lives Fails other other_ends IsReply Closes Asks Seeks FailsToAnswer Refuses IsDamaged Remains old request (Err fault) new
  failed_as fault it = record {
    replied = λ counts. tt;
    plain = tt;
    ends = tt;
    cause = it.cause;
    asking = it.asking;
    store = it.store;
    damaged = it.damaged;
    still = it.still;
    kept = λ counts. tt;
    unchanged = it.unchanged;
    clean = it.clean;
  }
