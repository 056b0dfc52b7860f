-- Serving one connection, and how that ends a run (own profile).
use Rattle.std.specs.Prelude.{◌≡◌, ◌⊎◌, ℕ, List, Option, None, Result, Ok, Err}
use Rattle.cad_versions.specs.declared.command.Command.{Command}
use Rattle.cad_versions.specs.declared.fault.RegisterFault.{RegisterFault}
use Rattle.cad_versions.specs.declared.fault.RegisterFault.TheVariants as register
use Rattle.cad_versions.specs.declared.ledger.Ledger as ledger
use Rattle.cad_versions.specs.LedgerCalls.{Applies}
use Rattle.cad_resource.specs.Requested.{ends_after}
use Rattle.cad_stream.specs.declared.responder.Responder as responder
use Rattle.cad_desk.specs.declared.desk.Desk.{Desk}
use Rattle.cad_desk.specs.Connections.{rest_at}
use Rattle.cad_desk.specs.Desks.{responder_of, connections_of}
use Rattle.cad_serve.specs.declared.ending.Ending.{Ending}
use Rattle.cad_serve.specs.declared.ending.Ending.TheVariants.{PeerEnded}
use Rattle.cad_serve.specs.declared.serve_fault.ServeFault.{ServeFault}
use Rattle.cad_serve.specs.Serving.{IsServed}
use Rattle.cad_io.specs.Known.{ReadsAndWrites}
use Rattle.cad_serve.specs.Statuses.{EndsWithout}
use Rattle.cad_sample.specs.Filling.{Enters, IsFilled}
use Rattle.cad_sample.specs.Sample.{sample_commands}
use Rattle.cad_server.specs.declared.server.Server.{Server}
use Rattle.cad_server.specs.Replies.{IsReply, bad_head_reply, Asks, FailsToAnswer}
use Rattle.cad_server.specs.Servers.{ledger_of, IsServerOf, SeeksOf, RefusesToAnswer, DamagedForAnswer}
use Rattle.cadastre_run.specs.declared.outcome.Outcome.{Outcome}
use Rattle.cadastre_run.specs.declared.outcome.Outcome.TheVariants as outcome
use Rattle.cadastre_run.specs.Outcomes.{outcome_of}

-- connection 1 of the desk is served; the run ends as that did, and if the peer ended, nothing is left unread
pub record EndsServing {P : Type 0} (g : responder.Ghosts P) (from to before after : Option (List ℕ)) (AtEnd : Type 0) (old : Desk P) (ended : Outcome) (new : Desk P) : Type 0 where
  pub served : Result Ending ServeFault
  pub ends : ended ≡ outcome_of served
  pub all : served ≡ Ok PeerEnded → AtEnd
  pub kept : ReadsAndWrites from to before after (IsServed g 1 old served new)

module _ {L : Type 0} (g : ledger.Ghosts L) where
  -- the rules by which a server over the ledger answers
  abbrev pub answers_of : responder.Ghosts (Server L)
  answers_of = record {
    stands_for = IsServerOf g;
    counts = λ server. g.counts (ledger_of server);
    lives = λ server. g.lives (ledger_of server);
    fails = λ old new. g.fails (ledger_of old) (ledger_of new);
    replies = IsReply;
    closes = ends_after;
    bad_head = bad_head_reply;
    asks = Asks;
    seeks = SeeksOf g;
    fails_to_answer = FailsToAnswer g.fails_to_list;
    fails_to_enter = g.fails_to_apply;
    refuses_answer = RefusesToAnswer g;
    refuses_command = λ old new. g.refuses_command (ledger_of old) (ledger_of new);
    damaged_for_answer = DamagedForAnswer g;
    damaged_for_command = λ old new. g.damaged_for_command (ledger_of old) (ledger_of new);
    remains = λ old new. g.remains (ledger_of old) (ledger_of new);
  }

  -- a desk without connections, whose server holds the commands that the ledger holds
  pub record IsDeskOver (lent : L) (desk : Desk (Server L)) : Type 0 where
    pub stands : (commands : List Command) → g.stands_for lent commands → IsServerOf g (responder_of desk) commands
    pub same : ledger_of (responder_of desk) ≡ lent
    pub idle : (c : ℕ) → rest_at (connections_of desk) c ≡ None

module _ {L : Type 0} (g : ledger.Ghosts L) (from to before after : Option (List ℕ)) (AtEnd : Type 0) where
  -- nothing is read or written
  abbrev pub IsUntouched : Type 0
  IsUntouched = (to ≡ from) × (after ≡ before)

  -- a connection is served over the ledger, which is given back
  pub record EndsAsked (lent : L) (ended : Outcome × L) : Type 0 where
    pub old : Desk (Server L)
    pub new : Desk (Server L)
    pub over : IsDeskOver g lent old
    pub serving : EndsServing (answers_of g) from to before after AtEnd old ended.0 new
    pub back : ended.1 ≡ ledger_of (responder_of new)

  -- there is no memory for a desk, and nothing is read or written; or a connection is served
  abbrev pub AnswersOver : L → Outcome × L → Type 0
  AnswersOver lent ended = EndsWithout IsUntouched (outcome.Register register.Memory) lent ended ⊎ EndsAsked lent ended

  -- the sample is entered into the ledger; if that is refused, nothing is read or written, else a connection is served over the ledger
  abbrev pub AnswersSampleIn : L → L → Result ℕ RegisterFault → Outcome × L → Type 0
  AnswersSampleIn lent filled (Ok revision) ended = IsFilled g lent (Ok revision) filled × AnswersOver filled ended
  AnswersSampleIn lent filled (Err fault) ended = EndsWithout IsUntouched (outcome.Register fault) filled ended

  pub record AnswersSample (lent : L) (ended : Outcome × L) : Type 0 where
    pub filled : L
    pub entered : Result ℕ RegisterFault
    pub enters : Enters (Applies g) sample_commands lent entered filled
    pub answers : AnswersSampleIn lent filled entered ended
