-- The requests that the runs of a desk answer, with their replies, and the links that a client follows among them (own profile).
use Rattle.std.specs.Prelude.{◌≡◌, ◌⊎◌, ℕ, List, [], ◌∷◌, ◌++◌, length, Contains, Some, None, Result, Ok}
use Rattle.std.specs.List.{AllZip, flat_map}
use Rattle.cad_versions.specs.declared.command.Command.{Command}
use Rattle.cad_head.specs.Request.{request_of}
use Rattle.cad_stream.specs.Streams.{Outcome, waits}
use Rattle.cad_stream.specs.Replies.{last_reply}
use Rattle.cad_stream.specs.Conversations.{HeadAt, IsConversation}
use Rattle.cad_desk.specs.declared.event.Event.{Event}
use Rattle.cad_desk.specs.declared.event.Event.TheVariants.{Open}
use Rattle.cad_desk.specs.declared.event.Reply.{Reply}
use Rattle.cad_desk.specs.declared.event.Reply.TheVariants.{Opened}
use Rattle.cad_desk.specs.declared.fault.DeskFault.{DeskFault}
use Rattle.cad_desk.specs.Connections.{Connections}
use Rattle.cad_desk.specs.Events.{Rules, commands_after}
use Rattle.cad_desk.specs.Runs.{Exchange, RunOf, exchanges_of, pieces_of, outs_of}
use Rattle.cad_resource.specs.Laws.{IsGet}
use Rattle.cad_http.specs.Walks.{Visit, next_of}

-- ---- of a connection

-- the head is that of this visit's request, with its commands in force
abbrev pub Brings : HeadAt → Visit → Type 0
Brings head visit = (visit.commands ≡ head.0) × (visit.request ≡ request_of head.1)

-- one visit for each request of a connection, in their order; what goes out to it are their replies, joined, and then the reply if no
-- request can come
pub record AreVisits (rules : Rules) (own : List Exchange) (visits : List Visit) : Type 0 where
  pub heads : List HeadAt
  pub last : Outcome
  pub conversation : IsConversation rules.closes (waits []) (pieces_of own) heads last
  pub each : AllZip Brings heads visits
  pub out : outs_of own ≡ flat_map (λ visit. visit.bytes) visits ++ last_reply rules.bad_head last

-- the commands in force at the next visit are those at this one, followed by those that were added since
abbrev pub IsBefore : Visit → Visit → Type 0
IsBefore visit next = (added : List Command) × (next.commands ≡ visit.commands ++ added)

-- how many commands are in force at a visit
abbrev pub revision_at : Visit → ℕ
revision_at visit = length visit.commands

-- ---- of a run

-- events and their answers, from these commands and connections on
pub record Run (rules : Rules) : Type 0 where
  pub commands : List Command
  pub connections : Connections
  pub events : List Event
  pub answers : List (Result Reply DeskFault)
  pub ran : RunOf rules commands connections events answers

-- the commands in force after these events
abbrev pub in_force : List Command → List Event → List (Result Reply DeskFault) → List Command
in_force commands (event ∷ events) (answer ∷ answers) = in_force (commands_after commands event answer) events answers
in_force commands events answers = commands

-- one of these events opens connection c, which then has these exchanges
abbrev pub OpensAmong : ℕ → List Exchange → List Command → List Event → List (Result Reply DeskFault) → Type 0
OpensAmong c own commands (event ∷ events) (answer ∷ answers) =
    ((event ≡ Open c) × (answer ≡ Ok Opened) × (own ≡ exchanges_of c commands events answers))
    ⊎ OpensAmong c own (commands_after commands event answer) events answers
OpensAmong c own commands events answers = ⊥

-- a request of some connection that the run opens, and its reply
pub record IsVisitIn (rules : Rules) (run : Run rules) (visit : Visit) : Type 0 where
  pub connection : ℕ
  pub own : List Exchange
  pub opened : OpensAmong connection own run.commands run.events run.answers
  pub visits : List Visit
  pub all : AreVisits rules own visits
  pub among : Contains visits visit

-- ---- links

-- the client gets the target of the reply's link next
pub record Gets (visit next : Visit) : Type 0 where
  pub linked : next_of visit ≡ Some next.request.target
  pub get : IsGet next.request

-- the client follows the link next from reply to reply, until one has none
abbrev pub GetsNext : List Visit → Type 0
GetsNext [] = ⊥
GetsNext (visit ∷ []) = next_of visit ≡ None
GetsNext (visit ∷ (next ∷ visits)) = Gets visit next × GetsNext (next ∷ visits)
