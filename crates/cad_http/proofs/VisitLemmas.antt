-- The visits of a run, in which the commands in force only grow.
use Rattle.std.proofs.Common.{◌≡◌, ℕ, suc, ◌≤◌, Bool, true, false, cond, nat_eq, List, [], ◌∷◌, ◌++◌, length, map, Result, Ok, Err, AllPairs, refl, sym, ap, ap₂, ◌∙◌, subst, arith, append_assoc, append-nil, inl, inr}
use Rattle.std.specs.List.{AllZip, AllByRecursion, flat_map}
use Rattle.std.specs.List.Sorted.{IsNonDecreasingBy}
use Rattle.std.proofs.lemmas.List.Elements.{All-from_recursion, recursion_from_All, All-contains}
use Rattle.std.proofs.lemmas.List.Kept.{AllPairs-cons}
use Rattle.httparse.specs.Grammar.{RequestHead}
use Rattle.cad_versions.specs.declared.command.Command.{Command}
use Rattle.cad_versions.specs.Refusals.{AreAccepted}
use Rattle.cad_versions.specs.lemmas.AcceptedLemmas.{accepted_then, accepted_front}
use Rattle.cad_head.specs.Request.{Request, request_of}
use Rattle.cad_stream.specs.Streams.{Outcome, waits, closed, refused}
use Rattle.cad_stream.specs.Replies.{AreReplies, last_reply}
use Rattle.cad_stream.specs.Conversations.{Piece, HeadAt, heads_at, commands_of, IsConversation}
use Rattle.cad_desk.specs.declared.event.Event.{Event}
use Rattle.cad_desk.specs.declared.event.Event.TheVariants.{Open, Bytes, Close, Office}
use Rattle.cad_desk.specs.declared.event.Reply.{Reply}
use Rattle.cad_desk.specs.declared.event.Reply.TheVariants.{Opened, Closed, Sent, Entered}
use Rattle.cad_desk.specs.declared.fault.DeskFault.{DeskFault}
use Rattle.cad_desk.specs.declared.fault.DeskFault.TheVariants.{UnknownConnection, KnownConnection, TooManyConnections, Memory, Register}
use Rattle.cad_desk.specs.Connections.{Connections}
use Rattle.cad_desk.specs.Events.{Rules, IsEntered, StepOf, commands_after}
use Rattle.cad_desk.specs.Runs.{Exchange, RunOf, out_of, exchange, exchanges_of, pieces_of, outs_of}
use Rattle.cad_desk.specs.Laws.{ConnectionsAreTheirOwn}
use Rattle.cad_server.specs.Replies.{IsReply}
use Rattle.cad_http.specs.Walks.{Visit, IsWalk}
use Rattle.cad_http.specs.Visits.{Brings, IsBefore, revision_at, Run, in_force, OpensAmong, IsVisitIn, GetsNext}
use Rattle.cad_http.specs.Laws.{WalksShowTheAnswer, RunsKeepAccepted, ConnectionsAreVisits, WalksInRunsShowTheAnswer}

-- ---- lists that begin with others

abbrev pub IsFront : {X : Type 0} → List X → List X → Type 0
IsFront {X} xs ys = (more : List X) × (ys ≡ xs ++ more)

front_self : {X : Type 0} (xs : List X) → IsFront xs xs
front_self xs = ([], sym (append-nil xs))

pub front_of_front : {X : Type 0} (xs ys zs : List X) → IsFront xs ys → IsFront ys zs → IsFront xs zs
front_of_front {X} xs ys zs f g = (f.0 ++ g.0, g.1 ∙ ap (λ (l : List X). l ++ g.0) f.1 ∙ append_assoc xs f.0 g.0)

-- of two that one list begins with, the shorter begins the longer
shorter_front : {X : Type 0} (xs ys zs : List X) → IsFront xs zs → IsFront ys zs → length xs ≤ length ys → IsFront xs ys
shorter_front [] ys zs f g h = (ys, refl)
shorter_front (x ∷ xs) [] zs f g h = let no : ⊥ = omega arith in absurd no
shorter_front (x ∷ xs) (y ∷ ys) [] f g h = let e : x ∷ (xs ++ f.0) ≡ [] = sym f.1 in absurd cc
shorter_front {X} (x ∷ xs) (y ∷ ys) (z ∷ zs) f g h =
    let e : z ∷ zs ≡ x ∷ (xs ++ f.0) = f.1 in
    let k : z ∷ zs ≡ y ∷ (ys ++ g.0) = g.1 in
    let rest = shorter_front xs ys zs (f.0, cc) (g.0, cc) (omega arith) in
    let same : x ≡ y = cc in
    (rest.0, ap₂ (λ (a : X) (l : List X). a ∷ l) (sym same) rest.1)

-- ---- lists of commands that grow

-- from these commands on, each list of commands is the one before and more, up to the last
abbrev Grow : List Command → List (List Command) → List Command → Type 0
Grow from [] last = IsFront from last
Grow from (commands ∷ others) last = IsFront from commands × Grow commands others last

grow_from : (from next : List Command) (others : List (List Command)) (last : List Command) → IsFront from next → Grow next others last → Grow from others last
grow_from from next [] last f g = front_of_front from next last f g
grow_from from next (commands ∷ others) last f g = (front_of_front from next commands f g.0, g.1)

up_to : (from : List Command) (others : List (List Command)) (last : List Command) → Grow from others last → IsFront from last
up_to from [] last g = g
up_to from (commands ∷ others) last g = front_of_front from commands last g.0 (up_to commands others last g.1)

-- ---- events

after_grows : (commands : List Command) (event : Event) (answer : Result Reply DeskFault) → IsFront commands (commands_after commands event answer)
after_grows commands (Office command) (Ok reply) = (command ∷ [], refl)
after_grows commands (Office command) (Err fault) = front_self commands
after_grows commands (Open c) answer = front_self commands
after_grows commands (Bytes c piece) answer = front_self commands
after_grows commands (Close c) answer = front_self commands

pub run_grows : (events : List Event) (answers : List (Result Reply DeskFault)) (commands : List Command) → IsFront commands (in_force commands events answers)
run_grows [] answers commands = front_self commands
run_grows (event ∷ events) [] commands = front_self commands
run_grows (event ∷ events) (answer ∷ answers) commands =
    let next = commands_after commands event answer in
    front_of_front commands next (in_force next events answers) (after_grows commands event answer) (run_grows events answers next)

-- the commands in force at each exchange
abbrev commands_at : List Exchange → List (List Command)
commands_at own = map (λ (piece : Piece). piece.0) (pieces_of own)

module _ (c : ℕ) (commands last : List Command) (later : List Exchange) (grow : Grow commands (commands_at later) last) where
  cut : (same : Bool) → Grow commands (commands_at (cond same [] later)) last
  cut true = up_to commands (commands_at later) last grow
  cut false = grow

  one_more : (piece out : List ℕ) (same : Bool) → Grow commands (commands_at (cond same (((commands, piece), out) ∷ later) later)) last
  one_more piece out true = (front_self commands, grow)
  one_more piece out false = grow

  exchange_grows : (event : Event) (answer : Result Reply DeskFault) → Grow commands (commands_at (exchange c commands event answer later)) last
  exchange_grows (Open d) (Ok reply) = cut (nat_eq d c)
  exchange_grows (Open d) (Err fault) = grow
  exchange_grows (Bytes d piece) (Ok reply) = one_more piece.items (out_of reply) (nat_eq d c)
  exchange_grows (Bytes d piece) (Err UnknownConnection) = one_more piece.items [] (nat_eq d c)
  exchange_grows (Bytes d piece) (Err KnownConnection) = cut (nat_eq d c)
  exchange_grows (Bytes d piece) (Err TooManyConnections) = cut (nat_eq d c)
  exchange_grows (Bytes d piece) (Err Memory) = cut (nat_eq d c)
  exchange_grows (Bytes d piece) (Err (Register fault)) = cut (nat_eq d c)
  exchange_grows (Close d) (Ok reply) = cut (nat_eq d c)
  exchange_grows (Close d) (Err fault) = grow
  exchange_grows (Office command) answer = grow

exchanges_grow : (c : ℕ) (events : List Event) (answers : List (Result Reply DeskFault)) (commands : List Command)
    → Grow commands (commands_at (exchanges_of c commands events answers)) (in_force commands events answers)
exchanges_grow c [] answers commands = front_self commands
exchanges_grow c (event ∷ events) [] commands = front_self commands
exchanges_grow c (event ∷ events) (answer ∷ answers) commands =
    let next = commands_after commands event answer in
    let last = in_force next events answers in
    let later = exchanges_of c next events answers in
    exchange_grows c commands last later (grow_from commands next (commands_at later) last (after_grows commands event answer) (exchanges_grow c events answers next)) event answer

opened_grows : (c : ℕ) (own : List Exchange) (events : List Event) (answers : List (Result Reply DeskFault)) (commands : List Command)
    → OpensAmong c own commands events answers → Grow commands (commands_at own) (in_force commands events answers)
opened_grows c own [] answers commands opened = absurd opened
opened_grows c own (event ∷ events) [] commands opened = absurd opened
opened_grows c own (event ∷ events) (answer ∷ answers) commands opened = elim opened [
  | inl now ↦
      let last : in_force commands events answers ≡ in_force (commands_after commands event answer) events answers =
      ap (λ (e : Event). in_force (commands_after commands e answer) events answers) (sym now.0) in
      subst (λ (l : List Command). Grow commands (commands_at own) l) last
      (subst (λ (l : List Exchange). Grow commands (commands_at l) (in_force commands events answers)) (sym now.2) (exchanges_grow c events answers commands))
  | inr more ↦
      let next = commands_after commands event answer in
      grow_from commands next (commands_at own) (in_force next events answers) (after_grows commands event answer) (opened_grows c own events answers next more)
]

-- ---- heads

-- all that come with a piece have its commands
with_piece : (commands last : List Command) (now : List RequestHead) (later : List HeadAt) → Grow commands (commands_of later) last → Grow commands (commands_of (heads_at commands now ++ later)) last
with_piece commands last [] later g = g
with_piece commands last (head ∷ now) later g = (front_self commands, with_piece commands last now later g)

heads_grow : (closes : Request → Bool) (from : Outcome) (pieces : List Piece) (heads : List HeadAt) (end : Outcome) (first last : List Command)
    → Grow first (map (λ (piece : Piece). piece.0) pieces) last → IsConversation closes from pieces heads end → Grow first (commands_of heads) last
heads_grow closes (waits held) [] heads end first last g conversation = subst (λ (l : List HeadAt). Grow first (commands_of l) last) (sym conversation.0) g
heads_grow closes closed [] heads end first last g conversation = subst (λ (l : List HeadAt). Grow first (commands_of l) last) (sym conversation.0) g
heads_grow closes refused [] heads end first last g conversation = subst (λ (l : List HeadAt). Grow first (commands_of l) last) (sym conversation.0) g
heads_grow closes (waits held) (piece ∷ pieces) heads end first last g conversation =
    let later = heads_grow closes conversation.2 pieces conversation.1 end piece.0 last g.1 conversation.5 in
    subst (λ (l : List HeadAt). Grow first (commands_of l) last) (sym conversation.3)
    (grow_from first piece.0 (commands_of (heads_at piece.0 conversation.0 ++ conversation.1)) last g.0 (with_piece piece.0 last conversation.0 conversation.1 later))
heads_grow closes closed (piece ∷ pieces) heads end first last g conversation =
    heads_grow closes closed pieces heads end first last (grow_from first piece.0 (map (λ (p : Piece). p.0) pieces) last g.0 g.1) conversation
heads_grow closes refused (piece ∷ pieces) heads end first last g conversation =
    heads_grow closes refused pieces heads end first last (grow_from first piece.0 (map (λ (p : Piece). p.0) pieces) last g.0 g.1) conversation

-- ---- visits

visits_grow : (heads : List HeadAt) (visits : List Visit) (first last : List Command) → AllZip Brings heads visits → Grow first (commands_of heads) last → Grow first (map (λ (visit : Visit). visit.commands) visits) last
visits_grow [] [] first last all g = g
visits_grow [] (visit ∷ visits) first last all g = absurd all
visits_grow (head ∷ heads) [] first last all g = absurd all
visits_grow (head ∷ heads) (visit ∷ visits) first last all g =
    let e = all.0.0 in (
      subst (λ (l : List Command). IsFront first l) (sym e) g.0,
      subst (λ (l : List Command). Grow l (map (λ (v : Visit). v.commands) visits) last) (sym e) (visits_grow heads visits head.0 last all.1 g.1),
    )

visits_before : (visits : List Visit) (first last : List Command) → Grow first (map (λ (visit : Visit). visit.commands) visits) last → AllByRecursion (λ (visit : Visit). IsFront visit.commands last) visits
visits_before [] first last g = tt
visits_before (visit ∷ visits) first last g = (up_to visit.commands (map (λ (v : Visit). v.commands) visits) last g.1, visits_before visits visit.commands last g.1)

later_visits : (visits : List Visit) (first last : List Command) → Grow first (map (λ (visit : Visit). visit.commands) visits) last → AllByRecursion (λ (visit : Visit). IsFront first visit.commands) visits
later_visits [] first last g = tt
later_visits (visit ∷ visits) first last g = (
  g.0,
  later_visits visits first last (grow_from first visit.commands (map (λ (v : Visit). v.commands) visits) last g.0 g.1),
)

in_pairs : (visits : List Visit) (first last : List Command) → Grow first (map (λ (visit : Visit). visit.commands) visits) last → AllPairs IsBefore visits
in_pairs [] first last g = λ i j d lt within. let no : ⊥ = omega arith in absurd no
in_pairs (visit ∷ visits) first last g =
    AllPairs-cons IsBefore visit visits (All-from_recursion (IsBefore visit) visits (later_visits visits visit.commands last g.1)) (in_pairs visits visit.commands last g.1)

-- what goes out is the replies of visits
record AreTold (heads : List HeadAt) (last out : List ℕ) : Type 0 where
  visits : List Visit
  each : AllZip Brings heads visits
  out_is : out ≡ flat_map (λ (visit : Visit). visit.bytes) visits ++ last

-- replies by these rules are replies of the server
abbrev AreOfServer : (List Command → Request → List ℕ → Type 0) → Type 0
AreOfServer Replies = (commands : List Command) (request : Request) (bytes : List ℕ) → Replies commands request bytes → IsReply commands request bytes

told : (Replies : List Command → Request → List ℕ → Type 0) → AreOfServer Replies → (heads : List HeadAt) (last out : List ℕ) → AreReplies Replies heads last out → AreTold heads last out
told Replies of [] last out e = record { visits = []; each = tt; out_is = e }
told Replies of (head ∷ heads) last out e =
    let rest = told Replies of heads last e.1 e.4 in
    let visit : Visit = record { commands = head.0; request = request_of head.1; bytes = e.0; replied = of head.0 (request_of head.1) e.0 e.2 } in
    record {
      visits = visit ∷ rest.visits;
      each = ((refl, refl), rest.each);
      out_is = e.3 ∙ ap (λ (l : List ℕ). e.0 ++ l) rest.out_is ∙ sym (append_assoc e.0 (flat_map (λ (v : Visit). v.bytes) rest.visits) last);
    }

-- ---- accepted commands

module _ (rules : Rules) where
  entered : (commands : List Command) (old new : Connections) (command : Command) (answer : Result Reply DeskFault) → IsEntered rules (λ Holds. Holds commands) old command answer new
      → AreAccepted [] commands → AreAccepted [] (commands_after commands (Office command) answer)
  entered commands old new command (Ok Opened) s all = absurd s
  entered commands old new command (Ok Closed) s all = absurd s
  entered commands old new command (Ok (Sent out ends)) s all = absurd s
  entered commands old new command (Ok (Entered revision)) s all = accepted_then [] commands command all s.1.0
  entered commands old new command (Err fault) s all = all

  stepped : (commands : List Command) (old new : Connections) (event : Event) (answer : Result Reply DeskFault) → StepOf rules (λ Holds. Holds commands) old event answer new
      → AreAccepted [] commands → AreAccepted [] (commands_after commands event answer)
  stepped commands old new (Open c) answer s all = all
  stepped commands old new (Bytes c piece) answer s all = all
  stepped commands old new (Close c) answer s all = all
  stepped commands old new (Office command) answer s all = entered commands old new command answer s all

  pub run_accepts : (events : List Event) (answers : List (Result Reply DeskFault)) (commands : List Command) (old : Connections)
      → RunOf rules commands old events answers → AreAccepted [] commands → AreAccepted [] (in_force commands events answers)
  run_accepts [] [] commands old run all = all
  run_accepts [] (answer ∷ answers) commands old run all = absurd run
  run_accepts (event ∷ events) [] commands old run all = absurd run
  run_accepts (event ∷ events) (answer ∷ answers) commands old run all =
      run_accepts events answers (commands_after commands event answer) run.0 run.2 (stepped commands old run.0 event answer run.1 all)

  -- ---- visits of a run

  pub visit_before : (run : Run rules) (visit : Visit) → IsVisitIn rules run visit → IsFront visit.commands (in_force run.commands run.events run.answers)
  visit_before run visit is =
      let last = in_force run.commands run.events run.answers in
      let pieces = opened_grows is.connection is.own run.events run.answers run.commands is.opened in
      let heads = heads_grow rules.closes (waits []) (pieces_of is.own) is.all.heads is.all.last run.commands last pieces is.all.conversation in
      let visits = visits_grow is.all.heads is.visits run.commands last is.all.each heads in
      All-contains (λ (v : Visit). IsFront v.commands last) is.visits visit (All-from_recursion (λ (v : Visit). IsFront v.commands last) is.visits (visits_before is.visits run.commands last visits)) is.among

  all_before : (run : Run rules) (visits : List Visit) → AllByRecursion (IsVisitIn rules run) visits → AllByRecursion (λ (v : Visit). IsFront v.commands (in_force run.commands run.events run.answers)) visits
  all_before run [] all = tt
  all_before run (visit ∷ visits) all = (visit_before run visit all.0, all_before run visits all.1)

-- a client that follows links among them walks
pub walks : (last : List Command) (visit : Visit) (visits : List Visit) → AllByRecursion (λ (v : Visit). IsFront v.commands last) (visit ∷ visits)
    → IsNonDecreasingBy revision_at (visit ∷ visits) → GetsNext (visit ∷ visits) → IsWalk (visit ∷ visits)
walks last visit [] before order links = links
walks last visit (next ∷ visits) before order links =
    let since = shorter_front visit.commands next.commands last before.0 before.1.0 (order 0 1 visit (omega arith) (omega arith)) in (
      record { linked = links.0.linked; get = links.0.get; added = since.0; meanwhile = since.1 },
      walks last next visits before.1 (λ i j d le within. order (suc i) (suc j) d (omega arith) (omega arith)) links.1,
    )

-- ---- the laws

pub runs_keep_accepted : (rules : Rules) → RunsKeepAccepted rules
runs_keep_accepted rules run all = run_accepts rules run.events run.answers run.commands run.connections run.ran all

pub connections_are_visits : (rules : Rules) → AreOfServer rules.replies → ConnectionsAreTheirOwn rules → ConnectionsAreVisits rules
connections_are_visits rules of their_own c own opens =
    let first = opens.0 in
    let last = in_force first opens.2 opens.3 in
    let t = their_own c own opens in
    let said = told rules.replies of t.0 (last_reply rules.bad_head t.1) (outs_of own) t.3 in
    let pieces : Grow first (commands_at own) last = subst (λ (l : List Exchange). Grow first (commands_at l) last) (sym opens.5) (exchanges_grow c opens.2 opens.3 first) in
    let heads = heads_grow rules.closes (waits []) (pieces_of own) t.0 t.1 first last pieces t.2 in (
      said.visits,
      record { heads = t.0; last = t.1; conversation = t.2; each = said.each; out = said.out_is },
      in_pairs said.visits first last (visits_grow t.0 said.visits first last said.each heads),
    )

pub walks_in_runs : (rules : Rules) → WalksShowTheAnswer → RunsKeepAccepted rules → WalksInRunsShowTheAnswer rules
walks_in_runs rules show keep run all visit visits ask are order asks made links =
    let last = in_force run.commands run.events run.answers in
    let before = all_before rules run (visit ∷ visits) (recursion_from_All (IsVisitIn rules run) (visit ∷ visits) are) in
    let accepted : AreAccepted [] visit.commands = accepted_front [] visit.commands before.0.0 (subst (λ (l : List Command). AreAccepted [] l) before.0.1 (keep run all)) in
    show visit visits ask accepted asks made (walks last visit visits before order links)
