-- The visits of runs with restarts between them, in which the commands in force only grow.
use Rattle.std.proofs.Common.{ℕ, List, [], ◌∷◌, Result, Ok, sym, subst, ◌∙◌, append-nil, inl, inr}
use Rattle.std.specs.List.{AllByRecursion}
use Rattle.std.proofs.lemmas.List.Elements.{All-from_recursion, recursion_from_All, All-contains}
use Rattle.cad_versions.specs.declared.command.Command.{Command}
use Rattle.cad_versions.specs.Refusals.{AreAccepted}
use Rattle.cad_desk.specs.declared.event.Event.{Event}
use Rattle.cad_desk.specs.declared.event.Reply.{Reply}
use Rattle.cad_desk.specs.declared.event.Reply.TheVariants.{Opened}
use Rattle.cad_desk.specs.declared.fault.DeskFault.{DeskFault}
use Rattle.cad_desk.specs.Connections.{Connections}
use Rattle.cad_desk.specs.Events.{Rules, commands_after}
use Rattle.cad_desk.specs.Runs.{Exchange, RunOf}
use Rattle.cad_desk.specs.Laws.{Opens}
use Rattle.cad_http.specs.Walks.{Visit}
use Rattle.cad_http.specs.Visits.{Run, in_force, OpensAmong}
use Rattle.cad_http.specs.Restarts.{IsFound, AreStarts, in_force_after, IsVisitInOne}
use Rattle.cad_http.specs.Laws.{WalksShowTheAnswer, ConnectionsAreVisits, RestartsKeepAccepted, ConnectionsAmongRestartsAreVisits, WalksAmongRestartsShowTheAnswer}
use Rattle.cad_versions.specs.lemmas.AcceptedLemmas.{accepted_then, accepted_front}
use Rattle.cad_http.proofs.VisitLemmas.{IsFront, front_of_front, run_grows, run_accepts, visit_before, walks}

-- ---- what a start finds

found_front : (commands found : List Command) → IsFound commands found → IsFront commands found
found_front commands found (inl same) = ([], same ∙ sym (append-nil commands))
found_front commands found (inr one) = (one.0 ∷ [], one.2)

found_accepted : (commands found : List Command) → IsFound commands found → AreAccepted [] commands → AreAccepted [] found
found_accepted commands found (inl same) all = subst (λ (l : List Command). AreAccepted [] l) (sym same) all
found_accepted commands found (inr one) all = subst (λ (l : List Command). AreAccepted [] l) (sym one.2) (accepted_then [] commands one.0 all one.1)

module _ (rules : Rules) where
  -- the commands in force after a run
  abbrev left_by : Run rules → List Command
  left_by run = in_force run.commands run.events run.answers

  starts_grow : (first : List Command) (runs : List (Run rules)) → AreStarts rules first runs → IsFront first (in_force_after rules first runs)
  starts_grow first [] starts = ([], sym (append-nil first))
  starts_grow first (run ∷ runs) starts =
      let last = in_force_after rules (left_by run) runs in
      front_of_front first run.commands last (found_front first run.commands starts.0)
      (front_of_front run.commands (left_by run) last (run_grows run.events run.answers run.commands) (starts_grow (left_by run) runs starts.2))

  runs_before : (first : List Command) (runs : List (Run rules)) → AreStarts rules first runs → AllByRecursion (λ (run : Run rules). IsFront (left_by run) (in_force_after rules first runs)) runs
  runs_before first [] starts = tt
  runs_before first (run ∷ runs) starts = (starts_grow (left_by run) runs starts.2, runs_before (left_by run) runs starts.2)

  -- ---- accepted commands

  pub restarts_keep : RestartsKeepAccepted rules
  restarts_keep first [] starts all = all
  restarts_keep first (run ∷ runs) starts all =
      restarts_keep (left_by run) runs starts.2
      (run_accepts rules run.events run.answers run.commands run.connections run.ran (found_accepted first run.commands starts.0 all))

  -- ---- connections

  -- what is opened among the events of a run is opened by a run that begins there
  opened_opens : (c : ℕ) (own : List Exchange) (events : List Event) (answers : List (Result Reply DeskFault)) (commands : List Command) (old : Connections)
      → RunOf rules commands old events answers → OpensAmong c own commands events answers → Opens rules c own
  opened_opens c own [] answers commands old run opened = absurd opened
  opened_opens c own (event ∷ events) [] commands old run opened = absurd opened
  opened_opens c own (event ∷ events) (answer ∷ answers) commands old run (inl now) = (
    commands,
    old,
    events,
    answers,
    subst (λ (e : Event). RunOf rules commands old (e ∷ events) (Ok Opened ∷ answers)) now.0
        (subst (λ (a : Result Reply DeskFault). RunOf rules commands old (event ∷ events) (a ∷ answers)) now.1 run),
    now.2,
  )
  opened_opens c own (event ∷ events) (answer ∷ answers) commands old run (inr more) =
      opened_opens c own events answers (commands_after commands event answer) run.0 run.2 more

  pub connections_among : ConnectionsAreVisits rules → ConnectionsAmongRestartsAreVisits rules
  connections_among are first runs c own starts opened =
      let run = opened.0 in
      are c own (opened_opens c own run.events run.answers run.commands run.connections run.ran opened.2)

  -- ---- walks

  visit_front : (first : List Command) (runs : List (Run rules)) (visit : Visit) → AreStarts rules first runs → IsVisitInOne rules runs visit
      → IsFront visit.commands (in_force_after rules first runs)
  visit_front first runs visit starts is =
      let run = is.0 in
      let last = in_force_after rules first runs in
      front_of_front visit.commands (left_by run) last (visit_before rules run visit is.2)
      (All-contains (λ (r : Run rules). IsFront (left_by r) last) runs run
      (All-from_recursion (λ (r : Run rules). IsFront (left_by r) last) runs (runs_before first runs starts)) is.1)

  visits_front : (first : List Command) (runs : List (Run rules)) (visits : List Visit) → AreStarts rules first runs → AllByRecursion (IsVisitInOne rules runs) visits
      → AllByRecursion (λ (v : Visit). IsFront v.commands (in_force_after rules first runs)) visits
  visits_front first runs [] starts all = tt
  visits_front first runs (visit ∷ visits) starts all = (visit_front first runs visit starts all.0, visits_front first runs visits starts all.1)

  pub walks_among : WalksShowTheAnswer → RestartsKeepAccepted rules → WalksAmongRestartsShowTheAnswer rules
  walks_among show keep first runs all starts visit visits ask are order asks made links =
      let last = in_force_after rules first runs in
      let before = visits_front first runs (visit ∷ visits) starts (recursion_from_All (IsVisitInOne rules runs) (visit ∷ visits) are) in
      let accepted : AreAccepted [] visit.commands = accepted_front [] visit.commands before.0.0 (subst (λ (l : List Command). AreAccepted [] l) before.0.1 (keep first runs starts all)) in
      show visit visits ask accepted asks made (walks last visit visits before order links)
