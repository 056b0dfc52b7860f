-- What holds of all walks.
use Rattle.std.specs.Prelude.{◌≡◌, ℕ, ℤ, ◌≤◌, List, [], ◌∷◌, length, Option, Result}
use Rattle.cad_versions.specs.declared.command.Command.{Command}
use Rattle.std.specs.List.{All, AllPairs}
use Rattle.std.specs.List.Sorted.{IsNonDecreasingBy, IsStrictlySortedBy}
use Rattle.cad_versions.specs.Refusals.{AreAccepted}
use Rattle.cad_feature.specs.Features.{Item, by_identifier}
use Rattle.cad_ask.specs.declared.ask.Ask.{Ask}
use Rattle.cad_run.specs.Slices.{later}
use Rattle.cad_answer.specs.Laws.{AreWalk}
use Rattle.cad_stream.specs.declared.responder.Responder.{Ghosts}
use Rattle.cad_desk.specs.declared.desk.Desk.{Desk}
use Rattle.cad_desk.specs.declared.event.Event.{Event}
use Rattle.cad_desk.specs.declared.event.Reply.{Reply}
use Rattle.cad_desk.specs.declared.fault.DeskFault.{DeskFault}
use Rattle.cad_desk.specs.Desks.{responder_of, connections_of, rules_of}
use Rattle.cad_desk.specs.Events.{Rules}
use Rattle.cad_desk.specs.Runs.{Exchange, RunOf, Takes}
use Rattle.cad_desk.specs.Laws.{Opens}
use Rattle.cad_http.specs.Walks.{Visit, AsksFor, revision_requested, snapshot_requested, IsWalk, pages_of, ShowTheAnswer}
use Rattle.cad_http.specs.Visits.{AreVisits, IsBefore, revision_at, Run, in_force, IsVisitIn, GetsNext}
use Rattle.cad_http.specs.Restarts.{AreStarts, in_force_after, OpensInOne, IsVisitInOne}

-- the features that come after the one that is named take as many pages as their number requires
abbrev pub WalksHaveThatManyPages : Type 0
WalksHaveThatManyPages =
    (limit : ℕ) (xs : List Item) (last : Option (ℤ × ℤ)) (pages : List (List Item)) → 1 ≤ limit → IsStrictlySortedBy by_identifier xs
    → AreWalk limit xs last pages → length pages ≡ pages_of limit (length (later last xs))

-- a walk over a register of accepted commands, from a request for an existing revision: its pages, joined, are the whole answer of that
-- revision, for any commands between its requests
abbrev pub WalksShowTheAnswer : Type 0
WalksShowTheAnswer =
    (visit : Visit) (visits : List Visit) (ask : Ask) → AreAccepted [] visit.commands → AsksFor visit.request ask
    → revision_requested ask visit.commands ≤ length visit.commands → IsWalk (visit ∷ visits)
    → (pages : List (List Item)) × ShowTheAnswer ask (snapshot_requested ask visit.commands) (visit ∷ visits) pages

-- if the commands at the start of a run were accepted, so were those that are in force after it
abbrev pub RunsKeepAccepted : Rules → Type 0
RunsKeepAccepted rules = (run : Run rules) → AreAccepted [] run.commands → AreAccepted [] (in_force run.commands run.events run.answers)

-- what goes out to a connection is a reply to each of its requests, one after the other, while the commands in force only grow
abbrev pub ConnectionsAreVisits : Rules → Type 0
ConnectionsAreVisits rules = (c : ℕ) (own : List Exchange) → Opens rules c own → (visits : List Visit) × AreVisits rules own visits × AllPairs IsBefore visits

-- by such visits a client asks for an existing revision and then follows each link next. At each visit at least as many commands are in
-- force as at the one before. Then its pages, joined, are the whole answer of that revision.
abbrev pub FollowedShowTheAnswer : (Visit → Type 0) → Type 0
FollowedShowTheAnswer IsVisit =
    (visit : Visit) (visits : List Visit) (ask : Ask) → All IsVisit (visit ∷ visits) → IsNonDecreasingBy revision_at (visit ∷ visits)
    → AsksFor visit.request ask → revision_requested ask visit.commands ≤ length visit.commands → GetsNext (visit ∷ visits)
    → (pages : List (List Item)) × ShowTheAnswer ask (snapshot_requested ask visit.commands) (visit ∷ visits) pages

-- this holds in a run over accepted commands, on any of its connections, no matter what else happens in the run
abbrev pub WalksInRunsShowTheAnswer : Rules → Type 0
WalksInRunsShowTheAnswer rules = (run : Run rules) → AreAccepted [] run.commands → FollowedShowTheAnswer (IsVisitIn rules run)

-- this holds for the answers of a desk to events, one after the other: they are a run over the commands that its responder holds at the
-- start
abbrev pub WalksOfDesksShowTheAnswer : {R : Type 0} → Ghosts R → Type 0
WalksOfDesksShowTheAnswer {R} g =
    (commands : List Command) (old new : Desk R) (events : List Event) (answers : List (Result Reply DeskFault))
    → Takes g old events answers new → g.counts (responder_of new) → g.stands_for (responder_of old) commands
    → (ran : RunOf (rules_of g) commands (connections_of old) events answers)
    × FollowedShowTheAnswer
    (IsVisitIn (rules_of g) (record { commands = commands; connections = connections_of old; events = events; answers = answers; ran = ran }))

-- ---- stopped and started anew

-- if the commands at the first start were accepted, so were those in force after any number of starts
abbrev pub RestartsKeepAccepted : Rules → Type 0
RestartsKeepAccepted rules = (first : List Command) (runs : List (Run rules)) → AreStarts rules first runs → AreAccepted [] first → AreAccepted [] (in_force_after rules first runs)

-- what goes out to a connection, between two starts, is a reply to each of its requests, one after the other, while the commands in force only grow
abbrev pub ConnectionsAmongRestartsAreVisits : Rules → Type 0
ConnectionsAmongRestartsAreVisits rules =
    (first : List Command) (runs : List (Run rules)) (c : ℕ) (own : List Exchange) → AreStarts rules first runs → OpensInOne rules runs c own
    → (visits : List Visit) × AreVisits rules own visits × AllPairs IsBefore visits

-- the same over accepted commands, on any connection of any start, no matter how often the server is stopped and started between the
-- requests
abbrev pub WalksAmongRestartsShowTheAnswer : Rules → Type 0
WalksAmongRestartsShowTheAnswer rules =
    (first : List Command) (runs : List (Run rules)) → AreAccepted [] first → AreStarts rules first runs → FollowedShowTheAnswer (IsVisitInOne rules runs)

-- the same from a start on at which a desk's responder holds the commands that the start finds
abbrev pub WalksOfDesksAmongRestartsShowTheAnswer : {R : Type 0} → Ghosts R → Type 0
WalksOfDesksAmongRestartsShowTheAnswer {R} g =
    (first : List Command) (runs : List (Run (rules_of g))) (desk : Desk R) → g.stands_for (responder_of desk) first → AreStarts (rules_of g) first runs
    → FollowedShowTheAnswer (IsVisitInOne (rules_of g) runs)
