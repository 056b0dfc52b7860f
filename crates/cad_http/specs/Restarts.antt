-- A server that is stopped and started anew: its commands stay, its connections do not (own profile).
use Rattle.std.specs.Prelude.{◌≡◌, ◌⊎◌, ℕ, List, [], ◌∷◌, ◌++◌, Contains, None}
use Rattle.cad_versions.specs.declared.command.Command.{Command}
use Rattle.cad_versions.specs.Versions.{versions}
use Rattle.cad_versions.specs.Refusals.{refusal}
use Rattle.cad_desk.specs.Connections.{Connections, rest_at}
use Rattle.cad_desk.specs.Events.{Rules}
use Rattle.cad_desk.specs.Runs.{Exchange}
use Rattle.cad_http.specs.Walks.{Visit}
use Rattle.cad_http.specs.Visits.{Run, in_force, OpensAmong, IsVisitIn}

-- what a start finds: the commands that were in force, or these and one more that was being entered at the stop
abbrev pub IsFound : List Command → List Command → Type 0
IsFound commands found = (found ≡ commands) ⊎ ((command : Command) × (refusal (versions commands) command ≡ None) × (found ≡ commands ++ command ∷ []))

-- no connection is open
abbrev pub HasNoConnection : Connections → Type 0
HasNoConnection connections = (c : ℕ) → rest_at connections c ≡ None

module _ (rules : Rules) where
  -- one run after the other, each from what its start finds, and with no connection open
  abbrev pub AreStarts : List Command → List (Run rules) → Type 0
  AreStarts commands [] = Unit {0}
  AreStarts commands (run ∷ runs) =
      IsFound commands run.commands × HasNoConnection run.connections × AreStarts (in_force run.commands run.events run.answers) runs

  -- the commands in force after all of them
  abbrev pub in_force_after : List Command → List (Run rules) → List Command
  in_force_after commands [] = commands
  in_force_after commands (run ∷ runs) = in_force_after (in_force run.commands run.events run.answers) runs

  -- one of the runs opens connection c, and then has these exchanges with it
  abbrev pub OpensInOne : List (Run rules) → ℕ → List Exchange → Type 0
  OpensInOne runs c own = (run : Run rules) × Contains runs run × OpensAmong c own run.commands run.events run.answers

  -- a request of some connection that one of the runs opens, and its reply
  abbrev pub IsVisitInOne : List (Run rules) → Visit → Type 0
  IsVisitInOne runs visit = (run : Run rules) × Contains runs run × IsVisitIn rules run visit
