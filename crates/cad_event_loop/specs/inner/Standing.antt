-- The states of clients and of the land office, as the code keeps them, while all are served (own profile).
use Rattle.std.specs.Prelude.{◌≡◌, ◌⊎◌, ⊤, ℕ, nat_eq, ◌+◌, ◌≤◌, ◌<◌, ◌*◌, Bool, true, false, ◌||◌, List, [], ◌∷◌, ◌++◌, length, map, Option, None, Some, Result, Ok, Err, if◌then◌else◌}
use Rattle.std.specs.List.{slice_get}
use Rattle.cad_network.specs.Deeds.{Deed, woke, AddsSome}
use Rattle.cad_clients.specs.declared.clients.Clients.{Clients}
use Rattle.cad_clients.specs.Budgets.{first_piece, later_piece}
use Rattle.cad_event_loop.specs.declared.peers.Peers.{Peers}
use Rattle.cad_event_loop.specs.declared.readiness.Readiness.{Readiness}
use Rattle.cad_event_loop.specs.declared.stopped.Stopped.{Stopped}
use Rattle.cad_event_loop.specs.inner.Line.{standing_at}
use Rattle.cad_event_loop.specs.Turns.{Standing, absent, waiting, ready, Standings, is_among, office_place, place_count, most_clients, most_for_client, most_for_piece, most_for_peers, stands_after, stands_in, office_in, line_in, is_office_turn, any_of, has_turn, is_piece_of, pieces_of, HasEnough, EachHasTurn, IsQuiet, HearsOffice, AreVisits, HasPiece, ComesByVisits, GivesTurns, AreRounds, all_works}
use Rattle.cad_office_socket.specs.Serving.{most_turns as most_for_office}
use Rattle.cad_event_loop.specs.Works.{AtOffice, AtOffices, Work, wakes}

-- whether the socket of the land office's connection k may give or take something, if it may have that number
abbrev pub flag_at : Readiness → ℕ → Option Bool
flag_at readiness k = slice_get readiness.offices k

abbrev pub standing_office : {J : Type 0} → AtOffice J → Option Bool → Standing
standing_office None flag = absent
standing_office (Some office) None = absent
standing_office (Some office) (Some is_ready) = if is_ready then ready else waiting

-- the states of all, with these connections of the land office, whose sockets may or may not give or take something, and this line
abbrev pub standings_of : {S J W : Type 0} → Clients S W → AtOffices J → (ℕ → Option Bool) → List ℕ → Standings
standings_of clients offices flags line = record { clients = standing_at clients; offices = λ k. standing_office (offices k) (flags k); line = line }

abbrev pub standings : {S J W : Type 0} → Peers S W → AtOffices J → Standings
standings peers offices = standings_of peers.clients offices (flag_at peers.ready) peers.line.numbers.items

-- the network reported its socket, or not
abbrev pub told_flag : Bool → Option Bool → Option Bool
told_flag told None = None
told_flag told (Some was) = Some (told || was)

-- the network reported these places, and the sockets there may continue since then
abbrev pub AreWoken : {S W : Type 0} → Peers S W → Peers S W → List ℕ → Type 0
AreWoken old new places =
    ((c : ℕ) → standing_at new.clients c ≡ stands_after c (standing_at old.clients c) (wakes places))
    × ((k : ℕ) → flag_at new.ready k ≡ told_flag (is_among (office_place k) places) (flag_at old.ready k))
    × (new.line ≡ old.line)

abbrev pub IsWoken : {S W : Type 0} → Peers S W → Peers S W → List Deed → Type 0
IsWoken old new deeds = (places : List ℕ) × (deeds ≡ map woke places) × AreWoken old new places

-- so many things are done
abbrev pub AreAsMany : ℕ → List Deed → Type 0
AreAsMany count deeds = length deeds ≡ count

-- The network reports all sockets that its last wait found, if it then says so, or as many as there are places.
abbrev pub HearsAll : {N : Type 0} → (N → Type 0) → Option (List Deed) → N → Option (List Deed) → Type 0
HearsAll all_reported from net to = all_reported net ⊎ AddsSome from to (AreAsMany place_count)

-- at most so many things are done, and the states after them are these
pub record IsPaced (most : ℕ) (old new : Standings) (works : List Work) : Type 0 where
  pub few : length works ≤ most
  pub stand : (c : ℕ) → new.clients c ≡ stands_in c (old.clients c) works
  pub offices : (k : ℕ) → new.offices k ≡ office_in k (old.offices k) works
  pub line : new.line ≡ line_in old.line works

-- and no client has a turn
pub record IsAtDoors (most : ℕ) (old new : Standings) (works : List Work) : Type 0 where
  pub paced : IsPaced most old new works
  pub quiet : IsQuiet works

-- the network reports sockets, and nothing else is done
abbrev pub IsAsked : Standings → Standings → List Work → Type 0
IsAsked old new works = (places : List ℕ) × (works ≡ wakes places ∷ []) × IsPaced 1 old new works

-- and each that may continue has its turns, or still may
pub record LosesNobody (most : ℕ) (old new : Standings) (works : List Work) : Type 0 where
  pub paced : IsPaced most old new works
  pub kept : (c : ℕ) → old.clients c ≡ ready → HasEnough c works ⊎ (new.clients c ≡ ready)
  pub kept_office : (k : ℕ) → old.offices k ≡ ready → (any_of (is_office_turn k) works ≡ true) ⊎ (new.offices k ≡ ready)

-- and connection k of the land office has one, if it may continue
pub record ServesOffice (k most : ℕ) (old new : Standings) (works : List Work) : Type 0 where
  pub passes : LosesNobody most old new works
  pub quiet : IsQuiet works
  pub turn : old.offices k ≡ ready → any_of (is_office_turn k) works ≡ true

-- and so has each of those below number k
pub record ServesOfficesBelow (k : ℕ) (old new : Standings) (works : List Work) : Type 0 where
  pub passes : LosesNobody (most_for_office * k) old new works
  pub quiet : IsQuiet works
  pub turns : (j : ℕ) → j < k → old.offices j ≡ ready → any_of (is_office_turn j) works ≡ true

-- if hosting continues
abbrev pub IfGoesOn : Option Stopped → Type 0 → Type 0
IfGoesOn None So = So
IfGoesOn (Some stopped) So = ⊤

-- and so has each of them, if hosting continues
pub record ServesOffices (most : ℕ) (end : Option Stopped) (old new : Standings) (works : List Work) : Type 0 where
  pub passes : LosesNobody most old new works
  pub quiet : IsQuiet works
  pub turns : IfGoesOn end ((k : ℕ) → old.offices k ≡ ready → any_of (is_office_turn k) works ≡ true)

-- and connection c has its turns, if it may continue
pub record GivesTurn (c most : ℕ) (old new : Standings) (works : List Work) : Type 0 where
  pub passes : LosesNobody most old new works
  pub turn : old.clients c ≡ ready → HasEnough c works

-- and no other client has one, and there is at most one piece of work
pub record GivesTurnAlone (c most : ℕ) (old new : Standings) (works : List Work) : Type 0 where
  pub gives : GivesTurn c most old new works
  pub alone : (d : ℕ) → nat_eq c d ≡ false → has_turn d works ≡ false
  pub pieces : pieces_of c works ≤ 1

-- one piece of work is done for connection c, and nothing else
pub record GivesPiece (c : ℕ) (old new : Standings) (works : List Work) : Type 0 where
  pub passes : LosesNobody 1 old new works
  pub piece : Work
  pub all : works ≡ piece ∷ []
  pub is : is_piece_of c piece ≡ true

-- these are visits, one after the other
pub record HasVisits (stands : ℕ → Standing) (works : List Work) : Type 0 where
  pub visits : List (List Work)
  pub all : works ≡ all_works visits
  pub are : AreVisits stands visits

-- the most units of work for replies: a first piece for each connection, and a further one for one of them
abbrev pub first_pieces : ℕ
first_pieces = most_clients * first_piece

abbrev pub most_pieces : ℕ
most_pieces = first_pieces + later_piece

-- each of the connections below number c has its turns
pub record GivesTurnsBelow (c : ℕ) (old new : Standings) (works : List Work) : Type 0 where
  pub passes : LosesNobody (most_for_client * c) old new works
  pub turns : (d : ℕ) → d < c → old.clients d ≡ ready → HasEnough d works
  pub visits : HasVisits old.offices works

-- if a round was made to its end
abbrev pub IfWhole : {E : Type 0} → Result (Option Stopped) E → Type 0 → Type 0
IfWhole (Ok end) So = IfGoesOn end So
IfWhole (Err error) So = ⊤

-- the land office is heard, if hosting continues
pub record HearsBetween {E : Type 0} (most : ℕ) (result : Result (Option Stopped) E) (old new : Standings) (works : List Work) : Type 0 where
  pub passes : LosesNobody most old new works
  pub quiet : IsQuiet works
  pub hears : IfWhole result ((k : ℕ) → HearsOffice k (old.offices k) works)

-- connection c has its turns, if it may continue, and then the land office is heard
pub record VisitsClient {E : Type 0} (c most : ℕ) (result : Result (Option Stopped) E) (old new : Standings) (works : List Work) : Type 0 where
  pub gives : GivesTurn c most old new works
  pub visits : IfWhole result (HasVisits old.offices works)

-- each connection has its turns, if it may continue, and the land office has one, or still may
pub record ServesAll {E : Type 0} (result : Result (Option Stopped) E) (old new : Standings) (works : List Work) : Type 0 where
  pub paced : IsPaced (most_for_client * most_clients) old new works
  pub turns : IfWhole result (((c : ℕ) → old.clients c ≡ ready → HasEnough c works) × HasVisits old.offices works)
  pub kept_office : (k : ℕ) → old.offices k ≡ ready → (any_of (is_office_turn k) works ≡ true) ⊎ (new.offices k ≡ ready)

-- the first of the line has a piece of work, if replies are worked on, and then the land office is heard
pub record WorksOnFirst {E : Type 0} (result : Result (Option Stopped) E) (old new : Standings) (works : List Work) : Type 0 where
  pub passes : LosesNobody most_for_piece old new works
  pub piece : IfWhole result (HasPiece old.line old.offices works)

-- these are visits, and then a piece of work for the first of the line
pub record ComesToPiece (line : List ℕ) (stands : ℕ → Standing) (works : List Work) : Type 0 where
  pub visits : List (List Work)
  pub piece : List Work
  pub all : works ≡ all_works visits ++ piece
  pub are : AreVisits stands visits
  pub works_on : HasPiece (line_in line (all_works visits)) (λ k. office_in k (stands k) (all_works visits)) piece

-- each connection has its turns, and the first of the line its piece of work
pub record ServesPeers {E : Type 0} (result : Result (Option Stopped) E) (old new : Standings) (works : List Work) : Type 0 where
  pub paced : IsPaced most_for_peers old new works
  pub turns : IfWhole result (((c : ℕ) → old.clients c ≡ ready → HasEnough c works) × ComesToPiece old.line old.offices works)
  pub kept_office : (k : ℕ) → old.offices k ≡ ready → (any_of (is_office_turn k) works ≡ true) ⊎ (new.offices k ≡ ready)

-- each has its turns, if it may continue
pub record ServesEach {E : Type 0} (most : ℕ) (result : Result (Option Stopped) E) (old new : Standings) (works : List Work) : Type 0 where
  pub paced : IsPaced most old new works
  pub turns : IfWhole result (EachHasTurn old works × ComesByVisits old.line old.offices works)

-- the same, after the network reported who may
pub record MakesRound {E : Type 0} (most : ℕ) (result : Result (Option Stopped) E) (old new : Standings) (works : List Work) : Type 0 where
  pub paced : IsPaced most old new works
  pub gives : IfWhole result (GivesTurns old works)

-- rounds were made, and the states after them are these
pub record MadeRounds (old new : Standings) (works : List Work) : Type 0 where
  pub rounds : List (List Work)
  pub all : works ≡ all_works rounds
  pub served : AreRounds old rounds
  pub stand : (c : ℕ) → new.clients c ≡ stands_in c (old.clients c) works
  pub offices : (k : ℕ) → new.offices k ≡ office_in k (old.offices k) works
  pub line : new.line ≡ line_in old.line works
