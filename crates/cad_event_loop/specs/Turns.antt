-- Whose turn it is (own profile).
use Rattle.std.specs.Prelude.{◌≡◌, ◌⊎◌, ⊤, ℕ, ◌+◌, ◌-◌, ◌*◌, ◌≤◌, nat_eq, Bool, true, false, not, ◌||◌, List, [], ◌∷◌, ◌++◌, length, take, drop, filter, Some, if◌then◌else◌}
use Rattle.std.specs.Global.{Vec}
use Rattle.cad_clients.specs.declared.turned.Ending.TheVariants.{Unmade}
use Rattle.cad_clients.specs.Channels.{fed, worked, written_in, Act}
use Rattle.cad_clients.specs.Steps.{most_turns}
use Rattle.cad_office_socket.specs.Serving.{most_turns as most_for_office}
use Rattle.cad_office_socket.specs.declared.turned.EntryTurned.{EntryTurned}
use Rattle.cad_office_socket.specs.declared.turned.EntryTurned.TheVariants as turn
use Rattle.cad_event_loop.specs.Works.{Work, wakes, opens, acts, waits, ends, office_comes, enters, office_leaves, aside, is_last, most_offices}

-- a connection is not open; or it waits until the network reports its socket; or it may continue; or its next reply is to be worked on
pub data Standing : Type 0 where
  absent : Standing
  waiting : Standing
  ready : Standing
  working : Standing

-- the state of each connection, by its number, and of each of the land office; and the line of the connections whose replies are worked on, in
-- the order of their turns
pub record Standings : Type 0 where
  pub clients : ℕ → Standing
  pub offices : ℕ → Standing
  pub line : List ℕ

-- nobody is here
abbrev pub nobody : Standings
nobody = record { clients = λ c. absent; offices = λ k. absent; line = [] }

-- the network reports its socket
abbrev pub woken : Standing → Standing
woken absent = absent
woken waiting = ready
woken ready = ready
woken working = working

-- the network reports this place
abbrev pub is_among : ℕ → List ℕ → Bool
is_among c [] = false
is_among c (place ∷ places) = nat_eq place c || is_among c places

-- the most clients that are connected
abbrev pub most_clients : ℕ
most_clients = 64

-- the place by which it reports connection k of the land office: the places of the clients are their numbers, and then come the two doors
abbrev pub office_place : ℕ → ℕ
office_place k = most_clients + 2 + k

-- how many places there are
abbrev pub place_count : ℕ
place_count = office_place most_offices

-- The state of connection c after one thing is done.
-- It may continue after it was opened, or the network reported it, or it had a turn at which it did not wait and that left no reply to be
-- worked on.
abbrev pub stands_after : ℕ → Standing → Work → Standing
stands_after c old (wakes places) = if is_among c places then woken old else old
stands_after c old (opens s d) = if nat_eq d c then ready else old
stands_after c old (acts s d act owing) = if nat_eq d c then (if owing then working else ready) else old
stands_after c old (waits s d) = if nat_eq d c then waiting else old
stands_after c old (ends s d cause deeds said) = if nat_eq d c then absent else old
stands_after c old (office_comes o k) = old
stands_after c old (enters o k text turned deeds said) = old
stands_after c old (office_leaves o k overdue) = old
stands_after c old (aside deeds said) = old

-- and after all of these
abbrev pub stands_in : ℕ → Standing → List Work → Standing
stands_in c old [] = old
stands_in c old (work ∷ later) = stands_in c (stands_after c old work) later

-- and of a connection of the land office, after a turn of it: it may continue if it is not over and did not wait
abbrev pub office_turned : Bool → EntryTurned → Standing
office_turned true turned = absent
office_turned false turn.Waits = waiting
office_turned false other = ready

-- the state of connection k of the land office after one thing is done, and after all of these
abbrev pub office_after : ℕ → Standing → Work → Standing
office_after k old (wakes places) = if is_among (office_place k) places then woken old else old
office_after k old (opens s c) = old
office_after k old (acts s c act owing) = old
office_after k old (waits s c) = old
office_after k old (ends s c cause deeds said) = old
office_after k old (office_comes o j) = if nat_eq j k then ready else old
office_after k old (enters o j text turned deeds said) = if nat_eq j k then office_turned (is_last turned) turned else old
office_after k old (office_leaves o j overdue) = if nat_eq j k then absent else old
office_after k old (aside deeds said) = old

abbrev pub office_in : ℕ → Standing → List Work → Standing
office_in k old [] = old
office_in k old (work ∷ later) = office_in k (office_after k old work) later

-- the line without connection c
abbrev pub without : ℕ → List ℕ → List ℕ
without c line = filter (λ d. not (nat_eq d c)) line

-- how many are worked on in turn
abbrev pub most_in_turn : ℕ
most_in_turn = 8

-- in addition to the first
abbrev pub others_in_turn : ℕ
others_in_turn = most_in_turn - 1

-- the first of the line goes behind the others that are worked on in turn, and before those that wait until one of these is done
abbrev pub moved_back : List ℕ → List ℕ
moved_back [] = []
moved_back (first ∷ rest) = take others_in_turn rest ++ first ∷ drop others_in_turn rest

-- connection c is the first of the line
abbrev pub is_first : ℕ → List ℕ → Bool
is_first c [] = false
is_first c (first ∷ rest) = nat_eq first c

-- the line after a turn of connection c that left a reply to be worked on: if it came to that by the turn, it is the last
abbrev pub lined_up : ℕ → List ℕ → List ℕ
lined_up c line = if is_first c line then moved_back line else (if is_among c line then line else line ++ c ∷ [])

-- and after any turn of it
abbrev pub settled : ℕ → Bool → List ℕ → List ℕ
settled c owing line = if owing then lined_up c line else without c line

-- the line after one thing is done, and after all of these
abbrev pub line_after : List ℕ → Work → List ℕ
line_after line (wakes places) = line
line_after line (opens s c) = without c line
line_after line (acts s c act owing) = settled c owing line
line_after line (waits s c) = without c line
line_after line (ends s c cause deeds said) = without c line
line_after line (office_comes o k) = line
line_after line (enters o k text turned deeds said) = line
line_after line (office_leaves o k overdue) = line
line_after line (aside deeds said) = line

abbrev pub line_in : List ℕ → List Work → List ℕ
line_in line [] = line
line_in line (work ∷ later) = line_in (line_after line work) later

-- all of them
abbrev pub all_after : Standings → List Work → Standings
all_after old works =
    record { clients = λ c. stands_in c (old.clients c) works; offices = λ k. office_in k (old.offices k) works; line = line_in old.line works }

-- it is a turn of connection c: it writes, reads, has the desk take something, has a reply worked on, waits, or ends by itself
abbrev pub is_turn_of : ℕ → Work → Bool
is_turn_of c (acts s d act owing) = nat_eq d c
is_turn_of c (waits s d) = nat_eq d c
is_turn_of c (ends s d (Some ending) deeds said) = nat_eq d c
is_turn_of c other = false

-- at which its socket gives or takes nothing
abbrev pub is_wait_of : ℕ → Work → Bool
is_wait_of c (waits s d) = nat_eq d c
is_wait_of c other = false

-- at which it is over
abbrev pub is_end_of : ℕ → Work → Bool
is_end_of c (ends s d (Some ending) deeds said) = nat_eq d c
is_end_of c other = false

-- it is a piece of work for the next reply of connection c, for which there was memory or not
abbrev pub is_piece_of : ℕ → Work → Bool
is_piece_of c (acts s d worked owing) = nat_eq d c
is_piece_of c (ends s d (Some Unmade) deeds said) = nat_eq d c
is_piece_of c other = false

-- it is a turn of connection k of the land office
abbrev pub is_office_turn : ℕ → Work → Bool
is_office_turn k (enters o j text turned deeds said) = nat_eq j k
is_office_turn k other = false

-- one of these is such a work
abbrev pub any_of : (Work → Bool) → List Work → Bool
any_of is [] = false
any_of is (work ∷ later) = is work || any_of is later

abbrev pub has_turn : ℕ → List Work → Bool
has_turn c works = any_of (is_turn_of c) works

-- how many turns of connection c these are
abbrev pub turns_of : ℕ → List Work → ℕ
turns_of c [] = 0
turns_of c (work ∷ later) = (if is_turn_of c work then 1 else 0) + turns_of c later

-- how many pieces of work for its replies these are
abbrev pub pieces_of : ℕ → List Work → ℕ
pieces_of c [] = 0
pieces_of c (work ∷ later) = (if is_piece_of c work then 1 else 0) + pieces_of c later

-- what is written to connection c
abbrev pub written_by : ℕ → Work → List ℕ
written_by c (acts s d act owing) = if nat_eq d c then written_in act else []
written_by c other = []

abbrev pub written_to : ℕ → List Work → List ℕ
written_to c [] = []
written_to c (work ∷ later) = written_by c work ++ written_to c later

-- the desk takes a piece of connection c, and all that it sends for that is written to it
pub record Replies (c : ℕ) (works : List Work) : Type 0 where
  pub before : List Work
  pub later : List Work
  pub s : ℕ
  pub piece : Vec ℕ
  pub out : List ℕ
  pub over : Bool
  pub owing : Bool
  pub more : List ℕ
  pub all : works ≡ before ++ acts s c (fed piece out over) owing ∷ later
  pub written : written_to c later ≡ out ++ more

-- a reply of connection c is worked on, and after that one is to be worked on still
pub record WorksOn (c : ℕ) (works : List Work) : Type 0 where
  pub before : List Work
  pub later : List Work
  pub s : ℕ
  pub act : Act
  pub all : works ≡ (before ++ acts s c act true ∷ []) ++ later
  pub piece : 1 ≤ pieces_of c (before ++ acts s c act true ∷ [])

-- connection c has turns, and these are enough: it is over or waits at one of them, or a reply is written, or one is worked on and not made by
-- that, or there are four
pub record HasEnough (c : ℕ) (works : List Work) : Type 0 where
  pub turn : has_turn c works ≡ true
  pub enough : (any_of (is_end_of c) works ≡ true) ⊎ ((any_of (is_wait_of c) works ≡ true) ⊎ (Replies c works ⊎ (WorksOn c works ⊎ (most_turns ≤ turns_of c works))))

-- each connection that may continue has its turns, and each of the land office has one, if it may continue
pub record EachHasTurn (stands : Standings) (works : List Work) : Type 0 where
  pub clients : (c : ℕ) → stands.clients c ≡ ready → HasEnough c works
  pub offices : (k : ℕ) → stands.offices k ≡ ready → any_of (is_office_turn k) works ≡ true

-- the works of them all
abbrev pub all_works : List (List Work) → List Work
all_works [] = []
all_works (some ∷ more) = some ++ all_works more

-- none of these is a client's turn
abbrev pub IsQuiet : List Work → Type 0
IsQuiet works = (c : ℕ) → has_turn c works ≡ false

-- connection k of the land office is not open; or the network reports who may continue, and then it has a turn, if it may continue
abbrev pub HearsOffice : ℕ → Standing → List Work → Type 0
HearsOffice k stand [] = stand ≡ absent
HearsOffice k stand (wakes places ∷ later) = (office_after k stand (wakes places) ≡ ready → any_of (is_office_turn k) later ≡ true)
HearsOffice k stand other = ⊥

-- turns of one client and of no other, among them at most one piece of work, and then each connection of the land office is heard
pub record IsVisit (stands : ℕ → Standing) (works : List Work) : Type 0 where
  pub c : ℕ
  pub own : List Work
  pub later : List Work
  pub all : works ≡ own ++ later
  pub alone : (d : ℕ) → nat_eq c d ≡ false → has_turn d own ≡ false
  pub pieces : pieces_of c own ≤ 1
  pub quiet : IsQuiet later
  pub hears : (k : ℕ) → HearsOffice k (office_in k (stands k) own) later

abbrev pub AreVisits : (ℕ → Standing) → List (List Work) → Type 0
AreVisits stands [] = ⊤
AreVisits stands (visit ∷ visits) = IsVisit stands visit × AreVisits (λ k. office_in k (stands k) visit) visits

-- one piece of work for connection c and no turn of another, and then each connection of the land office is heard
pub record IsPiece (c : ℕ) (stands : ℕ → Standing) (works : List Work) : Type 0 where
  pub piece : Work
  pub later : List Work
  pub all : works ≡ piece ∷ later
  pub is : is_piece_of c piece ≡ true
  pub quiet : IsQuiet later
  pub hears : (k : ℕ) → HearsOffice k (office_after k (stands k) piece) later

-- the same for the first of the line, if replies are worked on
abbrev pub HasPiece : List ℕ → (ℕ → Standing) → List Work → Type 0
HasPiece [] stands works = works ≡ []
HasPiece (first ∷ rest) stands works = IsPiece first stands works

-- clients have their turns only in visits; but after these the first of the line has one piece of work
pub record ComesByVisits (line : List ℕ) (stands : ℕ → Standing) (works : List Work) : Type 0 where
  pub visits : List (List Work)
  pub piece : List Work
  pub rest : List Work
  pub all : works ≡ all_works visits ++ (piece ++ rest)
  pub are : AreVisits stands visits
  pub works_on : HasPiece (line_in line (all_works visits)) (λ k. office_in k (stands k) (all_works visits)) piece
  pub quiet : IsQuiet rest

-- The network reports whose sockets may continue. Then each client that may continue has its turns, one client after the other, and after them
-- the one that is first in the line has a piece of work. Each connection of the land office has a turn after each of them.
abbrev pub GivesTurns : Standings → List Work → Type 0
GivesTurns stands (wakes places ∷ later) =
    EachHasTurn (all_after stands (wakes places ∷ [])) later × ComesByVisits stands.line (λ k. office_after k (stands.offices k) (wakes places)) later
GivesTurns stands other = ⊥

-- The most that is done for each. The land office has so many turns on each of its connections when it is served, and is served between two
-- clients after the network reported who may continue.
abbrev pub most_for_offices : ℕ
most_for_offices = most_for_office * most_offices

abbrev pub most_between : ℕ
most_between = 1 + most_for_offices

-- for a client, its turns, and then the land office is served
abbrev pub most_for_client : ℕ
most_for_client = most_turns + most_between

-- the same for a piece of work
abbrev pub most_for_piece : ℕ
most_for_piece = 1 + most_between

-- for all clients, and one piece of work
abbrev pub most_for_peers : ℕ
most_for_peers = most_for_client * most_clients + most_for_piece

-- for these and once more for the land office, after the network reported who may continue
abbrev pub most_served : ℕ
most_served = 1 + most_for_peers + most_for_offices

-- all clients are dropped, and as many come
abbrev pub most_clients_changed : ℕ
most_clients_changed = most_clients + most_clients

-- all connections of the land office are dropped, and one comes
abbrev pub most_offices_changed : ℕ
most_offices_changed = most_offices + 1

-- the most that is done in a round
abbrev pub most_in_round : ℕ
most_in_round = most_served + most_clients_changed + most_offices_changed

-- a round
pub record IsRound (stands : Standings) (works : List Work) : Type 0 where
  pub gives : GivesTurns stands works
  pub few : length works ≤ most_in_round

-- these are rounds, one after the other
abbrev pub AreRounds : Standings → List (List Work) → Type 0
AreRounds stands [] = ⊤
AreRounds stands (round ∷ rounds) = IsRound stands round × AreRounds (all_after stands round) rounds

-- these works are rounds, in each of which all that may continue are served, and the beginning of one more, if hosting ends within it
pub record AreServed (stands : Standings) (works : List Work) : Type 0 where
  pub rounds : List (List Work)
  pub last : List Work
  pub all : works ≡ all_works rounds ++ last
  pub served : AreRounds stands rounds
  pub few : length last ≤ most_in_round
