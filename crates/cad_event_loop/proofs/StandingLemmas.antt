-- How clients and the land office stand after what is done, and that each that may go on has its turns.
use Rattle.std.proofs.Common.{◌≡◌, ◌⊎◌, inl, inr, ℕ, nat_eq, ◌+◌, ◌*◌, ◌<◌, ◌≤◌, Bool, true, false, ◌||◌, List, [], ◌∷◌, ◌++◌, length-append, append_assoc, append-nil, Option, None, Some, IsSomeAnd, Result, Ok, Err, refl, sym, ap, subst, ◌∙◌, if◌then◌else◌, arith}
use Rattle.std.proofs.lemmas.Bool.{cases_lt, eqb-true}
use Rattle.std.proofs.lemmas.Option.{slice_get_past}
use Rattle.cad_network.specs.lemmas.DeedLemmas.{or_none}
use Rattle.cad_clients.specs.Channels.{fed, is_working}
use Rattle.cad_clients.specs.declared.client.Client.{Client}
use Rattle.cad_clients.specs.declared.clients.Clients.{Clients}
use Rattle.cad_clients.specs.Notes.{MayGoOn}
use Rattle.cad_clients.specs.Slots.{client_in, client_at}
use Rattle.cad_office_socket.specs.Serving.{most_turns as most_for_office}
use Rattle.cad_event_loop.specs.declared.peers.Peers.{Peers}
use Rattle.cad_event_loop.specs.declared.stopped.Stopped.{Stopped}
use Rattle.cad_event_loop.specs.inner.Line.{standing_of, standing_at, first_of}
use Rattle.cad_event_loop.specs.inner.Standing.{standing_office, standings, IsAsked, IsPaced, IsAtDoors, LosesNobody, flag_at, ServesOffice, ServesOfficesBelow, ServesOffices, GivesTurn, GivesTurnAlone, GivesPiece, WorksOnFirst, ComesToPiece, ServesPeers, HasVisits, HearsBetween, VisitsClient, GivesTurnsBelow, IfWhole, ServesAll, ServesEach, MakesRound, MadeRounds}
use Rattle.cad_event_loop.specs.Turns.{Standing, absent, waiting, ready, working, Standings, woken, is_among, office_place, stands_after, stands_in, office_after, office_in, line_after, line_in, all_after, is_turn_of, is_wait_of, is_end_of, is_piece_of, is_office_turn, any_of, turns_of, pieces_of, written_by, written_to, Replies, WorksOn, HasEnough, EachHasTurn, IsQuiet, HearsOffice, IsVisit, AreVisits, IsPiece, HasPiece, ComesByVisits, GivesTurns, most_in_round, most_for_client, most_for_piece, IsRound, AreRounds, all_works, AreServed}
use Rattle.cad_event_loop.specs.Works.{AtOffice, AtOffices, Work, wakes, opens, acts, waits, ends, office_comes, enters, office_leaves, aside}

pub stands_in-append : (c : ℕ) (old : Standing) (xs ys : List Work) → stands_in c old (xs ++ ys) ≡ stands_in c (stands_in c old xs) ys
stands_in-append c old [] ys = refl
stands_in-append c old (work ∷ xs) ys = stands_in-append c (stands_after c old work) xs ys

pub office_in-append : (k : ℕ) (old : Standing) (xs ys : List Work) → office_in k old (xs ++ ys) ≡ office_in k (office_in k old xs) ys
office_in-append k old [] ys = refl
office_in-append k old (work ∷ xs) ys = office_in-append k (office_after k old work) xs ys

pub line_in-append : (line : List ℕ) (xs ys : List Work) → line_in line (xs ++ ys) ≡ line_in (line_in line xs) ys
line_in-append line [] ys = refl
line_in-append line (work ∷ xs) ys = line_in-append (line_after line work) xs ys

-- whoever stands alike stands alike after this
alike_after : (k : ℕ) (a b : Standing) (works : List Work) → a ≡ b → office_in k a works ≡ office_in k b works
alike_after k a b works same = ap (λ (it : Standing). office_in k it works) same

one_first : (a b : Bool) → a ≡ true → (a || b) ≡ true
one_first true b e = refl
one_first false b e = absurd (let clash : false ≡ true = e in cc)

one_later : (a b : Bool) → b ≡ true → (a || b) ≡ true
one_later true b e = refl
one_later false b e = e

one_cases : (a b : Bool) → (a || b) ≡ true → (a ≡ true) ⊎ (b ≡ true)
one_cases true b e = inl refl
one_cases false b e = inr e

neither : (a b : Bool) → a ≡ false → b ≡ false → (a || b) ≡ false
neither true b e f = absurd (let clash : true ≡ false = e in cc)
neither false b e f = f

-- one among these is one among more
pub any_left : (is : Work → Bool) (xs ys : List Work) → any_of is xs ≡ true → any_of is (xs ++ ys) ≡ true
any_left is [] ys e = absurd (let clash : false ≡ true = e in cc)
any_left is (work ∷ xs) ys e = elim (one_cases (is work) (any_of is xs) e) [
  | inl now ↦ one_first (is work) (any_of is (xs ++ ys)) now
  | inr later ↦ one_later (is work) (any_of is (xs ++ ys)) (any_left is xs ys later)
]

pub one_of : (is : Work → Bool) (work : Work) → is work ≡ true → any_of is (work ∷ []) ≡ true
one_of is work e = one_first (is work) false e

pub none_of : (is : Work → Bool) (work : Work) → is work ≡ false → any_of is (work ∷ []) ≡ false
none_of is work e = neither (is work) false e refl

pub any_right : (is : Work → Bool) (xs ys : List Work) → any_of is ys ≡ true → any_of is (xs ++ ys) ≡ true
any_right is [] ys e = e
any_right is (work ∷ xs) ys e = one_later (is work) (any_of is (xs ++ ys)) (any_right is xs ys e)

-- none among these and none among those
pub any_none : (is : Work → Bool) (xs ys : List Work) → any_of is xs ≡ false → any_of is ys ≡ false → any_of is (xs ++ ys) ≡ false
any_none is [] ys x y = y
any_none is (work ∷ xs) ys x y = let both = or_none (is work) (any_of is xs) x in neither (is work) (any_of is (xs ++ ys)) both.0 (any_none is xs ys both.1 y)

pub quiet-append : (xs ys : List Work) → IsQuiet xs → IsQuiet ys → IsQuiet (xs ++ ys)
quiet-append xs ys x y c = any_none (is_turn_of c) xs ys (x c) (y c)

works-append : (xs ys : List (List Work)) → all_works (xs ++ ys) ≡ all_works xs ++ all_works ys
works-append [] ys = refl
works-append (first ∷ more) ys = ap (λ (l : List Work). first ++ l) (works-append more ys) ∙ sym (append_assoc first (all_works more) (all_works ys))

-- how the land office stands after these
abbrev pub offices_in : (ℕ → Standing) → List Work → ℕ → Standing
offices_in stands works k = office_in k (stands k) works

visit_alike : (a b : ℕ → Standing) (visit : List Work) → ((k : ℕ) → b k ≡ a k) → IsVisit a visit → IsVisit b visit
visit_alike a b visit same v = record {
  c = v.c;
  own = v.own;
  later = v.later;
  all = v.all;
  alone = v.alone;
  pieces = v.pieces;
  quiet = v.quiet;
  hears = λ k. subst (λ (it : Standing). HearsOffice k it v.later) (alike_after k (a k) (b k) v.own (sym (same k))) (v.hears k);
}

visits_alike : (a b : ℕ → Standing) (visits : List (List Work)) → ((k : ℕ) → b k ≡ a k) → AreVisits a visits → AreVisits b visits
visits_alike a b [] same are = tt
visits_alike a b (visit ∷ visits) same are =
    (visit_alike a b visit same are.0, visits_alike (offices_in a visit) (offices_in b visit) visits (λ k. alike_after k (b k) (a k) visit (same k)) are.1)

has_alike : (a b : ℕ → Standing) (works : List Work) → ((k : ℕ) → b k ≡ a k) → HasVisits a works → HasVisits b works
has_alike a b works same x = record { visits = x.visits; all = x.all; are = visits_alike a b x.visits same x.are }

piece_alike : (line : List ℕ) (a b : ℕ → Standing) (works : List Work) → ((k : ℕ) → b k ≡ a k) → HasPiece line a works → HasPiece line b works
piece_alike [] a b works same x = x
piece_alike (first ∷ rest) a b works same x = record {
  piece = x.piece;
  later = x.later;
  all = x.all;
  is = x.is;
  quiet = x.quiet;
  hears = λ k. subst (λ (it : Standing). HearsOffice k (office_after k it x.piece) x.later) (sym (same k)) (x.hears k);
}

comes_alike : (line : List ℕ) (a b : ℕ → Standing) (works : List Work) → ((k : ℕ) → b k ≡ a k) → ComesByVisits line a works → ComesByVisits line b works
comes_alike line a b works same x = record {
  visits = x.visits;
  piece = x.piece;
  rest = x.rest;
  all = x.all;
  are = visits_alike a b x.visits same x.are;
  works_on = piece_alike (line_in line (all_works x.visits)) (offices_in a (all_works x.visits)) (offices_in b (all_works x.visits)) x.piece (λ k. alike_after k (b k) (a k) (all_works x.visits) (same k)) x.works_on;
  quiet = x.quiet;
}

visits-append : (stands : ℕ → Standing) (xs ys : List (List Work)) → AreVisits stands xs → AreVisits (offices_in stands (all_works xs)) ys → AreVisits stands (xs ++ ys)
visits-append stands [] ys x y = y
visits-append stands (first ∷ more) ys x y =
    (x.0, visits-append (offices_in stands first) more ys x.1 (visits_alike (offices_in stands (first ++ all_works more)) (offices_in (offices_in stands first) (all_works more)) ys (λ k. sym (office_in-append k (stands k) first (all_works more))) y))

visits-then : (stands : ℕ → Standing) (xs ys : List Work) → HasVisits stands xs → HasVisits (offices_in stands xs) ys → HasVisits stands (xs ++ ys)
visits-then stands xs ys x y = record {
  visits = x.visits ++ y.visits;
  all = ap (λ (l : List Work). l ++ ys) x.all ∙ (ap (λ (l : List Work). all_works x.visits ++ l) y.all ∙ sym (works-append x.visits y.visits));
  are = visits-append stands x.visits y.visits x.are (subst (λ (l : List Work). AreVisits (offices_in stands l) y.visits) x.all y.are);
}

visits-nil : (stands : ℕ → Standing) → HasVisits stands []
visits-nil stands = record { visits = []; all = refl; are = tt }

sum_more : (a b d e : ℕ) → e ≡ b + d → a + e ≡ (a + b) + d
sum_more a b d e is = omega (arith, is)

none_before : (n : ℕ) → n ≡ 0 + n
none_before n = omega arith

pub turns_of-append : (c : ℕ) (xs ys : List Work) → turns_of c (xs ++ ys) ≡ turns_of c xs + turns_of c ys
turns_of-append c [] ys = none_before (turns_of c ys)
turns_of-append c (work ∷ xs) ys = sum_more (if is_turn_of c work then 1 else 0) (turns_of c xs) (turns_of c ys) (turns_of c (xs ++ ys)) (turns_of-append c xs ys)

pub pieces_of-append : (c : ℕ) (xs ys : List Work) → pieces_of c (xs ++ ys) ≡ pieces_of c xs + pieces_of c ys
pieces_of-append c [] ys = none_before (pieces_of c ys)
pieces_of-append c (work ∷ xs) ys = sum_more (if is_piece_of c work then 1 else 0) (pieces_of c xs) (pieces_of c ys) (pieces_of c (xs ++ ys)) (pieces_of-append c xs ys)

pub written_to-append : (c : ℕ) (xs ys : List Work) → written_to c (xs ++ ys) ≡ written_to c xs ++ written_to c ys
written_to-append c [] ys = refl
written_to-append c (work ∷ xs) ys = ap (λ (l : List ℕ). written_by c work ++ l) (written_to-append c xs ys) ∙ sym (append_assoc (written_by c work) (written_to c xs) (written_to c ys))

replies_left : (c : ℕ) (xs ys : List Work) → Replies c xs → Replies c (xs ++ ys)
replies_left c xs ys r = record {
  before = r.before;
  later = r.later ++ ys;
  s = r.s;
  piece = r.piece;
  out = r.out;
  over = r.over;
  owing = r.owing;
  more = r.more ++ written_to c ys;
  all = ap (λ (l : List Work). l ++ ys) r.all ∙ append_assoc r.before (acts r.s c (fed r.piece r.out r.over) r.owing ∷ r.later) ys;
  written = written_to-append c r.later ys ∙ (ap (λ (l : List ℕ). l ++ written_to c ys) r.written ∙ append_assoc r.out r.more (written_to c ys));
}

replies_right : (c : ℕ) (xs ys : List Work) → Replies c ys → Replies c (xs ++ ys)
replies_right c xs ys r = record {
  before = xs ++ r.before;
  later = r.later;
  s = r.s;
  piece = r.piece;
  out = r.out;
  over = r.over;
  owing = r.owing;
  more = r.more;
  all = ap (λ (l : List Work). xs ++ l) r.all ∙ sym (append_assoc xs r.before (acts r.s c (fed r.piece r.out r.over) r.owing ∷ r.later));
  written = r.written;
}

works_on_left : (c : ℕ) (xs ys : List Work) → WorksOn c xs → WorksOn c (xs ++ ys)
works_on_left c xs ys w = record {
  before = w.before;
  later = w.later ++ ys;
  s = w.s;
  act = w.act;
  all = ap (λ (l : List Work). l ++ ys) w.all ∙ append_assoc (w.before ++ acts w.s c w.act true ∷ []) w.later ys;
  piece = w.piece;
}

works_on_right : (c : ℕ) (xs ys : List Work) → WorksOn c ys → WorksOn c (xs ++ ys)
works_on_right c xs ys w =
    let last : List Work = acts w.s c w.act true ∷ [] in
    let same : (xs ++ w.before) ++ last ≡ xs ++ (w.before ++ last) = append_assoc xs w.before last in
    let count = pieces_of-append c xs (w.before ++ last) in
    let some = w.piece in
    let more : 1 ≤ pieces_of c (xs ++ (w.before ++ last)) = omega (arith, count, some) in
    record {
      before = xs ++ w.before;
      later = w.later;
      s = w.s;
      act = w.act;
      all = ap (λ (l : List Work). xs ++ l) w.all ∙ (sym (append_assoc xs (w.before ++ last) w.later) ∙ ap (λ (l : List Work). l ++ w.later) (sym same));
      piece = subst (λ (l : List Work). 1 ≤ pieces_of c l) (sym same) more;
    }

pub enough_left : (c : ℕ) (xs ys : List Work) → HasEnough c xs → HasEnough c (xs ++ ys)
enough_left c xs ys h = record {
  turn = any_left (is_turn_of c) xs ys h.turn;
  enough = elim h.enough [
    | inl over ↦ inl (any_left (is_end_of c) xs ys over)
    | inr goes ↦
        elim goes [
          | inl waited ↦ inr (inl (any_left (is_wait_of c) xs ys waited))
          | inr more ↦
              elim more [
                | inl replied ↦ inr (inr (inl (replies_left c xs ys replied)))
                | inr most ↦
                    elim most [
                      | inl did ↦ inr (inr (inr (inl (works_on_left c xs ys did))))
                      | inr four ↦ inr (inr (inr (inr (let sum = turns_of-append c xs ys in omega (arith, sum, four)))))
                    ]
              ]
        ]
  ];
}

pub enough_right : (c : ℕ) (xs ys : List Work) → HasEnough c ys → HasEnough c (xs ++ ys)
enough_right c xs ys h = record {
  turn = any_right (is_turn_of c) xs ys h.turn;
  enough = elim h.enough [
    | inl over ↦ inl (any_right (is_end_of c) xs ys over)
    | inr goes ↦
        elim goes [
          | inl waited ↦ inr (inl (any_right (is_wait_of c) xs ys waited))
          | inr more ↦
              elim more [
                | inl replied ↦ inr (inr (inl (replies_right c xs ys replied)))
                | inr most ↦
                    elim most [
                      | inl did ↦ inr (inr (inr (inl (works_on_right c xs ys did))))
                      | inr four ↦ inr (inr (inr (inr (let sum = turns_of-append c xs ys in omega (arith, sum, four)))))
                    ]
              ]
        ]
  ];
}

pub none_ready : absent ≡ ready → ⊥
none_ready e = cc

pub waiting_ready : waiting ≡ ready → ⊥
waiting_ready e = cc

pub working_ready : working ≡ ready → ⊥
working_ready e = cc

woken_if : (told : Bool) (old : Standing) → old ≡ ready → (if told then woken old else old) ≡ ready
woken_if true old is = ap woken is
woken_if false old is = is

certain : {E : Type 0} (result : Result (Option Stopped) E) (So : Type 0) → So → IfWhole result So
certain (Ok None) So so = so
certain (Ok (Some stopped)) So so = tt
certain (Err error) So so = tt

-- of a round that was made to its end, this follows
whole : {E : Type 0} (result : Result (Option Stopped) E) (Had So : Type 0) → (Had → So) → IfWhole result Had → IfWhole result So
whole (Ok None) Had So so had = so had
whole (Ok (Some stopped)) Had So so had = tt
whole (Err error) Had So so had = tt

visits_more : (line : List ℕ) (stands : ℕ → Standing) (xs ys : List Work) → IsQuiet ys → ComesByVisits line stands xs → ComesByVisits line stands (xs ++ ys)
visits_more line stands xs ys quiet x = record {
  visits = x.visits;
  piece = x.piece;
  rest = x.rest ++ ys;
  all = ap (λ (l : List Work). l ++ ys) x.all ∙ (append_assoc (all_works x.visits) (x.piece ++ x.rest) ys ∙ ap (λ (l : List Work). all_works x.visits ++ l) (append_assoc x.piece x.rest ys));
  are = x.are;
  works_on = x.works_on;
  quiet = quiet-append x.rest ys x.quiet quiet;
}

gives_more : (stands : Standings) (xs ys : List Work) → IsQuiet ys → GivesTurns stands xs → GivesTurns stands (xs ++ ys)
gives_more stands [] ys quiet gives = absurd gives
gives_more stands (wakes places ∷ xs) ys quiet gives = (
  record { clients = λ c is. enough_left c xs ys (gives.0.clients c is); offices = λ k is. any_left (is_office_turn k) xs ys (gives.0.offices k is) },
  visits_more stands.line (λ k. office_after k (stands.offices k) (wakes places)) xs ys quiet gives.1,
)
gives_more stands (opens s c ∷ xs) ys quiet gives = absurd gives
gives_more stands (acts s c act owing ∷ xs) ys quiet gives = absurd gives
gives_more stands (waits s c ∷ xs) ys quiet gives = absurd gives
gives_more stands (ends s c cause deeds said ∷ xs) ys quiet gives = absurd gives
gives_more stands (office_comes o k ∷ xs) ys quiet gives = absurd gives
gives_more stands (enters o k text turned deeds said ∷ xs) ys quiet gives = absurd gives
gives_more stands (office_leaves o k overdue ∷ xs) ys quiet gives = absurd gives
gives_more stands (aside deeds said ∷ xs) ys quiet gives = absurd gives

cut_off : {E : Type 0} (So : Type 0) (result : Result (Option Stopped) E) → IfWhole result ⊥ → IfWhole result So
cut_off So (Ok None) cut = absurd cut
cut_off So (Ok (Some stopped)) cut = tt
cut_off So (Err error) cut = tt

pub paced-append : (m n most : ℕ) (a b d : Standings) (xs ys : List Work) → m + n ≤ most → IsPaced m a b xs → IsPaced n b d ys → IsPaced most a d (xs ++ ys)
paced-append m n most a b d xs ys within x y =
    let count = length-append xs ys in
    let few = x.few in
    let more = y.few in
    record {
      few = omega (arith, count, few, more, within);
      stand = λ c. y.stand c ∙ (ap (λ (it : Standing). stands_in c it ys) (x.stand c) ∙ sym (stands_in-append c (a.clients c) xs ys));
      offices = λ k. y.offices k ∙ (ap (λ (it : Standing). office_in k it ys) (x.offices k) ∙ sym (office_in-append k (a.offices k) xs ys));
      line = y.line ∙ (ap (λ (it : List ℕ). line_in it ys) x.line ∙ sym (line_in-append a.line xs ys));
    }

pub paced-nil : (most : ℕ) (a : Standings) → IsPaced most a a []
paced-nil most a = record { few = omega arith; stand = λ c. refl; offices = λ k. refl; line = refl }

pub paced-more : (m most : ℕ) (a b : Standings) (xs : List Work) → m ≤ most → IsPaced m a b xs → IsPaced most a b xs
paced-more m most a b xs within x = let few = x.few in record { few = omega (arith, few, within); stand = x.stand; offices = x.offices; line = x.line }

pub doors-append : (m n most : ℕ) (a b d : Standings) (xs ys : List Work) → m + n ≤ most → IsAtDoors m a b xs → IsAtDoors n b d ys → IsAtDoors most a d (xs ++ ys)
doors-append m n most a b d xs ys within x y = record { paced = paced-append m n most a b d xs ys within x.paced y.paced; quiet = quiet-append xs ys x.quiet y.quiet }

pub doors-nil : (most : ℕ) (a : Standings) → IsAtDoors most a a []
doors-nil most a = record { paced = paced-nil most a; quiet = λ c. refl }

pub doors-more : (m most : ℕ) (a b : Standings) (xs : List Work) → m ≤ most → IsAtDoors m a b xs → IsAtDoors most a b xs
doors-more m most a b xs within x = record { paced = paced-more m most a b xs within x.paced; quiet = x.quiet }

pub passes-nil : (most : ℕ) (a : Standings) → LosesNobody most a a []
passes-nil most a = record { paced = paced-nil most a; kept = λ c is. inr is; kept_office = λ k is. inr is }

pub passes-more : (m most : ℕ) (a b : Standings) (xs : List Work) → m ≤ most → LosesNobody m a b xs → LosesNobody most a b xs
passes-more m most a b xs within x = record { paced = paced-more m most a b xs within x.paced; kept = x.kept; kept_office = x.kept_office }

kept_then : (a b d : Standings) (xs ys : List Work) → ((k : ℕ) → a.offices k ≡ ready → (any_of (is_office_turn k) xs ≡ true) ⊎ (b.offices k ≡ ready))
    → ((k : ℕ) → b.offices k ≡ ready → (any_of (is_office_turn k) ys ≡ true) ⊎ (d.offices k ≡ ready)) → (k : ℕ) → a.offices k ≡ ready → (any_of (is_office_turn k) (xs ++ ys) ≡ true) ⊎ (d.offices k ≡ ready)
kept_then a b d xs ys x y k is = elim (x k is) [
  | inl had ↦ inl (any_left (is_office_turn k) xs ys had)
  | inr still ↦
      elim (y k still) [
        | inl has ↦ inl (any_right (is_office_turn k) xs ys has)
        | inr stays ↦ inr stays
      ]
]

pub passes-append : (m n most : ℕ) (a b d : Standings) (xs ys : List Work) → m + n ≤ most → LosesNobody m a b xs → LosesNobody n b d ys → LosesNobody most a d (xs ++ ys)
passes-append m n most a b d xs ys within x y = record {
  paced = paced-append m n most a b d xs ys within x.paced y.paced;
  kept = λ c is. elim (x.kept c is) [
    | inl had ↦ inl (enough_left c xs ys had)
    | inr still ↦
        elim (y.kept c still) [
          | inl has ↦ inl (enough_right c xs ys has)
          | inr stays ↦ inr stays
        ]
  ];
  kept_office = kept_then a b d xs ys x.kept_office y.kept_office;
}

-- connection k of the land office had its turns, and all others stand as they did
pub office_passes : (k most : ℕ) (a b : Standings) (xs : List Work) → IsPaced most a b xs → ((c : ℕ) → b.clients c ≡ a.clients c) → ((j : ℕ) → nat_eq k j ≡ false → b.offices j ≡ a.offices j) → any_of (is_office_turn k) xs ≡ true → IsQuiet xs
    → ServesOffice k most a b xs
office_passes k most a b xs paced same others turn quiet = record { passes = record { paced = paced; kept = λ c is. inr (same c ∙ is); kept_office = λ j is. go j is (nat_eq k j) refl }; quiet = quiet; turn = λ is. turn }
  where
    go : (j : ℕ) → a.offices j ≡ ready → (own : Bool) → nat_eq k j ≡ own → (any_of (is_office_turn j) xs ≡ true) ⊎ (b.offices j ≡ ready)
    go j is true e = inl (subst (λ (n : ℕ). any_of (is_office_turn n) xs ≡ true) (eqb-true k j e) turn)
    go j is false e = inr (others j e ∙ is)

-- it has none, since it may not go on
pub office_none : (k most : ℕ) (a : Standings) → (a.offices k ≡ ready → ⊥) → ServesOffice k most a a []
office_none k most a not = record { passes = passes-nil most a; quiet = λ c. refl; turn = λ is. absurd (not is) }

-- it waits, or is not open
pub office_rests : {J : Type 0} (office : AtOffice J) → standing_office office (Some false) ≡ ready → ⊥
office_rests None e = none_ready e
office_rests (Some office) e = waiting_ready e

pub office_unready : {S J W : Type 0} (k : ℕ) (peers : Peers S W) (offices : AtOffices J) → Some false ≡ flag_at peers.ready k → ServesOffice k 8 (standings peers offices) (standings peers offices) []
office_unready k peers offices unready = office_none k 8 (standings peers offices) (λ is. office_rests (offices k) (ap (λ (flag : Option Bool). standing_office (offices k) flag) unready ∙ is))

-- the connections of the land office have their turns, one after the other
pub offices-nil : (a : Standings) → ServesOfficesBelow 0 a a []
offices-nil a = record { passes = passes-nil 0 a; quiet = λ c. refl; turns = λ j within is. absurd (omega (arith, within)) }

pub offices-then : (k : ℕ) (a b d : Standings) (xs ys : List Work) → ServesOfficesBelow k a b xs → ServesOffice k most_for_office b d ys → ServesOfficesBelow (k + 1) a d (xs ++ ys)
offices-then k a b d xs ys x y = record {
  passes = passes-append (most_for_office * k) most_for_office (most_for_office * (k + 1)) a b d xs ys (omega arith) x.passes y.passes;
  quiet = quiet-append xs ys x.quiet y.quiet;
  turns = λ j within is. elim (cases_lt j k) [
    | inl before ↦ any_left (is_office_turn j) xs ys (x.turns j before is)
    | inr past ↦
        let same : j ≡ k = omega (arith, within, past) in
        elim (x.passes.kept_office j is) [
          | inl had ↦ any_left (is_office_turn j) xs ys had
          | inr still ↦ any_right (is_office_turn j) xs ys (subst (λ (n : ℕ). any_of (is_office_turn n) ys ≡ true) (sym same) (y.turn (ap b.offices (sym same) ∙ still)))
        ]
  ];
}

-- there are no others
pub offices_served : (k : ℕ) (a b : Standings) (xs : List Work) → ((j : ℕ) → 4 ≤ j → a.offices j ≡ absent) → 4 ≤ k → k ≤ 4 → ServesOfficesBelow k a b xs → ServesOffices 32 None a b xs
offices_served k a b xs none least most x = record {
  passes = passes-more (most_for_office * k) 32 a b xs (omega (arith, most)) x.passes;
  quiet = x.quiet;
  turns = λ j is. elim (cases_lt j k) [
    | inl within ↦ x.turns j within is
    | inr past ↦ absurd (none_ready (sym (none j (omega (arith, least, past))) ∙ is))
  ];
}

-- hosting ends meanwhile
pub offices_cut : (stopped : Stopped) (k : ℕ) (a b d : Standings) (xs ys : List Work) → k < 4 → ServesOfficesBelow k a b xs → ServesOffice k most_for_office b d ys → ServesOffices 32 (Some stopped) a d (xs ++ ys)
offices_cut stopped k a b d xs ys within x y = record {
  passes = passes-append (most_for_office * k) most_for_office 32 a b d xs ys (omega (arith, within)) x.passes y.passes;
  quiet = quiet-append xs ys x.quiet y.quiet;
  turns = tt;
}

-- no connection has a number above the last
pub offices_beyond : {S J W : Type 0} (peers : Peers S W) (offices : AtOffices J) (k : ℕ) → 4 ≤ k → (standings peers offices).offices k ≡ absent
offices_beyond {S} {J} peers offices k past =
    let room = peers.ready.room in
    ap (λ (flag : Option Bool). standing_office (offices k) flag) (slice_get_past peers.ready.offices k (omega (arith, past, room))) ∙ go (offices k)
  where
    go : (office : AtOffice J) → standing_office office None ≡ absent
    go None = refl
    go (Some office) = refl

-- the network is asked who may go on
pub asked_stands : (a b : Standings) (xs : List Work) → (asked : IsAsked a b xs) → (c : ℕ) → b.clients c ≡ stands_in c (a.clients c) (wakes asked.0 ∷ [])
asked_stands a b xs asked c = asked.2.stand c ∙ ap (λ (l : List Work). stands_in c (a.clients c) l) asked.1

pub asked_office : (a b : Standings) (xs : List Work) → (asked : IsAsked a b xs) → (k : ℕ) → b.offices k ≡ office_in k (a.offices k) (wakes asked.0 ∷ [])
asked_office a b xs asked k = asked.2.offices k ∙ ap (λ (l : List Work). office_in k (a.offices k) l) asked.1

asked_line : (a b : Standings) (xs : List Work) → IsAsked a b xs → b.line ≡ a.line
asked_line a b xs asked = asked.2.line ∙ ap (λ (l : List Work). line_in a.line l) asked.1

pub asked_quiet : (a b : Standings) (xs : List Work) → IsAsked a b xs → IsQuiet xs
asked_quiet a b xs asked = subst IsQuiet (sym asked.1) (λ c. refl)

pub asked_passes : (most : ℕ) (a b : Standings) (xs : List Work) → 1 ≤ most → IsAsked a b xs → LosesNobody most a b xs
asked_passes most a b xs some asked = record {
  paced = paced-more 1 most a b xs some asked.2;
  kept = λ c is. inr (asked_stands a b xs asked c ∙ woken_if (is_among c asked.0) (a.clients c) is);
  kept_office = λ k is. inr (asked_office a b xs asked k ∙ woken_if (is_among (office_place k) asked.0) (a.offices k) is);
}

-- connection c has its turns, and then more is done
pub turn_then : (c m n most : ℕ) (a b d : Standings) (xs ys : List Work) → m + n ≤ most → GivesTurn c m a b xs → LosesNobody n b d ys → GivesTurn c most a d (xs ++ ys)
turn_then c m n most a b d xs ys within x y = record {
  passes = passes-append m n most a b d xs ys within x.passes y;
  turn = λ is. enough_left c xs ys (x.turn is);
}

pub turn_more : (c m most : ℕ) (a b : Standings) (xs : List Work) → m ≤ most → GivesTurn c m a b xs → GivesTurn c most a b xs
turn_more c m most a b xs within x = record { passes = passes-more m most a b xs within x.passes; turn = x.turn }

is_ready_of : {S W : Type 0} (o : Option (Client S W)) → standing_of o ≡ ready → IsSomeAnd o MayGoOn
is_ready_of None e = absurd (none_ready e)
is_ready_of (Some client) e = go (is_working client.channel) client.is_ready e
  where
    go : (works is : Bool) → (if works then working else (if is then ready else waiting)) ≡ ready → (is ≡ true) × (works ≡ false)
    go true is e = absurd (working_ready e)
    go false true e = (refl, refl)
    go false false e = absurd (waiting_ready e)

-- it has none, since it may not go on
pub turn_none : {S J W : Type 0} (c most : ℕ) (peers : Peers S W) (offices : AtOffices J) → (IsSomeAnd (client_at peers.clients c) MayGoOn → ⊥) → GivesTurn c most (standings peers offices) (standings peers offices) []
turn_none c most peers offices not = record { passes = passes-nil most (standings peers offices); turn = λ is. absurd (not (is_ready_of (client_at peers.clients c) is)) }

-- the network tells, and then the land office has its turns
pub hears_then : {E : Type 0} (end : Option Stopped) (a b d : Standings) (xs ys : List Work) → IsAsked a b xs → ServesOffices 32 end b d ys → HearsBetween {E = E} 33 (Ok end) a d (xs ++ ys)
hears_then {E} end a b d xs ys asked served = record {
  passes = passes-append 1 32 33 a b d xs ys (omega arith) (asked_passes 1 a b xs (omega arith) asked) served.passes;
  quiet = quiet-append xs ys (asked_quiet a b xs asked) served.quiet;
  hears = whole {E = E} (Ok end) ((k : ℕ) → b.offices k ≡ ready → any_of (is_office_turn k) ys ≡ true) ((k : ℕ) → HearsOffice k (a.offices k) (xs ++ ys))
      (λ turns k. subst (λ (l : List Work). HearsOffice k (a.offices k) (l ++ ys)) (sym asked.1) (λ is. turns k (asked_office a b xs asked k ∙ is))) served.turns;
}

-- the system refuses that
pub hears_cut : {E : Type 0} (error : E) (a b : Standings) (xs : List Work) → IsAsked a b xs → HearsBetween 33 (Err error) a b xs
hears_cut error a b xs asked = record { passes = asked_passes 33 a b xs (omega arith) asked; quiet = asked_quiet a b xs asked; hears = tt }

-- it is not here
pub hears_none : {E : Type 0} (a : Standings) → ((k : ℕ) → a.offices k ≡ absent) → HearsBetween {E = E} 33 (Ok None) a a []
hears_none a is = record { passes = passes-nil 33 a; quiet = λ c. refl; hears = is }

-- a client and then the land office
visit_one : (c m n : ℕ) (E : Type 0) (a b d : Standings) (xs ys : List Work) → GivesTurnAlone c m a b xs → HearsBetween {E = E} n (Ok None) b d ys → HasVisits a.offices (xs ++ ys)
visit_one c m n E a b d xs ys x y = record {
  visits = (xs ++ ys) ∷ [];
  all = sym (append-nil (xs ++ ys));
  are = (record { c = c; own = xs; later = ys; all = refl; alone = x.alone; pieces = x.pieces; quiet = y.quiet; hears = λ k. subst (λ (it : Standing). HearsOffice k it ys) (x.gives.passes.paced.offices k) (y.hears k) }, tt);
}

pub visit_then : {E : Type 0} (result : Result (Option Stopped) E) (c : ℕ) (a b d : Standings) (xs ys : List Work) → GivesTurnAlone c 4 a b xs → HearsBetween 33 result b d ys → VisitsClient c 37 result a d (xs ++ ys)
visit_then {E} result c a b d xs ys x y = record { gives = turn_then c 4 33 37 a b d xs ys (omega arith) x.gives y.passes; visits = go result y }
  where
    go : (result : Result (Option Stopped) E) → HearsBetween 33 result b d ys → IfWhole result (HasVisits a.offices (xs ++ ys))
    go (Ok None) y = visit_one c 4 33 E a b d xs ys x y
    go (Ok (Some stopped)) y = tt
    go (Err error) y = tt

-- hosting ends by the client
pub visit_cut : {E : Type 0} (stopped : Stopped) (c : ℕ) (a b : Standings) (xs : List Work) → GivesTurnAlone c 4 a b xs → VisitsClient {E = E} c 37 (Ok (Some stopped)) a b xs
visit_cut stopped c a b xs x = record { gives = turn_more c 4 37 a b xs (omega arith) x.gives; visits = tt }

-- there is no visit, since it may not go on
pub visit_none : {S E J W : Type 0} (c : ℕ) (peers : Peers S W) (offices : AtOffices J) → (IsSomeAnd (client_at peers.clients c) MayGoOn → ⊥) → VisitsClient {E = E} c 37 (Ok None) (standings peers offices) (standings peers offices) []
visit_none c peers offices not = record { gives = turn_none c 37 peers offices not; visits = visits-nil (standings peers offices).offices }

pub below-nil : (a : Standings) → GivesTurnsBelow 0 a a []
below-nil a = record { passes = passes-nil 0 a; turns = λ d within is. absurd (omega (arith, within)); visits = visits-nil a.offices }

pub below-then : {E : Type 0} (c : ℕ) (a b d : Standings) (xs ys : List Work) → GivesTurnsBelow c a b xs → VisitsClient {E = E} c most_for_client (Ok None) b d ys → GivesTurnsBelow (c + 1) a d (xs ++ ys)
below-then c a b d xs ys x y = record {
  visits = visits-then a.offices xs ys x.visits (has_alike b.offices (offices_in a.offices xs) ys (λ k. sym (x.passes.paced.offices k)) y.visits);
  passes = passes-append (most_for_client * c) most_for_client (most_for_client * (c + 1)) a b d xs ys (omega arith) x.passes y.gives.passes;
  turns = λ e within is. elim (cases_lt e c) [
    | inl before ↦ enough_left e xs ys (x.turns e before is)
    | inr past ↦
        let same : e ≡ c = omega (arith, within, past) in
        elim (x.passes.kept e is) [
          | inl had ↦ enough_left e xs ys had
          | inr still ↦ enough_right e xs ys (subst (λ (n : ℕ). HasEnough n ys) (sym same) (y.gives.turn (ap b.clients (sym same) ∙ still)))
        ]
  ];
}

-- no number is above the last
pub beyond : {S W : Type 0} (clients : Clients S W) (d : ℕ) → 64 ≤ d → standing_at clients d ≡ absent
beyond {S} {W} clients d past = let room = clients.room in ap (λ (o : Option (Option (Client S W))). standing_of (client_in o)) (slice_get_past clients.slots.items d (omega (arith, past, room)))

pub all_served : {E : Type 0} (c : ℕ) (a b : Standings) (xs : List Work) → ((d : ℕ) → 64 ≤ d → a.clients d ≡ absent) → 64 ≤ c → c ≤ 64 → GivesTurnsBelow c a b xs → ServesAll {E = E} (Ok None) a b xs
all_served c a b xs none least most x = record {
  paced = paced-more (most_for_client * c) (most_for_client * 64) a b xs (omega (arith, most)) x.passes.paced;
  turns = (
    (λ d is. elim (cases_lt d c) [
      | inl within ↦ x.turns d within is
      | inr past ↦ absurd (none_ready (sym (none d (omega (arith, least, past))) ∙ is))
    ]),
    x.visits,
  );
  kept_office = x.passes.kept_office;
}

-- hosting ends meanwhile
pub some_served : {E : Type 0} (result : Result (Option Stopped) E) (c : ℕ) (a b d : Standings) (xs ys : List Work) → c < 64 → IfWhole result ⊥ → GivesTurnsBelow c a b xs → VisitsClient c most_for_client result b d ys
    → ServesAll result a d (xs ++ ys)
some_served result c a b d xs ys within cut x y = record {
  paced = paced-append (most_for_client * c) most_for_client (most_for_client * 64) a b d xs ys (omega (arith, within)) x.passes.paced y.gives.passes.paced;
  turns = cut_off (((c : ℕ) → a.clients c ≡ ready → HasEnough c (xs ++ ys)) × HasVisits a.offices (xs ++ ys)) result cut;
  kept_office = kept_then a b d xs ys x.passes.kept_office y.gives.passes.kept_office;
}

pub error_served : {E F : Type 0} (error : E) (other : F) (c : ℕ) (a b d : Standings) (xs ys : List Work) → c < 64 → GivesTurnsBelow c a b xs → VisitsClient c most_for_client (Err other) b d ys → ServesAll (Err error) a d (xs ++ ys)
error_served error other c a b d xs ys within x y = record { paced = (some_served (Err other) c a b d xs ys within tt x y).paced; turns = tt; kept_office = (some_served (Err other) c a b d xs ys within tt x y).kept_office }

-- the first of the line is this one
has_first : (c : ℕ) (line : List ℕ) (stands : ℕ → Standing) (works : List Work) → Some c ≡ first_of line → IsPiece c stands works → HasPiece line stands works
has_first c [] stands works is piece = absurd (let clash : ◌≡◌ {A = Option ℕ} (Some c) None = is in cc)
has_first c (first ∷ rest) stands works is piece = let same : c ≡ first = cc in subst (λ (n : ℕ). IsPiece n stands works) same piece

-- or there is none
has_none : (line : List ℕ) (stands : ℕ → Standing) → None ≡ first_of line → HasPiece line stands []
has_none [] stands is = refl
has_none (first ∷ rest) stands is = absurd (let clash : ◌≡◌ {A = Option ℕ} None (Some first) = is in cc)

-- a piece of work for the first of the line, and then the land office
pub works_on_then : {E : Type 0} (result : Result (Option Stopped) E) (c : ℕ) (a b d : Standings) (xs ys : List Work) → Some c ≡ first_of a.line → GivesPiece c a b xs → HearsBetween 33 result b d ys → WorksOnFirst result a d (xs ++ ys)
works_on_then {E} result c a b d xs ys is x y = record { passes = passes-append 1 33 most_for_piece a b d xs ys (omega arith) x.passes y.passes; piece = go result y }
  where
    one : HearsBetween {E = E} 33 (Ok None) b d ys → IsPiece c a.offices (xs ++ ys)
    one y = record {
      piece = x.piece;
      later = ys;
      all = ap (λ (l : List Work). l ++ ys) x.all;
      is = x.is;
      quiet = y.quiet;
      hears = λ k. subst (λ (it : Standing). HearsOffice k it ys) (x.passes.paced.offices k ∙ ap (λ (l : List Work). office_in k (a.offices k) l) x.all) (y.hears k);
    }

    go : (result : Result (Option Stopped) E) → HearsBetween 33 result b d ys → IfWhole result (HasPiece a.line a.offices (xs ++ ys))
    go (Ok None) y = has_first c a.line a.offices (xs ++ ys) is (one y)
    go (Ok (Some stopped)) y = tt
    go (Err error) y = tt

-- no reply is worked on
pub works_on_none : {E : Type 0} (a : Standings) → None ≡ first_of a.line → WorksOnFirst {E = E} (Ok None) a a []
works_on_none a is = record { passes = passes-nil most_for_piece a; piece = has_none a.line a.offices is }

-- the clients have their turns, and then the first of the line its piece of work
pub peers_then : {E : Type 0} (result : Result (Option Stopped) E) (a b d : Standings) (xs ys : List Work) → ServesAll {E = E} (Ok None) a b xs → WorksOnFirst result b d ys → ServesPeers result a d (xs ++ ys)
peers_then {E} result a b d xs ys x y = record {
  paced = paced-append 2368 34 2402 a b d xs ys (omega arith) x.paced y.passes.paced;
  turns = whole result (HasPiece b.line b.offices ys) (((c : ℕ) → a.clients c ≡ ready → HasEnough c (xs ++ ys)) × ComesToPiece a.line a.offices (xs ++ ys)) (λ has. (
    (λ c is. enough_left c xs ys (x.turns.0 c is)),
    record { visits = x.turns.1.visits; piece = ys; all = ap (λ (l : List Work). l ++ ys) x.turns.1.all; are = x.turns.1.are; works_on = works_on has },
  )) y.piece;
  kept_office = kept_then a b d xs ys x.kept_office y.passes.kept_office;
}
  where
    all : xs ≡ all_works x.turns.1.visits
    all = x.turns.1.all

    works_on : HasPiece b.line b.offices ys → HasPiece (line_in a.line (all_works x.turns.1.visits)) (offices_in a.offices (all_works x.turns.1.visits)) ys
    works_on has =
        subst (λ (l : List ℕ). HasPiece l (offices_in a.offices (all_works x.turns.1.visits)) ys) (x.paced.line ∙ ap (λ (l : List Work). line_in a.line l) all)
        (piece_alike b.line b.offices (offices_in a.offices (all_works x.turns.1.visits)) ys (λ k. sym (x.paced.offices k ∙ ap (λ (l : List Work). office_in k (a.offices k) l) all)) has)

-- hosting ends before
pub peers_cut : {E F : Type 0} (result : Result (Option Stopped) E) (was : Result (Option Stopped) F) (a b : Standings) (xs : List Work) → IfWhole result ⊥ → ServesAll was a b xs → ServesPeers result a b xs
peers_cut result was a b xs cut x = record {
  paced = paced-more 2368 2402 a b xs (omega arith) x.paced;
  turns = cut_off (((c : ℕ) → a.clients c ≡ ready → HasEnough c xs) × ComesToPiece a.line a.offices xs) result cut;
  kept_office = x.kept_office;
}

-- the clients have their turns, and then the land office
pub office_then : {E F : Type 0} (end : Option Stopped) (a b d : Standings) (xs ys : List Work) → ServesPeers {E = E} (Ok None) a b xs → ServesOffices 32 end b d ys → ServesEach {E = F} 2434 (Ok end) a d (xs ++ ys)
office_then {E} {F} end a b d xs ys x y = record {
  paced = paced-append 2402 32 2434 a b d xs ys (omega arith) x.paced y.passes.paced;
  turns = whole {E = F} (Ok end) ((k : ℕ) → b.offices k ≡ ready → any_of (is_office_turn k) ys ≡ true) (EachHasTurn a (xs ++ ys) × ComesByVisits a.line a.offices (xs ++ ys)) (λ turns. (
    record {
      clients = λ c is. enough_left c xs ys (x.turns.0 c is);
      offices = λ k is. elim (x.kept_office k is) [
        | inl had ↦ any_left (is_office_turn k) xs ys had
        | inr still ↦ any_right (is_office_turn k) xs ys (turns k still)
      ];
    },
    record {
      visits = x.turns.1.visits;
      piece = x.turns.1.piece;
      rest = ys;
      all = ap (λ (l : List Work). l ++ ys) x.turns.1.all ∙ append_assoc (all_works x.turns.1.visits) x.turns.1.piece ys;
      are = x.turns.1.are;
      works_on = x.turns.1.works_on;
      quiet = y.quiet;
    },
  )) y.turns;
}

-- hosting ended before it had
pub office_cut : {E : Type 0} (result : Result (Option Stopped) E) (a b : Standings) (xs : List Work) → IfWhole result ⊥ → ServesPeers result a b xs → ServesEach 2434 result a b xs
office_cut result a b xs cut x = record { paced = paced-more 2402 2434 a b xs (omega arith) x.paced; turns = cut_off (EachHasTurn a xs × ComesByVisits a.line a.offices xs) result cut }

-- the network tells who may go on, and they have their turns
pub asked_served : {E : Type 0} (result : Result (Option Stopped) E) (a b d : Standings) (xs ys : List Work) → IsAsked a b xs → ServesEach 2434 result b d ys → MakesRound 2435 result a d (xs ++ ys)
asked_served result a b d xs ys asked served = record {
  paced = paced-append 1 2434 2435 a b d xs ys (omega arith) asked.2 served.paced;
  gives = subst (λ (works : List Work). IfWhole result (GivesTurns a (works ++ ys))) (sym asked.1) (go result served.turns);
}
  where
    go : {E : Type 0} (result : Result (Option Stopped) E) → IfWhole result (EachHasTurn b ys × ComesByVisits b.line b.offices ys) → IfWhole result (GivesTurns a (wakes asked.0 ∷ ys))
    go (Ok None) turns = (
      record { clients = λ c is. turns.0.clients c (asked_stands a b xs asked c ∙ is); offices = λ k is. turns.0.offices k (asked_office a b xs asked k ∙ is) },
      subst (λ (l : List ℕ). ComesByVisits l (λ k. office_after k (a.offices k) (wakes asked.0)) ys) (asked_line a b xs asked) (comes_alike b.line b.offices (λ k. office_after k (a.offices k) (wakes asked.0)) ys (λ k. sym (asked_office a b xs asked k)) turns.1),
    )
    go (Ok (Some stopped)) turns = tt
    go (Err error) turns = tt

-- or the system refuses that
pub asked_only : {E : Type 0} (most : ℕ) (error : E) (a b : Standings) (xs : List Work) → 1 ≤ most → IsAsked a b xs → MakesRound most (Err error) a b xs
asked_only most error a b xs some asked = record { paced = paced-more 1 most a b xs some asked.2; gives = tt }

-- they had their turns, and then more is done
pub round_then : {E F : Type 0} (result : Result (Option Stopped) F) (m n most : ℕ) (a b d : Standings) (xs ys : List Work) → m + n ≤ most → MakesRound {E = E} m (Ok None) a b xs → IsAtDoors n b d ys → MakesRound most result a d (xs ++ ys)
round_then result m n most a b d xs ys within x y = record {
  paced = paced-append m n most a b d xs ys within x.paced y.paced;
  gives = certain result (GivesTurns a (xs ++ ys)) (gives_more a xs ys y.quiet x.gives);
}

pub round_cut : {E : Type 0} (result : Result (Option Stopped) E) (m most : ℕ) (a b : Standings) (xs : List Work) → m ≤ most → MakesRound m result a b xs → MakesRound most result a b xs
round_cut result m most a b xs within x = record { paced = paced-more m most a b xs within x.paced; gives = x.gives }

all_works-append : (rounds : List (List Work)) (round : List Work) → all_works (rounds ++ round ∷ []) ≡ all_works rounds ++ round
all_works-append [] round = append-nil round
all_works-append (first ∷ rounds) round = ap (λ (l : List Work). first ++ l) (all_works-append rounds round) ∙ sym (append_assoc first (all_works rounds) round)

-- all stand alike
abbrev pub AreAlike : Standings → Standings → Type 0
AreAlike some other = ((c : ℕ) → other.clients c ≡ some.clients c) × ((k : ℕ) → other.offices k ≡ some.offices k) × (other.line ≡ some.line)

gives_alike : (some other : Standings) (works : List Work) → AreAlike some other → GivesTurns some works → GivesTurns other works
gives_alike some other [] alike gives = absurd gives
gives_alike some other (wakes places ∷ later) alike gives = (
  record {
    clients = λ c is. gives.0.clients c (sym (ap (λ (it : Standing). stands_after c it (wakes places)) (alike.0 c)) ∙ is);
    offices = λ k is. gives.0.offices k (sym (ap (λ (it : Standing). office_after k it (wakes places)) (alike.1 k)) ∙ is);
  },
  subst (λ (l : List ℕ). ComesByVisits l (λ k. office_after k (other.offices k) (wakes places)) later) (sym alike.2)
      (comes_alike some.line (λ k. office_after k (some.offices k) (wakes places)) (λ k. office_after k (other.offices k) (wakes places)) later (λ k. ap (λ (it : Standing). office_after k it (wakes places)) (alike.1 k)) gives.1),
)
gives_alike some other (opens s c ∷ later) alike gives = absurd gives
gives_alike some other (acts s c act owing ∷ later) alike gives = absurd gives
gives_alike some other (waits s c ∷ later) alike gives = absurd gives
gives_alike some other (ends s c cause deeds said ∷ later) alike gives = absurd gives
gives_alike some other (office_comes o k ∷ later) alike gives = absurd gives
gives_alike some other (enters o k text turned deeds said ∷ later) alike gives = absurd gives
gives_alike some other (office_leaves o k overdue ∷ later) alike gives = absurd gives
gives_alike some other (aside deeds said ∷ later) alike gives = absurd gives

pub round_alike : (some other : Standings) (round : List Work) → AreAlike some other → IsRound some round → IsRound other round
round_alike some other round alike is = record { gives = gives_alike some other round alike is.gives; few = is.few }

rounds_alike : (some other : Standings) (rounds : List (List Work)) → AreAlike some other → AreRounds some rounds → AreRounds other rounds
rounds_alike some other [] alike are = tt
rounds_alike some other (round ∷ rounds) alike are = (
  round_alike some other round alike are.0,
  rounds_alike (all_after some round) (all_after other round) rounds
      ((λ c. ap (λ (it : Standing). stands_in c it round) (alike.0 c)), (λ k. ap (λ (it : Standing). office_in k it round) (alike.1 k)), ap (λ (l : List ℕ). line_in l round) alike.2) are.1,
)

-- one more round
rounds_more : (stands : Standings) (rounds : List (List Work)) (round : List Work) → AreRounds stands rounds → IsRound (all_after stands (all_works rounds)) round → AreRounds stands (rounds ++ round ∷ [])
rounds_more stands [] round are is = (round_alike (all_after stands []) stands round ((λ c. refl), (λ k. refl), refl) is, tt)
rounds_more stands (first ∷ rounds) round are is = (
  are.0,
  rounds_more (all_after stands first) rounds round are.1
      (round_alike (all_after stands (all_works (first ∷ rounds))) (all_after (all_after stands first) (all_works rounds)) round
      ((λ c. sym (stands_in-append c (stands.clients c) first (all_works rounds))), (λ k. sym (office_in-append k (stands.offices k) first (all_works rounds))), sym (line_in-append stands.line first (all_works rounds))) is),
)

pub rounds-nil : (a : Standings) → MadeRounds a a []
rounds-nil a = record { rounds = []; all = refl; served = tt; stand = λ c. refl; offices = λ k. refl; line = refl }

pub rounds-then : {E : Type 0} (a b d : Standings) (xs ys : List Work) → MadeRounds a b xs → MakesRound {E = E} most_in_round (Ok None) b d ys → MadeRounds a d (xs ++ ys)
rounds-then a b d xs ys x y = record {
  rounds = x.rounds ++ ys ∷ [];
  all = ap (λ (l : List Work). l ++ ys) x.all ∙ sym (all_works-append x.rounds ys);
  served = rounds_more a x.rounds ys x.served (round_alike b (all_after a (all_works x.rounds)) ys
      ((λ c. sym (x.stand c ∙ ap (λ (l : List Work). stands_in c (a.clients c) l) x.all)), (λ k. sym (x.offices k ∙ ap (λ (l : List Work). office_in k (a.offices k) l) x.all)), sym (x.line ∙ ap (λ (l : List Work). line_in a.line l) x.all))
      (record { gives = y.gives; few = y.paced.few }));
  stand = λ c. y.paced.stand c ∙ (ap (λ (it : Standing). stands_in c it ys) (x.stand c) ∙ sym (stands_in-append c (a.clients c) xs ys));
  offices = λ k. y.paced.offices k ∙ (ap (λ (it : Standing). office_in k it ys) (x.offices k) ∙ sym (office_in-append k (a.offices k) xs ys));
  line = y.paced.line ∙ (ap (λ (it : List ℕ). line_in it ys) x.line ∙ sym (line_in-append a.line xs ys));
}

-- hosting ends within a round, or after one
pub rounds_end : {E : Type 0} (result : Result (Option Stopped) E) (a b d : Standings) (xs ys : List Work) → MadeRounds a b xs → MakesRound most_in_round result b d ys → AreServed a (xs ++ ys)
rounds_end result a b d xs ys x y = record { rounds = x.rounds; last = ys; all = ap (λ (l : List Work). l ++ ys) x.all; served = x.served; few = y.paced.few }

pub rounds_spent : (a b : Standings) (xs : List Work) → MadeRounds a b xs → AreServed a xs
rounds_spent a b xs x = record { rounds = x.rounds; last = []; all = x.all ∙ sym (append-nil (all_works x.rounds)); served = x.served; few = omega arith }

-- whoever stands alike is served alike
pub served_alike : (a b : Standings) (works : List Work) → AreAlike a b → AreServed a works → AreServed b works
served_alike a b works alike s = record { rounds = s.rounds; last = s.last; all = s.all; served = rounds_alike a b s.rounds alike s.served; few = s.few }
