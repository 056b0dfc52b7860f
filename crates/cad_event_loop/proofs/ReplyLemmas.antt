-- What comes of an open connection in a whole round.
use Rattle.std.specs.Prelude.{⊤}
use Rattle.std.proofs.Common.{◌≡◌, ◌⊎◌, inl, inr, ℕ, ◌≤◌, nat_eq, Bool, true, false, ◌||◌, List, [], ◌∷◌, ◌++◌, Option, None, Some, refl, sym, ap, subst, ◌∙◌, if◌then◌else◌}
use Rattle.std.proofs.lemmas.Bool.{eqb-true, eq-eqb}
use Rattle.cad_stream.specs.declared.responder.Responder.{Ghosts}
use Rattle.cad_stream.specs.declared.journal_responder.JournalResponder.{Ghosts as JournalGhosts}
use Rattle.cad_desk.specs.declared.desk.Desk.{Desk}
use Rattle.cad_network.specs.lemmas.DeedLemmas.{or_none}
use Rattle.cad_clients.specs.declared.channel.Channel.{Channel}
use Rattle.cad_clients.specs.Channels.{MayWait}
use Rattle.cad_event_loop.specs.Replying.{is_leaving, RestsIn, EachIsServed}
use Rattle.cad_event_loop.specs.Turns.{Standing, absent, waiting, ready, working, Standings, nobody, woken, is_among, stands_after, stands_in, line_after, line_in, all_after, is_wait_of, is_end_of, any_of, turns_of, Replies, WorksOn, HasEnough, GivesTurns, IsRound, AreRounds, all_works}
use Rattle.cad_event_loop.specs.Works.{Held, Place, Same, Puts, Work, wakes, opens, acts, waits, ends, office_comes, enters, office_leaves, aside, Works, Goes}
use Rattle.cad_event_loop.proofs.LifeLemmas.{none_some, one_some}
use Rattle.cad_event_loop.specs.inner.Line.{is_worked_on, IsLineOf}
use Rattle.cad_event_loop.proofs.LineLemmas.{line_settled, line_alike, line_none, woken_alike}
use Rattle.cad_event_loop.proofs.StandingLemmas.{stands_in-append, office_in-append, line_in-append, enough_right, round_alike}

-- how the connection stands, and what is held of it
abbrev Fits : {W : Type 0} → Standing → Option (ℕ × Channel W) → Type 0
Fits absent slot = slot ≡ None
Fits {W} waiting slot = (s : ℕ) × (channel : Channel W) × (slot ≡ Some (s, channel)) × MayWait channel
Fits ready slot = ⊤
Fits working slot = ⊤

fits_woken : {W : Type 0} (told : Bool) (stand : Standing) (slot : Option (ℕ × Channel W)) → Fits stand slot → Fits (if told then woken stand else stand) slot
fits_woken true absent slot fits = fits
fits_woken true waiting slot fits = tt
fits_woken true ready slot fits = tt
fits_woken true working slot fits = tt
fits_woken false stand slot fits = fits

-- a change of one connection
fits_put : {W : Type 0} (d c : ℕ) (stand it : Standing) (old new : Held W) (one : Option (ℕ × Channel W)) → Puts old new d one → Fits it one → Fits stand (old c) → Fits (if nat_eq d c then it else stand) (new c)
fits_put {W} d c stand it old new one puts put fits = subst (λ (slot : Option (ℕ × Channel W)). Fits (if nat_eq d c then it else stand) slot) (sym (puts c)) (go (nat_eq d c))
  where
    go : (same : Bool) → Fits (if same then it else stand) (if same then one else old c)
    go true = put
    go false = fits

fits_same : {W : Type 0} (c : ℕ) (stand : Standing) (old new : Held W) → Same old new → Fits stand (old c) → Fits stand (new c)
fits_same {W} c stand old new same fits = subst (λ (slot : Option (ℕ × Channel W)). Fits stand slot) (sym (same c)) fits

-- a turn at which it waits
fits_wait : {W : Type 0} (s d c : ℕ) (stand : Standing) (slots : Held W) (channel : Channel W) → slots d ≡ Some (s, channel) → MayWait channel → Fits stand (slots c) → Fits (if nat_eq d c then waiting else stand) (slots c)
fits_wait s d c stand slots channel here rests fits = go (nat_eq d c) refl
  where
    go : (same : Bool) → nat_eq d c ≡ same → Fits (if same then waiting else stand) (slots c)
    go true e = (s, channel, ap slots (sym (eqb-true d c e)) ∙ here, rests)
    go false e = fits

module _ {R J W : Type 0} (g : Ghosts R) (jg : JournalGhosts R J) (owes : W → List ℕ) where
  fits_after : (c : ℕ) (stand : Standing) (work : Work) (old new : Desk R) (here next : Place J W) → Works g jg owes old here work new next → Fits stand (here.slots c) → Fits (stands_after c stand work) (next.slots c)
  fits_after c stand (wakes places) old new here next w fits = fits_woken (is_among c places) stand (next.slots c) (fits_same c stand here.slots next.slots w.1 fits)
  fits_after c stand (opens s d) old new here next w fits = fits_put d c stand ready here.slots next.slots (Some (s, w.0)) w.4 tt fits
  fits_after c stand (acts s d act owing) old new here next w fits = fits_put d c stand (if owing then working else ready) here.slots next.slots (Some (s, w.1)) w.4 (acted owing (Some (s, w.1))) fits
    where
      acted : (owing : Bool) (slot : Option (ℕ × Channel W)) → Fits (if owing then working else ready) slot
      acted true slot = tt
      acted false slot = tt
  fits_after c stand (waits s d) old new here next w fits =
      fits_same c (if nat_eq d c then waiting else stand) here.slots next.slots w.4 (fits_wait s d c stand here.slots w.0 w.1 w.2 fits)
  fits_after c stand (ends s d cause deeds said) old new here next w fits = fits_put d c stand absent here.slots next.slots None w.5 refl fits
  fits_after c stand (office_comes o k) old new here next w fits = fits_same c stand here.slots next.slots w.4 fits
  fits_after c stand (enters o k text turned deeds said) old new here next w fits = fits_same c stand here.slots next.slots w.9 fits
  fits_after c stand (office_leaves o k overdue) old new here next w fits = fits_same c stand here.slots next.slots w.3 fits
  fits_after c stand (aside deeds said) old new here next w fits = fits_same c stand here.slots next.slots w.2 fits

  fits_in : (c : ℕ) (works : List Work) (stand : Standing) (old new : Desk R) (here next : Place J W) → Goes g jg owes old here works new next → Fits stand (here.slots c) → Fits (stands_in c stand works) (next.slots c)
  fits_in c [] stand old new here next goes fits = subst (λ (it : Place J W). Fits stand (it.slots c)) (sym goes.1) fits
  fits_in c (work ∷ later) stand old new here next goes fits =
      fits_in c later (stands_after c stand work) goes.0 new goes.1 next goes.3 (fits_after c stand work old goes.0 here goes.1 goes.2 fits)

  -- connection c has this socket
  abbrev HasSocket : ℕ → ℕ → Place J W → Type 0
  HasSocket c s here = (channel : Channel W) × (here.slots c ≡ Some (s, channel))

  socket_same : (c s : ℕ) (here next : Place J W) → Same here.slots next.slots → HasSocket c s here → HasSocket c s next
  socket_same c s here next same has = (has.0, same c ∙ has.1)

  -- it keeps that while it is not let go
  socket_put : (d c t s : ℕ) (here next : Place J W) (one channel : Channel W) → here.slots d ≡ Some (t, one) → Puts here.slots next.slots d (Some (t, channel)) → HasSocket c s here → HasSocket c s next
  socket_put d c t s here next one channel at puts has = go (nat_eq d c) refl
    where
      go : (same : Bool) → nat_eq d c ≡ same → HasSocket c s next
      go true e =
          let both = one_some {X = ℕ × Channel W} (t, one) (s, has.0) (sym at ∙ (ap here.slots (eqb-true d c e) ∙ has.1)) in
          (channel, puts c ∙ rw e (ap (λ (n : ℕ). Some (n, channel)) (ap (λ (p : ℕ × Channel W). p.0) both)))
      go false e = (has.0, puts c ∙ rw e has.1)

  socket_other : (d c s : ℕ) (here next : Place J W) (one : Option (ℕ × Channel W)) → nat_eq d c ≡ false → Puts here.slots next.slots d one → HasSocket c s here → HasSocket c s next
  socket_other d c s here next one e puts has = (has.0, puts c ∙ rw e has.1)

  socket_open : (d c s : ℕ) (here next : Place J W) (one : Option (ℕ × Channel W)) → here.slots d ≡ None → Puts here.slots next.slots d one → HasSocket c s here → HasSocket c s next
  socket_open d c s here next one none puts has = go (nat_eq d c) refl
    where
      go : (same : Bool) → nat_eq d c ≡ same → HasSocket c s next
      go true e = absurd (none_some {X = ℕ × Channel W} (s, has.0) (sym none ∙ (ap here.slots (eqb-true d c e) ∙ has.1)))
      go false e = socket_other d c s here next one e puts has

  socket_after : (c s : ℕ) (work : Work) (old new : Desk R) (here next : Place J W) → Works g jg owes old here work new next → is_leaving c work ≡ false → HasSocket c s here → HasSocket c s next
  socket_after c s (wakes places) old new here next w stays has = socket_same c s here next w.1 has
  socket_after c s (opens t d) old new here next w stays has = socket_open d c s here next (Some (t, w.0)) w.1 w.4 has
  socket_after c s (acts t d act owing) old new here next w stays has = socket_put d c t s here next w.0 w.1 w.2 w.4 has
  socket_after c s (waits t d) old new here next w stays has = socket_same c s here next w.4 has
  socket_after c s (ends t d cause deeds said) old new here next w stays has = socket_other d c s here next None stays w.5 has
  socket_after c s (office_comes o k) old new here next w stays has = socket_same c s here next w.4 has
  socket_after c s (enters o k text turned deeds said) old new here next w stays has = socket_same c s here next w.9 has
  socket_after c s (office_leaves o k overdue) old new here next w stays has = socket_same c s here next w.3 has
  socket_after c s (aside deeds said) old new here next w stays has = socket_same c s here next w.2 has

  rests_later : (c s : ℕ) (work : Work) (later : List Work) (old mid : Desk R) (here between : Place J W) → Works g jg owes old here work mid between → RestsIn g jg owes c s later mid between → RestsIn g jg owes c s (work ∷ later) old here
  rests_later c s work later old mid here between w r = record {
    before = work ∷ r.before;
    later = r.later;
    mid = r.mid;
    between = r.between;
    channel = r.channel;
    all = ap (λ (l : List Work). work ∷ l) r.all;
    goes = (mid, between, w, r.goes);
    held = r.held;
    rests = r.rests;
  }

  rests_now : (c s t d : ℕ) (later : List Work) (old new : Desk R) (here next : Place J W) → Works g jg owes old here (waits t d) new next → HasSocket c s here → nat_eq d c ≡ true → RestsIn g jg owes c s (waits t d ∷ later) old here
  rests_now c s t d later old new here next w has e =
      let same = eqb-true d c e in
      let at : here.slots c ≡ Some (t, w.0) = ap here.slots (sym same) ∙ w.1 in
      let named : t ≡ s = ap (λ (p : ℕ × Channel W). p.0) (one_some {X = ℕ × Channel W} (t, w.0) (s, has.0) (sym at ∙ has.1)) in
      record {
        before = [];
        later = later;
        mid = old;
        between = here;
        channel = w.0;
        all = ap (λ (n : ℕ). waits n d ∷ later) named ∙ ap (λ (n : ℕ). waits s n ∷ later) same;
        goes = (refl, refl);
        held = at ∙ ap (λ (n : ℕ). Some (n, w.0)) named;
        rests = w.2;
      }

  -- the turn at which it waits
  rests_in : (c s : ℕ) (works : List Work) (old new : Desk R) (here next : Place J W) → Goes g jg owes old here works new next → any_of (is_leaving c) works ≡ false → HasSocket c s here → any_of (is_wait_of c) works ≡ true → RestsIn g jg owes c s works old here
  rests_in c s [] old new here next goes stays has some = absurd (let clash : false ≡ true = some in cc)
  rests_in c s (work ∷ later) old new here next goes stays has some =
      let none = or_none (is_leaving c work) (any_of (is_leaving c) later) stays in
      let kept = socket_after c s work old goes.0 here goes.1 goes.2 none.0 has in
      go work goes.2 (is_wait_of c work) refl some (λ more. rests_later c s work later old goes.0 here goes.1 goes.2 (rests_in c s later goes.0 new goes.1 next goes.3 none.1 kept more))
    where
      go : (work : Work) → Works g jg owes old here work goes.0 goes.1 → (is : Bool) → is_wait_of c work ≡ is → (is_wait_of c work || any_of (is_wait_of c) later) ≡ true → (any_of (is_wait_of c) later ≡ true → RestsIn g jg owes c s (work ∷ later) old here) → RestsIn g jg owes c s (work ∷ later) old here
      go work w false e some more = more (rw e at some)
      go (waits t d) w true e some more = rests_now c s t d later old goes.0 here goes.1 w has e
      go (wakes places) w true e some more = absurd (let clash : false ≡ true = e in cc)
      go (opens t d) w true e some more = absurd (let clash : false ≡ true = e in cc)
      go (acts t d act owing) w true e some more = absurd (let clash : false ≡ true = e in cc)
      go (ends t d cause deeds said) w true e some more = absurd (let clash : false ≡ true = e in cc)
      go (office_comes o k) w true e some more = absurd (let clash : false ≡ true = e in cc)
      go (enters o k text turned deeds said) w true e some more = absurd (let clash : false ≡ true = e in cc)
      go (office_leaves o k overdue) w true e some more = absurd (let clash : false ≡ true = e in cc)
      go (aside deeds said) w true e some more = absurd (let clash : false ≡ true = e in cc)

-- those whose replies are worked on are in the line, whatever is done
line_goes : (stands : ℕ → Standing) (line : List ℕ) (work : Work) → IsLineOf stands line → IsLineOf (λ d. stands_after d (stands d) work) (line_after line work)
line_goes stands line (wakes places) is = line_alike stands (λ d. stands_after d (stands d) (wakes places)) line is (λ d. woken_alike (is_among d places) (stands d))
line_goes stands line (opens s c) is = line_settled c false stands (λ d. stands_after d (stands d) (opens s c)) line is (λ d other. rw other refl) (rw (eq-eqb c c refl) refl)
line_goes stands line (acts s c act owing) is =
    line_settled c owing stands (λ d. stands_after d (stands d) (acts s c act owing)) line is (λ d other. rw other refl) (own owing ∙ sym (ap (λ (b : Bool). is_worked_on (if b then (if owing then working else ready) else stands c)) (eq-eqb c c refl)))
  where
    own : (owing : Bool) → owing ≡ is_worked_on (if owing then working else ready)
    own true = refl
    own false = refl
line_goes stands line (waits s c) is = line_settled c false stands (λ d. stands_after d (stands d) (waits s c)) line is (λ d other. rw other refl) (rw (eq-eqb c c refl) refl)
line_goes stands line (ends s c cause deeds said) is = line_settled c false stands (λ d. stands_after d (stands d) (ends s c cause deeds said)) line is (λ d other. rw other refl) (rw (eq-eqb c c refl) refl)
line_goes stands line (office_comes o k) is = line_alike stands stands line is (λ d. refl)
line_goes stands line (enters o k text turned deeds said) is = line_alike stands stands line is (λ d. refl)
line_goes stands line (office_leaves o k overdue) is = line_alike stands stands line is (λ d. refl)
line_goes stands line (aside deeds said) is = line_alike stands stands line is (λ d. refl)

line_stays : (works : List Work) (stands : ℕ → Standing) (line : List ℕ) → IsLineOf stands line → IsLineOf (λ d. stands_in d (stands d) works) (line_in line works)
line_stays [] stands line is = is
line_stays (work ∷ later) stands line is = line_stays later (λ d. stands_after d (stands d) work) (line_after line work) (line_goes stands line work is)

-- the last of the rounds is one
last_round : (stands : Standings) (rounds : List (List Work)) (round : List Work) → AreRounds stands (rounds ++ round ∷ []) → IsRound (all_after stands (all_works rounds)) round
last_round stands [] round are = round_alike stands (all_after stands []) round ((λ c. refl), (λ k. refl), refl) are.0
last_round stands (first ∷ rounds) round are =
    round_alike (all_after (all_after stands first) (all_works rounds)) (all_after stands (all_works (first ∷ rounds))) round
    ((λ c. stands_in-append c (stands.clients c) first (all_works rounds)), (λ k. office_in-append k (stands.offices k) first (all_works rounds)), line_in-append stands.line first (all_works rounds))
    (last_round (all_after stands first) rounds round are.1)

-- it is over, where it ends by a turn of its own
over_leaves : (c : ℕ) (works : List Work) → any_of (is_end_of c) works ≡ true → any_of (is_leaving c) works ≡ true
over_leaves c [] e = e
over_leaves c (work ∷ later) e = go work (over_leaves c later) e
  where
    last : (a b : Bool) → (b ≡ true → (a || b) ≡ true)
    last true b e = refl
    last false b e = e

    both : (a b d : Bool) → (b ≡ true → d ≡ true) → (a || b) ≡ true → (a || d) ≡ true
    both true b d so e = refl
    both false b d so e = so e

    go : (work : Work) → (any_of (is_end_of c) later ≡ true → any_of (is_leaving c) later ≡ true) → any_of (is_end_of c) (work ∷ later) ≡ true → any_of (is_leaving c) (work ∷ later) ≡ true
    go (ends s d None deeds said) so e = last (nat_eq d c) (any_of (is_leaving c) later) (so e)
    go (ends s d (Some ending) deeds said) so e = both (nat_eq d c) (any_of (is_end_of c) later) (any_of (is_leaving c) later) so e
    go (wakes places) so e = so e
    go (opens s d) so e = so e
    go (acts s d act owing) so e = so e
    go (waits s d) so e = so e
    go (office_comes o k) so e = so e
    go (enters o k text turned deeds said) so e = so e
    go (office_leaves o k overdue) so e = so e
    go (aside deeds said) so e = so e

module _ {R J W : Type 0} (g : Ghosts R) (jg : JournalGhosts R J) (owes : W → List ℕ) where
  -- what comes of a connection in works in which it has enough
  abbrev Comes : ℕ → ℕ → List Work → Desk R → Place J W → Type 0
  Comes c s round mid here = RestsIn g jg owes c s round mid here ⊎ ((any_of (is_leaving c) round ≡ true) ⊎ (Replies c round ⊎ (WorksOn c round ⊎ (4 ≤ turns_of c round))))

  comes_so : (c s : ℕ) (round : List Work) (mid new : Desk R) (here next : Place J W) → Goes g jg owes mid here round new next → HasSocket g jg owes c s here → HasEnough c round → Comes c s round mid here
  comes_so c s round mid new here next goes has enough = go (any_of (is_leaving c) round) refl
    where
      go : (leaves : Bool) → any_of (is_leaving c) round ≡ leaves → Comes c s round mid here
      go true e = inr (inl e)
      go false e = elim enough.enough [
        | inl over ↦ inr (inl (over_leaves c round over))
        | inr more ↦
            elim more [
              | inl waited ↦ inl (rests_in g jg owes c s round mid new here next goes e has waited)
              | inr most ↦
                  elim most [
                    | inl replied ↦ inr (inr (inl replied))
                    | inr rest ↦ inr (inr (inr rest))
                  ]
            ]
      ]

  -- it may go on since before the round, or since the network told of it as the round began
  served_round : (c s : ℕ) (channel : Channel W) (stands : Standings) (round : List Work) (mid new : Desk R) (here next : Place J W) → GivesTurns stands round → Fits (stands.clients c) (here.slots c) → Goes g jg owes mid here round new next
      → here.slots c ≡ Some (s, channel) → IsLineOf stands.clients stands.line → ((stands.clients c ≡ waiting) × MayWait channel) ⊎ (((stands.clients c ≡ working) × (is_among c stands.line ≡ true)) ⊎ Comes c s round mid here)
  served_round c s channel stands [] mid new here next gives fits goes at lined = absurd gives
  served_round c s channel stands (wakes places ∷ later) mid new here next gives fits goes at lined = go (stands.clients c) refl fits
    where
      given : stands_after c (stands.clients c) (wakes places) ≡ ready → Comes c s (wakes places ∷ later) mid here
      given is = comes_so c s (wakes places ∷ later) mid new here next goes (channel, at) (enough_right c (wakes places ∷ []) later (gives.0.clients c is))

      woke_so : (told : Bool) → is_among c places ≡ told → stands.clients c ≡ waiting → MayWait channel → ((stands.clients c ≡ waiting) × MayWait channel) ⊎ (((stands.clients c ≡ working) × (is_among c stands.line ≡ true)) ⊎ Comes c s (wakes places ∷ later) mid here)
      woke_so true e is rests = inr (inr (given (rw (e, is) refl)))
      woke_so false e is rests = inl (is, rests)

      ready_so : (told : Bool) (it : Standing) → it ≡ ready → (if told then woken it else it) ≡ ready
      ready_so true it is = ap woken is
      ready_so false it is = is

      go : (it : Standing) → stands.clients c ≡ it → Fits it (here.slots c) → ((stands.clients c ≡ waiting) × MayWait channel) ⊎ (((stands.clients c ≡ working) × (is_among c stands.line ≡ true)) ⊎ Comes c s (wakes places ∷ later) mid here)
      go absent is fits = absurd (none_some {X = ℕ × Channel W} (s, channel) (sym fits ∙ at))
      go waiting is fits =
          let same = ap (λ (p : ℕ × Channel W). p.1) (one_some {X = ℕ × Channel W} (fits.0, fits.1) (s, channel) (sym fits.2 ∙ at)) in
          woke_so (is_among c places) refl is (subst (λ (it : Channel W). MayWait it) same fits.3)
      go ready is fits = inr (inr (given (ready_so (is_among c places) (stands.clients c) is)))
      go working is fits = inr (inl (is, lined.each c ∙ ap is_worked_on is))
  served_round c s channel stands (opens t d ∷ later) mid new here next gives fits goes at lined = absurd gives
  served_round c s channel stands (acts t d act owing ∷ later) mid new here next gives fits goes at lined = absurd gives
  served_round c s channel stands (waits t d ∷ later) mid new here next gives fits goes at lined = absurd gives
  served_round c s channel stands (ends t d cause deeds said ∷ later) mid new here next gives fits goes at lined = absurd gives
  served_round c s channel stands (office_comes o k ∷ later) mid new here next gives fits goes at lined = absurd gives
  served_round c s channel stands (enters o k text turned deeds said ∷ later) mid new here next gives fits goes at lined = absurd gives
  served_round c s channel stands (office_leaves o k overdue ∷ later) mid new here next gives fits goes at lined = absurd gives
  served_round c s channel stands (aside deeds said ∷ later) mid new here next gives fits goes at lined = absurd gives

  pub each_is_served : EachIsServed g jg owes
  each_is_served c s channel rounds round old mid new first here next nobody_first are before goes at =
      let is = last_round nobody rounds round are in
      served_round c s channel (all_after nobody (all_works rounds)) round mid new here next is.gives (fits_in g jg owes c (all_works rounds) absent old mid first here before (nobody_first.0 c)) goes at
      (line_stays (all_works rounds) (λ d. absent) [] (line_none (λ d. absent) (λ d. refl)))
